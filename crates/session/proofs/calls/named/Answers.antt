-- `calls::named` meets its contract: the words are those of the definition.
use Rattle.session.specs.Asking.{named_in}
use Rattle.session.proofs.calls.named.Goals as goal

pub returns : goal.returns
unfolding named_in
returns c = λ j. record { volume = c.word.ensures j; region = c.word-2.ensures j; generation = c.word-3.ensures j }
