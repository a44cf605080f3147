-- `causes::has_word` meets its contract.
use Rattle.std.proofs.Common.{rules}
use Rattle.model.specs.Memory.{has_word}
use Rattle.memory.proofs.causes.has_word.Goals as goal

pub returns : goal.returns
unfolding has_word
returns c = search rules
