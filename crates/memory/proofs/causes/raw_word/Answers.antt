-- `causes::raw_word` meets its contract.
use Rattle.std.proofs.Common.{rules}
use Rattle.model.specs.Memory.{raw_word}
use Rattle.memory.proofs.causes.raw_word.Goals as goal

pub returns : goal.returns
unfolding raw_word
returns c = search rules
