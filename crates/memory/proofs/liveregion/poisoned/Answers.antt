-- `liveregion::poisoned` meets its contract: the word 19 says whether, and the cause is what cause_of ensures of the words behind it.
use Rattle.std.proofs.Common.{rules}
use Rattle.layout.specs.Pick.{pick}
use Rattle.model.specs.Memory.{flag, poison_in}
use Rattle.memory.proofs.liveregion.poisoned.Goals as goal

pub returns-then-store-lt-HEAD : goal.returns-then-store-lt-HEAD
unfolding poison_in flag pick
returns-then-store-lt-HEAD c = search rules

pub returns : goal.returns
unfolding poison_in flag pick
returns c = search rules
