-- `decode::range_of` meets its contract: each word is read where the range has it.
use mathlib.Core.Path.{refl}
use Rattle.model.specs.Memory.{range_in}
use Rattle.ring.proofs.decode.range_of.Goals as goal

pub returns : goal.returns
unfolding range_in
returns c = refl
