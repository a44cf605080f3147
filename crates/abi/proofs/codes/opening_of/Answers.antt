-- `codes::opening_of` meets its contract: each word is read where the opening has it.
use mathlib.Core.Path.{refl}
use Rattle.model.specs.Memory.{flag, settings_in}
use Rattle.abi.proofs.codes.opening_of.Goals as goal

pub returns : goal.returns
unfolding settings_in flag
returns c = refl
