-- `touched::row_of` meets its contract, by computation.
use Rattle.std.proofs.Common.{refl}
use Rattle.step.specs.Step.{row_of}
use Rattle.optable.proofs.touched.row_of.Goals as goal

pub returns : goal.returns
unfolding row_of
returns c = refl
