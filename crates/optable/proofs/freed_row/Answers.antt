-- `optable::freed_row` meets its contract: the row is the definition's.
use Rattle.std.proofs.Common.{refl}
use Rattle.model.specs.State.{freed}
use Rattle.optable.proofs.freed_row.Goals as goal

pub returns : goal.returns
unfolding freed
returns c = refl
