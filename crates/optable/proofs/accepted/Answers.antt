-- `optable::accepted` meets its contract, by that of the wrapping sum.
use Rattle.std.proofs.Common.{rules}
use Rattle.layout.specs.Pick.{pick}
use Rattle.regionmap.specs.Found.{wrap64}
use Rattle.optable.specs.Counted.{accepted_if}
use Rattle.optable.proofs.accepted.Goals as goal

pub returns-then-accepts : goal.returns-then-accepts
unfolding accepted_if wrap64 pick
returns-then-accepts c = search rules

pub returns-else-accepts : goal.returns-else-accepts
unfolding accepted_if pick
returns-else-accepts c = search rules
