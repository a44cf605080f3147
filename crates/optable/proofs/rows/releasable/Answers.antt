-- `rows::releasable` meets its contract, by that of `frees_row`.
use Rattle.layout.specs.Pick.{pick}
use Rattle.optable.specs.Claimed.{frees_row, releasable_of}
use Rattle.std.proofs.Common.{rules}
use Rattle.optable.proofs.rows.releasable.Goals as goal

pub returns-then-frees_row : goal.returns-then-frees_row
unfolding releasable_of frees_row pick
returns-then-frees_row c = search rules

pub returns-else-frees_row : goal.returns-else-frees_row
unfolding releasable_of frees_row pick
returns-else-frees_row c = search rules
