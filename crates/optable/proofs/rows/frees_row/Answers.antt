-- `rows::frees_row` meets its contract, case by case.
use Rattle.optable.specs.Claimed.{frees_row}
use Rattle.std.proofs.Common.{rules}
use Rattle.optable.proofs.rows.frees_row.Goals as goal

pub returns-in-Nothing : goal.returns-in-Nothing
unfolding frees_row
returns-in-Nothing c = search rules

pub returns-in-Rejected : goal.returns-in-Rejected
unfolding frees_row
returns-in-Rejected c = search rules

pub returns-in-Completed : goal.returns-in-Completed
unfolding frees_row
returns-in-Completed c = search rules

pub returns-in-Taken : goal.returns-in-Taken
unfolding frees_row
returns-in-Taken c = search rules
