-- `optable::released` meets its contract, case by case.
use Rattle.std.proofs.Common.{rules}
use Rattle.regionmap.specs.Found.{wrap64}
use Rattle.optable.specs.Counted.{released_by}
use Rattle.optable.proofs.released.Goals as goal

pub returns-in-Nothing : goal.returns-in-Nothing
unfolding released_by
returns-in-Nothing c = search rules

pub returns-in-Rejected : goal.returns-in-Rejected
unfolding released_by
returns-in-Rejected c = search rules

pub returns-in-Completed : goal.returns-in-Completed
unfolding released_by wrap64
returns-in-Completed c = search rules

pub returns-in-Taken : goal.returns-in-Taken
unfolding released_by
returns-in-Taken c = search rules
