-- `release::poison` meets its contract: each arm knows whether there is a cause.
use Rattle.std.proofs.Common.{rules}
use Rattle.arrival.specs.Carried.{poisoned_by}
use Rattle.arrival.proofs.release.poison.Goals as goal

pub returns-in-Some : goal.returns-in-Some
unfolding poisoned_by
returns-in-Some c = search rules

pub returns-in_default : goal.returns-in_default
unfolding poisoned_by
returns-in_default c = search rules
