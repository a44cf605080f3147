-- `conclude::unflushed_outcome` meets its contract: each arm knows whether the store is poisoned.
use Rattle.step.specs.Rules.{unflushed}
use Rattle.settle.proofs.conclude.unflushed_outcome.Goals as goal

pub returns-in-None : goal.returns-in-None
unfolding unflushed
returns-in-None c = rw (c.in-None.is, c.receipt_for.ensures)

pub returns-in-Some : goal.returns-in-Some
unfolding unflushed
returns-in-Some c = rw c.in-Some.is
