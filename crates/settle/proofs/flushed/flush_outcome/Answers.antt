-- `flushed::flush_outcome` meets its contract: each arm knows which result it is, and there the definition computes.
use Rattle.step.specs.Rules.{flush_outcome}
use Rattle.settle.proofs.flushed.flush_outcome.Goals as goal

pub returns-in-Need : goal.returns-in-Need
unfolding flush_outcome
returns-in-Need c = rw (c.in-Need.is, c.receipt_for.ensures)

pub returns-in-Unknown : goal.returns-in-Unknown
unfolding flush_outcome
returns-in-Unknown c = rw c.in-Unknown.is

pub returns-in-Poisoned : goal.returns-in-Poisoned
unfolding flush_outcome
returns-in-Poisoned c = rw c.in-Poisoned.is
