-- `settle::buffer_as` meets its contract: each branch knows whether the buffer came back, and there the definition computes.
use Rattle.step.specs.Rules.{buffer_as}
use Rattle.settle.proofs.buffer_as.Goals as goal

pub returns-then-back : goal.returns-then-back
unfolding buffer_as
returns-then-back c = rw c.if-back.true

pub returns-else-back : goal.returns-else-back
unfolding buffer_as
returns-else-back c = rw c.if-back.false
