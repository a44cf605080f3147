-- `lastpiece::failed_read` meets its contract: each branch knows whether the error is of the medium.
use Rattle.layout.specs.Pick.{pick}
use Rattle.step.specs.Rules.{failed_read}
use Rattle.settle.proofs.lastpiece.failed_read.Goals as goal

pub returns-then-media : goal.returns-then-media
unfolding failed_read pick
returns-then-media c = rw c.if-media.true

pub returns-else-media : goal.returns-else-media
unfolding failed_read pick
returns-else-media c = rw c.if-media.false
