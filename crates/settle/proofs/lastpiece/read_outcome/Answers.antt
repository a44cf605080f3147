-- `lastpiece::read_outcome` meets its contract: each arm knows which answer it is; a sum that fits does not wrap (Settling).
use Rattle.std.proofs.Common.{ap, refl}
use Rattle.layout.specs.Pick.{pick}
use Rattle.completion.specs.declared.Outcome.TheVariants.{Read}
use Rattle.step.specs.Rules.{read_outcome}
use Rattle.settle.specs.Finished.{CountFits}
use Rattle.settle.proofs.Settling.{no_wrap}
use Rattle.settle.proofs.lastpiece.read_outcome.Goals as goal

pub returns-then-back : goal.returns-then-back
unfolding CountFits read_outcome pick
returns-then-back c =
    let a = c.args in
    rw (c.in-Count.is, c.if-back.true) (λ fits. ap Read (no_wrap a.s.done _ _ refl fits))

pub returns-else-back : goal.returns-else-back
unfolding read_outcome pick
returns-else-back c = λ fits. rw (c.in-Count.is, c.if-back.false)

pub returns-in-Error : goal.returns-in-Error
unfolding read_outcome
returns-in-Error c = λ fits. rw (c.in-Error.is, c.failed_read.ensures)

pub returns-in-Refused : goal.returns-in-Refused
unfolding read_outcome
returns-in-Refused c = λ fits. rw c.in-Refused.is

pub returns-in-RefusedWith : goal.returns-in-RefusedWith
unfolding read_outcome
returns-in-RefusedWith c = λ fits. rw (c.in-RefusedWith.is, c.failed_read-in-RefusedWith.ensures)
