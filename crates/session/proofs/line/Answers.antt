-- `session::line` meets its contract: each arm knows the stage (Stages).
use Rattle.session.proofs.Stages.{at_before, at_planned, at_table, at_refused, at_over}
use Rattle.session.proofs.line.Goals as goal

pub returns-in-Before-clause-by_index : goal.returns-in-Before-clause-by_index
returns-in-Before-clause-by_index c =
    let a = c.args in
    let h = a.host.now in
    λ bytes k. at_before _ bytes a.number a.plan.now h.flushes h.counts _ c.in-Before.is _ _ (c.before_line.ensures.1 bytes k _)

pub returns-in-Planned-clause-by_index : goal.returns-in-Planned-clause-by_index
returns-in-Planned-clause-by_index c =
    let a = c.args in
    let h = a.host.now in
    λ bytes k. at_planned _ bytes a.number a.plan.now h.flushes h.counts _ _ c.in-Planned.is _ _ (c.planned_line.ensures.by_index bytes k)

pub returns-in-Table-clause-by_index : goal.returns-in-Table-clause-by_index
returns-in-Table-clause-by_index c =
    let a = c.args in
    let h = a.host.now in
    λ bytes k. at_table _ bytes a.number a.plan.now h.flushes h.counts _ _ c.in-Table.is _ _ (c.table_line.ensures.by_index bytes k a.plan.now)

pub returns-in-Refused-clause-by_index : goal.returns-in-Refused-clause-by_index
returns-in-Refused-clause-by_index c =
    let a = c.args in
    let h = a.host.now in
    λ bytes k. at_refused _ bytes a.number a.plan.now h.flushes h.counts _ c.in-Refused.is _ (c.refused_line.ensures.1 bytes k)

pub returns-in-Over-clause-by_index : goal.returns-in-Over-clause-by_index
returns-in-Over-clause-by_index c =
    let a = c.args in
    let h = a.host.now in
    λ bytes k. at_over _ bytes a.number a.plan.now h.flushes h.counts _ c.in-Over.is
