-- `preamble::planned::planned_line` meets its contract: `start`, or a line that is none (PlannedLines).
use Rattle.session.proofs.PlannedLines.{start_planned, other_planned}
use Rattle.session.proofs.preamble.planned.planned_line.Goals as goal

pub returns-in-Start-clause-by_index : goal.returns-in-Start-clause-by_index
returns-in-Start-clause-by_index c =
    let a = c.args in
    let h = a.host.now in
    λ bytes k. start_planned a.o bytes a.number a.plan.now h.flushes h.counts _ _ c.in-Start.is (c.finish-line.ensures bytes k) _ _ c.start_line.ensures.tells

pub returns-in_default-clause-by_index : goal.returns-in_default-clause-by_index
returns-in_default-clause-by_index c =
    let a = c.args in
    let h = a.host.now in
    λ bytes k. let read = c.finish-line.ensures bytes k in other_planned a.o bytes a.number a.plan.now h.flushes h.counts _ _ read _ _ (c.opening_line.ensures.1 bytes k read c.in_default.not-Start h.flushes h.counts _)
