-- `extents::Listed::run_count` meets its contract. The loop's invariant: the count so far and the runs of the regions left are all runs.
use Rattle.std.proofs.Common.{◌≡◌, ◌+◌, ◌*◌, ◌≤◌, length}
use Rattle.opening.proofs.CardRuns.{row, row_from}
use Rattle.opening.proofs.extents.Listed.run_count.Given as goal

abbrev pub invariant-loop-h : goal.invariant-loop-h
invariant-loop-h l =
    (l.count ≤ 33 * l.h) × (l.count + length (row_from l.self.plan.now l.self.regions l.h) ≡ length (row l.self.plan.now l.self.regions))
