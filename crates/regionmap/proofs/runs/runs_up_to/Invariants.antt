-- `runs::runs_up_to` meets its contract. The invariant: the run before `lo` starts not above the position, and the run at `hi` above
-- it; the runs need not ascend for that. The measure is `hi - lo`.
use Rattle.std.proofs.Common.{◌-◌}
use Rattle.regionmap.proofs.Found.{Bracket}
use Rattle.regionmap.proofs.runs.runs_up_to.Given as goal

abbrev pub invariant-loop-lo : goal.invariant-loop-lo
invariant-loop-lo l = Bracket l.map l.count l.p l.lo l.hi

abbrev pub decreases-loop-lo : goal.decreases-loop-lo
decreases-loop-lo l = l.hi - l.lo
