-- `extents::Listed::run` meets its contract. The loop's invariant: the j-th run of the regions left is the k-th of all.
use Rattle.std.proofs.Common.{◌≡◌, get_or}
use Rattle.opening.proofs.CardRuns.{no_bytes, row, row_from}
use Rattle.opening.proofs.extents.Listed.run.Given as goal

abbrev pub invariant-loop-h : goal.invariant-loop-h
invariant-loop-h l =
    get_or (row_from l.self.plan.now l.self.regions l.h) l.j no_bytes ≡ get_or (row l.self.plan.now l.self.regions) l.k no_bytes
