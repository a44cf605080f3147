-- `pool::fill` meets its contract: before each turn the pool is what it was with the first i bytes laid over it from `at` on.
use Rattle.std.proofs.Common.{◌≡◌}
use Rattle.std.proofs.Math.Seq.{paste}
use Rattle.hostfill.specs.Writes.{fill_bytes}
use Rattle.hostfill.proofs.pool.fill.Given as goal

abbrev pub invariant-loop-i : goal.invariant-loop-i
invariant-loop-i l = l.pool ≡ paste l.initial.pool l.at (fill_bytes l.seed 0 l.n) l.i
