-- `moves::move_right` meets its contract: before each turn the bytes from `end` on have been moved, and before end + k all is as it was.
-- The measure is `end`.
use mathlib.Core.Path.{◌≡◌}
use mathlib.Core.List.{◌++◌}
use Prim.Native.Nat.{◌+◌, ◌-◌, ◌≤◌}
use lib.ListN.{length, take, drop}
use Rattle.iobuf.proofs.moves.move_right.Given as goal

abbrev pub invariant-loop-end : goal.invariant-loop-end
invariant-loop-end l = (l.end ≤ l.initial.end) × (length l.held ≡ length l.initial.held) × (length l.s ≡ length l.initial.s) × (l.s ≡ take (l.end + l.k) l.initial.s ++ take (l.initial.end - l.end) (drop l.end l.initial.s))

abbrev pub decreases-loop-end : goal.decreases-loop-end
decreases-loop-end l = l.end
