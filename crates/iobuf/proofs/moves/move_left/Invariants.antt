-- `moves::move_left` meets its contract: before each turn the first `at` of the bytes from k on lie at the front, and from `at` on all is as it was.
-- The measure is what is left to move.
use mathlib.Core.Path.{◌≡◌}
use mathlib.Core.List.{◌++◌}
use Prim.Native.Nat.{◌-◌, ◌≤◌}
use lib.ListN.{length, take, drop}
use Rattle.iobuf.proofs.moves.move_left.Given as goal

abbrev pub invariant-loop-at : goal.invariant-loop-at
invariant-loop-at l = (l.at ≤ l.n) × (length l.held ≡ length l.initial.held) × (length l.s ≡ length l.initial.s) × (l.s ≡ take l.at (drop l.k l.initial.s) ++ drop l.at l.initial.s)

abbrev pub decreases-loop-at : goal.decreases-loop-at
decreases-loop-at l = l.n - l.at
