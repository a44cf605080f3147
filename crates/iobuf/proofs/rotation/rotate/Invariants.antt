-- `rotation::rotate` meets its contract: before each turn the bytes before `at` are in place, and the rest turned left by k gives what is wanted.
-- The measure is what is left of the bytes.
use mathlib.Core.Path.{◌≡◌}
use mathlib.Core.List.{◌++◌}
use Prim.Native.Nat.{◌+◌, ◌-◌, ◌≤◌}
use lib.ListN.{length, take, drop}
use Rattle.iobuf.specs.Exchange.{Next}
use Rattle.iobuf.proofs.ShiftParts.{rot}
use Rattle.iobuf.proofs.rotation.rotate.Given as goal

abbrev pub invariant-loop-m : goal.invariant-loop-m
invariant-loop-m l = (l.n ≡ length l.initial.s) × (length l.s ≡ length l.initial.s) × (l.at + l.k ≤ length l.s) × Next (length l.s - l.at) l.k l.m × (take l.at l.s ++ rot l.k (drop l.at l.s) ≡ rot l.by l.initial.s)

abbrev pub decreases-loop-m : goal.decreases-loop-m
decreases-loop-m l = l.n - l.at
