-- `plans::starts_rise` meets its contract. The loop's invariant: whether the runs left ascend from `lo` is whether all do from 0.
use mathlib.Core.Path.{◌≡◌}
use mathlib.Core.Bool.{Bool}
use mathlib.Core.List.{List}
use Prim.Native.Nat.{ℕ}
use lib.ListN.{get_or, drop}
use Rattle.regionmap.specs.Map.{ascends}
use Rattle.regionmap.specs.Words.{runs_in}
use Rattle.opening.proofs.Steps.{runs_from}
use Rattle.opening.proofs.plans.starts_rise.Given as goal

-- whether the runs from the j-th on ascend from lo
abbrev pub left : List ℕ → ℕ → ℕ → ℕ → Bool
left ws n lo j = ascends lo (runs_from ws n j) (get_or ws 1 0)

abbrev pub invariant-loop-j : goal.invariant-loop-j
invariant-loop-j l = left l.map l.count l.lo l.j ≡ ascends 0 (runs_in l.count (drop 4 l.map)) (get_or l.map 1 0)
