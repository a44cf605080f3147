-- While there is room the free stack is not empty, and its top is a row that awaits nothing; without it the stack names every other row as before.
use mathlib.Core.Path.{◌≡◌, ap, ◌∙◌}
use mathlib.Core.Logic.{◌≢◌}
use mathlib.Core.List.{◌∷◌}
use Prim.Native.Nat.{ℕ, ◌+◌, ◌<◌}
use native.Mathlib.Decide.{dec_lt}
use native.Mathlib.Omega.{arith}
use lib.ListN.{length, drop}
use lib.Seq.{drop-cons}
use Rattle.model.specs.State.{State, awaiting}
use Rattle.step.specs.Step.{top_of, row_at}
use Rattle.step.specs.Sound.{Sound}
use Rattle.step.specs.Lists.{times}
use Rattle.step.proofs.Counts.{times_same, times_other}

module _ (s : State) (i : Sound s) (room : s.counts.live + s.counts.ready < s.settings.depth) where
  abbrev top : ℕ
  top = top_of s.free

  stack : s.free ≡ top ∷ drop 1 s.free
  unfolding top_of
  stack = drop-cons s.free 0 0 (omega (arith, i.balance, i.live))

  pub one_less_lem : length (drop 1 s.free) + 1 ≡ length s.free
  one_less_lem = omega (arith, ap length stack)

  pub times_top : times top s.free ≡ 1 + times top (drop 1 s.free)
  times_top = ap (times top) stack ∙ times_same top (drop 1 s.free)

  pub times_left : (j : ℕ) → j ≢ top → times j s.free ≡ times j (drop 1 s.free)
  times_left j n = ap (times j) stack ∙ times_other j top (drop 1 s.free) n

  pub top_row : top < s.settings.depth
  top_row = by_case (dec_lt top s.settings.depth)
    where
      by_case : Dec (top < s.settings.depth) → top < s.settings.depth
      by_case (yes lt) = lt
      by_case (no nlt) = absurd (omega (arith, times_top, i.free_rows top (omega (arith, nlt))))

  pub awaits_nothing : awaiting (row_at s top).awaits ≡ 0
  awaits_nothing = omega (arith, times_top, i.free_once top top_row)
