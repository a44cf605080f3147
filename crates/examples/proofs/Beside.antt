-- No open write shares a card byte with another open operation where their ranges are apart: the map is one to one. That the ranges are apart is a test, so that it
-- holds of a given table by computation.
use mathlib.Core.Path.{◌≡◌, refl, sym, ◌∙◌}
use mathlib.Core.Logic.{◌≢◌, ◌⊎◌, inl, inr}
use mathlib.Core.Bool.{Bool, true, false, not, ◌||◌}
use Prim.Native.Nat.{ℕ, ◌+◌, ◌≤◌, ◌<◌}
use native.Mathlib.Omega.{arith}
use borrow.Author.Tests.{leb-true, eqb-true}
use lib.Dec.{leb, eqb}
use Rattle.layout.proofs.Tests.{not_both, or_cases}
use Rattle.regionmap.specs.Map.{place}
use Rattle.model.specs.State.{State}
use Rattle.step.specs.Questions.{region_at}
use Rattle.step.specs.Step.{row_at, is_live}
use Rattle.step.specs.Sound.{Sound}
use Rattle.step.specs.Rules.{range_start, range_end}
use Rattle.step.specs.Demand3.{Mapped, Apart}
use Rattle.step.proofs.CardLists.{write_live}

-- the range of one of two rows ends before the other's starts, or one is not live, or they are one
unfoldable pub beside : State → ℕ → ℕ → Bool
beside s r k =
    not (is_live (row_at s r).awaits) || (not (is_live (row_at s k).awaits) || (eqb r k || (leb (range_end (row_at s r).awaits) (range_start (row_at s k).awaits) || leb (range_end (row_at s k).awaits) (range_start (row_at s r).awaits))))

-- a table of one region, in which no two ranges meet
pub record Laid (s : State) (capacity : ℕ) : Type 0 where
  pub capacity_is : (region_at s 0).map.capacity ≡ capacity
  pub regions : s.settings.regions ≡ 1
  pub handles : (r : ℕ) → (row_at s r).handle ≡ 0
  pub inside : (r : ℕ) → leb (range_end (row_at s r).awaits) capacity ≡ true
  pub all_beside : (r k : ℕ) → beside s r k ≡ true

-- what is left to ask of a row that is live
left_of_lem : (a b : Bool) → a ≡ true → (not a || b) ≡ true → b ≡ true
left_of_lem true b e t = t
left_of_lem false b e t = absurd (not_both e refl)

module _ (s : State) (sound : Sound s) (capacity : ℕ) (laid : Laid s capacity) where
  module _ (r k : ℕ) (ne : r ≢ k) (live : is_live (row_at s r).awaits ≡ true) (live' : is_live (row_at s k).awaits ≡ true) where
    abbrev from : ℕ → ℕ
    from j = range_start (row_at s j).awaits

    abbrev to : ℕ → ℕ
    to j = range_end (row_at s j).awaits

    apart_ranges : (to r ≤ from k) ⊎ (to k ≤ from r)
    unfolding beside
    apart_ranges = by_place (or_cases (eqb r k) (leb (to r) (from k) || leb (to k) (from r)) (left_of_lem _ _ live' (left_of_lem _ _ live (laid.all_beside r k))))
      where
        by_order : (leb (to r) (from k) ≡ true) ⊎ (leb (to k) (from r) ≡ true) → (to r ≤ from k) ⊎ (to k ≤ from r)
        by_order (inl t) = inl (leb-true (to r) (from k) t)
        by_order (inr t) = inr (leb-true (to k) (from r) t)

        by_place : (eqb r k ≡ true) ⊎ ((leb (to r) (from k) || leb (to k) (from r)) ≡ true) → (to r ≤ from k) ⊎ (to k ≤ from r)
        by_place (inl e) = absurd (ne (eqb-true r k e))
        by_place (inr t) = by_order (or_cases (leb (to r) (from k)) (leb (to k) (from r)) t)

    no_shared_byte : (y : ℕ) → Mapped s (row_at s r) y → Mapped s (row_at s k) y → ⊥
    no_shared_byte y m n = by_case apart_ranges
      where
        one : 0 < s.settings.regions
        one = omega (arith, laid.regions)

        in_region : (j i : ℕ) → from j + i < to j → from j + i < (region_at s 0).map.capacity
        in_region j i lt = omega (arith, lt, leb-true (to j) capacity (laid.inside j), laid.capacity_is)

        at_place : (j : ℕ) (x : Mapped s (row_at s j) y) → place (region_at s 0).map (from j + x.i) ≡ y
        at_place j x = (λ z. place (region_at s (sym (laid.handles j) z)).map (from j + x.i)) ∙ x.at

        same : from r + m.i ≡ from k + n.i
        same = (sound.apart 0 0 (from r + m.i) (from k + n.i) one one (in_region r m.i m.inside) (in_region k n.i n.inside) (at_place r m ∙ sym (at_place k n))).1

        by_case : (to r ≤ from k) ⊎ (to k ≤ from r) → ⊥
        by_case (inl before) = omega (arith, before, same, m.inside)
        by_case (inr behind) = omega (arith, behind, same, n.inside)

  pub apart_of : Apart s
  unfolding Apart
  apart_of r k y ne w live m n = no_shared_byte r k ne (write_live (row_at s r).awaits w) live y m n
