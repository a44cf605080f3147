-- A list of runs taken apart at its first: its start with the two bounds where starts ascend, and the run of a position by one compare.
-- By induction over the list, the run found for a position is one of the list, holds the position, and is the only one that does.
use Rattle.std.proofs.Common.{◌≡◌, ℕ, ◌<◌, ◌≤◌, Bool, true, false, ◌&&◌, ltb, leb, List, [], ◌∷◌, sym, refl, ap, ◌∙◌, subst, ⊎_elim, le_trans, lt_of_lt_of_le, le_of_lt, arith, ltb-true, le-leb, leb-false, leb-true}
use mathlib.Core.List.Memᴰ
use mathlib.Core.List.{Memᴰ}
use borrow.Author.Tests.{lt-leb}
use Rattle.layout.specs.Pick.{pick}
use Rattle.layout.proofs.Tests.{true_or_false, and_left, and_right}
use Rattle.regionmap.specs.Map.{Run, Span, span, span_from, spans_from, ascends}
use Rattle.regionmap.specs.Laws.{Holds}

pub record Rises (lo : ℕ) (x : Run) (xs : List Run) (cap : ℕ) : Type 0 where
  pub above : lo < x.start
  pub below : x.start < cap
  pub rest : ascends x.start xs cap ≡ true

pub rises : {lo : ℕ} {x : Run} {xs : List Run} {cap : ℕ} → ascends lo (x ∷ xs) cap ≡ true → Rises lo x xs cap
unfolding ascends
rises {lo} {x} {xs} {cap} e =
    let more : (ltb x.start cap && ascends x.start xs cap) ≡ true = and_right (ltb lo x.start) _ e in
    record {
      above = ltb-true lo x.start (and_left (ltb lo x.start) _ e);
      below = ltb-true x.start cap (and_left (ltb x.start cap) _ more);
      rest = and_right (ltb x.start cap) _ more;
    }

-- a position before the next start lies in the run at hand, any other behind it
module _ (r x : Run) (xs : List Run) (cap p : ℕ) where
  pub span_here : p < x.start → span_from r (x ∷ xs) cap p ≡ span r x.start
  unfolding span_from pick
  span_here l = ap (λ (t : Bool). pick t (span_from x xs cap p) (span r x.start)) (lt-leb x.start p l)

  pub span_behind : x.start ≤ p → span_from r (x ∷ xs) cap p ≡ span_from x xs cap p
  unfolding span_from pick
  span_behind l = ap (λ (t : Bool). pick t (span_from x xs cap p) (span r x.start)) (le-leb x.start p l)

  -- by the compare, one of the two
  pub span_cases : {C : Type 0} → (p < x.start → span_from r (x ∷ xs) cap p ≡ span r x.start → C)
      → (x.start ≤ p → span_from r (x ∷ xs) cap p ≡ span_from x xs cap p → C) → C
  span_cases near far =
      ⊎_elim (λ (t : leb x.start p ≡ true). let l = leb-true x.start p t in far l (span_behind l))
      (λ (f : leb x.start p ≡ false). let l = leb-false x.start p f in near l (span_here l))
      (true_or_false (leb x.start p))

pub listed : (r : Run) (xs : List Run) (cap p : ℕ) → Memᴰ (span_from r xs cap p) (spans_from r xs cap)
unfolding span_from spans_from
listed r [] cap p = Memᴰ.head refl
listed r (x ∷ xs) cap p =
    span_cases r x xs cap p (λ l e. Memᴰ.head e)
    (λ l e. Memᴰ.tail (subst (λ (s : Span). Memᴰ s (spans_from x xs cap)) (sym e) (listed x xs cap p)))

pub holds : (r : Run) (xs : List Run) (cap p : ℕ) → r.start ≤ p → p < cap → Holds (span_from r xs cap p) p
unfolding span_from
holds r [] cap p from below = record { from = from; before = below }
holds r (x ∷ xs) cap p from below =
    span_cases r x xs cap p
    (λ l e. subst (λ (s : Span). Holds s p) (sym e) (record { from = from; before = l }))
    (λ l e. subst (λ (s : Span). Holds s p) (sym e) (holds x xs cap p l below))

-- no run of the list starts before the first
from_first : (r : Run) (xs : List Run) (cap : ℕ) (s : Span) → ascends r.start xs cap ≡ true → Memᴰ s (spans_from r xs cap) → r.start ≤ s.start
unfolding spans_from
from_first r [] cap s up m = omega (arith, ap (λ (t : Span). t.start) (Memᴰ.eq_of_singleton m))
from_first r (x ∷ xs) cap s up m =
    ⊎_elim (λ (e : s ≡ span r x.start). omega (arith, ap (λ (t : Span). t.start) e))
    (λ (k : Memᴰ s (spans_from x xs cap)). le_trans (le_of_lt (rises up).above) (from_first x xs cap s (rises up).rest k))
    (Memᴰ.cases_cons m)

pub only : (r : Run) (xs : List Run) (cap p : ℕ) (s : Span) → ascends r.start xs cap ≡ true → Memᴰ s (spans_from r xs cap) → Holds s p
    → s ≡ span_from r xs cap p
unfolding span_from spans_from
only r [] cap p s up m h = Memᴰ.eq_of_singleton m
only r (x ∷ xs) cap p s up m h =
    ⊎_elim
    (λ (e : s ≡ span r x.start). e ∙ sym (span_here r x xs cap p (lt_of_lt_of_le h.before (omega (arith, ap (λ (t : Span). t.end) e)))))
    (λ (k : Memᴰ s (spans_from x xs cap)). only x xs cap p s (rises up).rest k h
    ∙ sym (span_behind r x xs cap p (le_trans (from_first x xs cap s (rises up).rest k) h.from)))
    (Memᴰ.cases_cons m)
