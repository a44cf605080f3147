-- What is found in the first rows, from the last of them to the first: nothing behind the last one, and with one row more what `seen_by` makes of it.
use Rattle.std.proofs.Common.{◌≡◌, ℕ, suc, ◌+◌, ◌<◌, min, false, List, ◌∷◌, length, get_or, take, drop, sym, ap, ◌∙◌, subst, lt_of_lt_of_le, add-one, length-take, append_assoc, take-append-drop, ◌++◌, [], arith, drop-cons, get_or-take}
use native.Mathlib.Nat.{min-le_left}
use lib.Seq.{drop-length, take-append_seam}
use Rattle.model.specs.declared.Row.{Row}
use Rattle.model.specs.State.{freed}
use Rattle.step.specs.Step.{any_writes, oldest}
use Rattle.optable.specs.declared.lookup.Looked.{Looked}
use Rattle.optable.specs.Looked.{seen_by, looked_in}

module _ (next depth : ℕ) (ys : List Row) where
  -- in the first rows, as many as the depth, from the place i on
  abbrev pub found : ℕ → Looked
  found i = looked_in next (drop i (take depth ys))

  pub none_found : record { writes = false; oldest = next } ≡ found (min depth (length ys))
  unfolding looked_in any_writes oldest
  none_found = sym (ap (λ (n : ℕ). found n) (sym (length-take depth ys)) ∙ ap (looked_in next) (drop-length (take depth ys)))

  pub one_more_lem : (i : ℕ) → i < min depth (length ys) → seen_by (get_or ys i (freed 0)) (found (i + 1)) ≡ found i
  unfolding looked_in any_writes oldest seen_by
  one_more_lem i l =
      let zs : List Row = take depth ys in
      let r : Row = get_or ys i (freed 0) in
      let inside : i < length zs = subst (λ (n : ℕ). i < n) (sym (length-take depth ys)) l in
      ap (λ (n : ℕ). seen_by r (found n)) (add-one i)
      ∙ sym (ap (looked_in next) (drop-cons zs i (freed 0) inside ∙ ap (λ (x : Row). x ∷ drop (suc i) zs) (get_or-take depth ys i (freed 0) (lt_of_lt_of_le l (min-le_left depth (length ys))))))

-- as many of the first rows as there are, and as many as the depth
pub first_rows : (depth : ℕ) (ys : List Row) → take (min depth (length ys)) ys ≡ take depth ys
first_rows depth ys =
    ap (λ (i : ℕ). take i ys) (sym (length-take depth ys)) ∙ ap (take (length (take depth ys))) (sym (take-append-drop depth ys)) ∙ take-append_seam (take depth ys) (drop depth ys)

pub one_more : (next : ℕ) (r : Row) (zs : List Row) (l : Looked) → l ≡ looked_in next zs → seen_by r l ≡ looked_in next (r ∷ zs)
unfolding looked_in any_writes oldest seen_by
one_more next r zs l e = ap (seen_by r) e

pub none_left : (rest zs all : List Row) → length rest ≡ 0 → rest ++ zs ≡ all → zs ≡ all
none_left [] zs all e whole = whole
none_left (r ∷ rest) zs all e whole = absurd (omega (arith, e))

pub row_behind : (rest less : List Row) (r : Row) (zs all : List Row) → rest ≡ less ++ (r ∷ []) → rest ++ zs ≡ all → less ++ (r ∷ zs) ≡ all
row_behind rest less r zs all e whole = sym (append_assoc less (r ∷ []) zs) ∙ ap (λ (k : List Row). k ++ zs) (sym e) ∙ whole
