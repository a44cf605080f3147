-- How the definitions of a line go over it from a place on: the bytes from i on are the one at i and those behind it, so each definition takes
-- one step there.
use mathlib.Core.Path.{◌≡◌, refl, sym, ap, ◌∙◌}
use mathlib.Core.List.{List, [], ◌∷◌}
use mathlib.Core.Bool.{Bool, true, false, cond, not}
use Prim.Native.Nat.{ℕ, zero, suc, ◌+◌, ◌-◌, ◌≤◌, ◌<◌}
use native.Mathlib.Numerals.{add-one}
use native.Mathlib.Omega.{arith}
use lib.ListN.{length, take, drop, get_or, drop_of_length-le}
use Rattle.std.proofs.lemmas.List.{length-take}
use lib.Seq.{drop-cons}
use lib.Dec.{eqb}
use Rattle.std.specs.List.{count_by, prefix_len, take_while}
use Rattle.std.specs.Prelude.{◌==◌}
use Rattle.std.proofs.lemmas.List.Folds.{length-prefix_len}
use Rattle.std.proofs.lemmas.List.Recursion.{is_count_by}
use borrow.Author.Tests.{eq-eqb, ne_eqb}
use Rattle.layout.specs.Pick.{pick}
use Rattle.fields.specs.Fields.{spaces, field}

-- the spaces are those that a count finds
pub spaces_counted : (l : List ℕ) → spaces l ≡ count_by (λ c. eqb c 32) l
unfolding spaces pick
spaces_counted = is_count_by spaces (λ c. eqb c 32) refl (λ c cs. by_space (eqb c 32) (spaces cs))
  where
    by_space : (t : Bool) (n : ℕ) → pick t 1 0 + n ≡ cond t (1 + n) n
    by_space true n = refl
    by_space false n = omega arith

-- the first field is as long as what stands before the first space
counted : (l : List ℕ) → length (field 0 l) ≡ prefix_len (λ c. not (c == 32)) l
unfolding field pick
counted [] = refl
counted (c ∷ cs) = by_space (eqb c 32) (counted cs)
  where
    by_space : (t : Bool) → length (field 0 cs) ≡ prefix_len (λ c. not (c == 32)) cs
        → length (pick t [] (c ∷ field 0 cs)) ≡ cond (not t) (1 + prefix_len (λ c. not (c == 32)) cs) 0
    by_space true h = refl
    by_space false h = omega arith

pub field_length : (l : List ℕ) → length (field 0 l) ≡ length (take_while (λ c. not (c == 32)) l)
field_length l = counted l ∙ sym (length-prefix_len (λ c. not (c == 32)) l)

-- a field ends within its line
pub field_within : (l : List ℕ) → length (field 0 l) ≤ length l
field_within l =
    let e = counted l in
    let f = length-prefix_len (λ (c : ℕ). not (c == 32)) l in
    let g = length-take (prefix_len (λ (c : ℕ). not (c == 32)) l) l in
    omega arith

-- the bytes from i on
pub from_on : (l : List ℕ) (i : ℕ) → i < length l → drop i l ≡ get_or l i 0 ∷ drop (i + 1) l
from_on l i h = rw add-one (drop-cons l i 0 h)

-- a field of nothing is nothing
field_none : (k : ℕ) → field k [] ≡ []
unfolding field
field_none zero = refl
field_none (suc k) = refl

-- and so is a field of what stands behind the end
pub field_past : (k : ℕ) (l : List ℕ) (i : ℕ) → length l ≤ i → field k (drop i l) ≡ []
field_past k l i h = rw (drop_of_length-le l {i = i} h) (field_none k)

-- a field is as many of the text's first bytes as it is long
pub field_front : (l : List ℕ) → take (length (field 0 l)) l ≡ field 0 l
unfolding field pick
field_front [] = refl
field_front (c ∷ cs) = by_space (eqb c 32) (field_front cs)
  where
    by_space : (t : Bool) → take (length (field 0 cs)) cs ≡ field 0 cs → take (length (pick t [] (c ∷ field 0 cs))) (c ∷ cs) ≡ pick t [] (c ∷ field 0 cs)
    by_space true h = refl
    by_space false h = ap (λ (f : List ℕ). c ∷ f) h

module _ (l : List ℕ) (i : ℕ) (h : i < length l) where
  -- at a space
  module _ (s : get_or l i 0 ≡ 32) where
    pub field_next : (k : ℕ) → 0 < k → field k (drop i l) ≡ field (k - 1) (drop (i + 1) l)
    unfolding field pick
    field_next zero p = absurd (omega arith)
    field_next (suc k) p = rw (from_on l i h, eq-eqb (get_or l i 0) 32 s) (ap (λ (m : ℕ). field m (drop (i + 1) l)) (omega arith))

  -- at another byte
  module _ (s : get_or l i 0 ≡ 32 → ⊥) where
    pub field_same : (k : ℕ) → 0 < k → field k (drop i l) ≡ field k (drop (i + 1) l)
    unfolding field pick
    field_same zero p = absurd (omega arith)
    field_same (suc k) p = rw (from_on l i h, ne_eqb (get_or l i 0) 32 s)

-- the bytes between a field's begin and its end are the field
pub field_cut : (l : List ℕ) (from to : ℕ) → to ≡ from + length (field 0 (drop from l)) → take (to - from) (drop from l) ≡ field 0 (drop from l)
field_cut l from to e =
    let long : to - from ≡ length (field 0 (drop from l)) = omega arith in ap (λ (n : ℕ). take n (drop from l)) long ∙ field_front (drop from l)
