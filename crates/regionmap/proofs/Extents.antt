-- Extents that share no card byte, and extents within the card: a test of a list says the same of each member, of each two, and of the
-- parts of a list put together. By induction over the list.
use Rattle.std.proofs.Common.{◌≡◌, ℕ, ◌+◌, ◌≤◌, true, leb, ◌⊎◌, List, [], ◌∷◌, ◌++◌, map, sym, refl, ◌∙◌, subst, inl, inr, ⊎_elim, leb-true}
use mathlib.Core.List.Memᴰ
use mathlib.Core.List.{Memᴰ}
use Rattle.layout.proofs.Tests.{and_left, and_right, and_both, or_cases, or_first, or_second}
use Rattle.regionmap.specs.Map.{Span, Extent, extent, apart, apart_from, all_apart, all_within}
use Rattle.regionmap.specs.Laws.{Separate}

-- one ends where the other begins, or before
pub apart_cases : (a b : Extent) → apart a b ≡ true → (a.offset + a.size ≤ b.offset) ⊎ (b.offset + b.size ≤ a.offset)
unfolding apart
apart_cases a b e =
    ⊎_elim (λ (t : leb (a.offset + a.size) b.offset ≡ true). inl (leb-true _ _ t))
    (λ (t : leb (b.offset + b.size) a.offset ≡ true). inr (leb-true _ _ t))
    (or_cases (leb (a.offset + a.size) b.offset) (leb (b.offset + b.size) a.offset) e)

pub apart_sym : (a b : Extent) → apart a b ≡ true → apart b a ≡ true
unfolding apart
apart_sym a b e =
    ⊎_elim (λ (t : leb (a.offset + a.size) b.offset ≡ true). or_second (leb (b.offset + b.size) a.offset) _ t)
    (λ (t : leb (b.offset + b.size) a.offset ≡ true). or_first (leb (b.offset + b.size) a.offset) _ t)
    (or_cases (leb (a.offset + a.size) b.offset) (leb (b.offset + b.size) a.offset) e)

from_each : (x : Extent) (ys : List Extent) → apart_from x ys ≡ true → (y : Extent) → Memᴰ y ys → apart x y ≡ true
unfolding apart_from
from_each x [] e y m = absurd (Memᴰ.not-nil m)
from_each x (z ∷ ys) e y m =
    ⊎_elim (λ (q : y ≡ z). subst (λ (w : Extent). apart x w ≡ true) (sym q) (and_left (apart x z) (apart_from x ys) e))
    (λ (k : Memᴰ y ys). from_each x ys (and_right (apart x z) (apart_from x ys) e) y k)
    (Memᴰ.cases_cons m)

from_first : (x : Extent) (ys zs : List Extent) → apart_from x (ys ++ zs) ≡ true → apart_from x ys ≡ true
unfolding apart_from
from_first x [] zs e = refl
from_first x (y ∷ ys) zs e =
    and_both (apart x y) (apart_from x ys) (and_left (apart x y) (apart_from x (ys ++ zs)) e)
    (from_first x ys zs (and_right (apart x y) (apart_from x (ys ++ zs)) e))

pub apart_first : (xs ys : List Extent) → all_apart (xs ++ ys) ≡ true → all_apart xs ≡ true
unfolding all_apart
apart_first [] ys e = refl
apart_first (x ∷ xs) ys e =
    and_both (apart_from x xs) (all_apart xs) (from_first x xs ys (and_left (apart_from x (xs ++ ys)) (all_apart (xs ++ ys)) e))
    (apart_first xs ys (and_right (apart_from x (xs ++ ys)) (all_apart (xs ++ ys)) e))

pub apart_second : (xs ys : List Extent) → all_apart (xs ++ ys) ≡ true → all_apart ys ≡ true
unfolding all_apart
apart_second [] ys e = e
apart_second (x ∷ xs) ys e = apart_second xs ys (and_right (apart_from x (xs ++ ys)) (all_apart (xs ++ ys)) e)

pub apart_between : (xs ys : List Extent) → all_apart (xs ++ ys) ≡ true → Separate xs ys
unfolding all_apart
apart_between [] ys e x y mx my = absurd (Memᴰ.not-nil mx)
apart_between (z ∷ xs) ys e x y mx my =
    ⊎_elim
    (λ (q : x ≡ z). subst (λ (w : Extent). apart w y ≡ true) (sym q)
    (from_each z (xs ++ ys) (and_left (apart_from z (xs ++ ys)) (all_apart (xs ++ ys)) e) y (Memᴰ.append_right xs my)))
    (λ (k : Memᴰ x xs). apart_between xs ys (and_right (apart_from z (xs ++ ys)) (all_apart (xs ++ ys)) e) x y k my)
    (Memᴰ.cases_cons mx)

-- two runs of a list are the same run, or share no card byte
pub same_or_apart : (ss : List Span) (s t : Span) → all_apart (map extent ss) ≡ true → Memᴰ s ss → Memᴰ t ss
    → (s ≡ t) ⊎ (apart (extent s) (extent t) ≡ true)
unfolding all_apart
same_or_apart [] s t e ms mt = absurd (Memᴰ.not-nil ms)
same_or_apart (x ∷ ss) s t e ms mt = go (Memᴰ.cases_cons ms) (Memᴰ.cases_cons mt) (same_or_apart ss s t behind)
  where
    behind : all_apart (map extent ss) ≡ true
    behind = and_right (apart_from (extent x) (map extent ss)) (all_apart (map extent ss)) e

    apart_x : (u v : Span) → u ≡ x → Memᴰ v ss → apart (extent u) (extent v) ≡ true
    apart_x u v q k =
        subst (λ (w : Span). apart (extent w) (extent v) ≡ true) (sym q)
        (from_each (extent x) (map extent ss) (and_left (apart_from (extent x) (map extent ss)) (all_apart (map extent ss)) e) (extent v) (Memᴰ.map extent k))

    go : (s ≡ x) ⊎ Memᴰ s ss → (t ≡ x) ⊎ Memᴰ t ss
        → (Memᴰ s ss → Memᴰ t ss → (s ≡ t) ⊎ (apart (extent s) (extent t) ≡ true))
        → (s ≡ t) ⊎ (apart (extent s) (extent t) ≡ true)
    go (inl p) (inl q) more = inl (p ∙ sym q)
    go (inl p) (inr k) more = inr (apart_x s t p k)
    go (inr k) (inl q) more = inr (apart_sym (extent t) (extent s) (apart_x t s q k))
    go (inr k) (inr l) more = more k l

pub within_each : (size : ℕ) (xs : List Extent) → all_within size xs ≡ true → (x : Extent) → Memᴰ x xs → x.offset + x.size ≤ size
unfolding all_within
within_each size [] e x m = absurd (Memᴰ.not-nil m)
within_each size (y ∷ xs) e x m =
    ⊎_elim
    (λ (q : x ≡ y). subst (λ (w : Extent). w.offset + w.size ≤ size) (sym q)
    (leb-true _ _ (and_left (leb (y.offset + y.size) size) (all_within size xs) e)))
    (λ (k : Memᴰ x xs). within_each size xs (and_right (leb (y.offset + y.size) size) (all_within size xs) e) x k)
    (Memᴰ.cases_cons m)

pub within_first : (size : ℕ) (xs ys : List Extent) → all_within size (xs ++ ys) ≡ true → all_within size xs ≡ true
unfolding all_within
within_first size [] ys e = refl
within_first size (x ∷ xs) ys e =
    let test = leb (x.offset + x.size) size in
    and_both test (all_within size xs) (and_left test (all_within size (xs ++ ys)) e)
    (within_first size xs ys (and_right test (all_within size (xs ++ ys)) e))

pub within_second : (size : ℕ) (xs ys : List Extent) → all_within size (xs ++ ys) ≡ true → all_within size ys ≡ true
unfolding all_within
within_second size [] ys e = e
within_second size (x ∷ xs) ys e = within_second size xs ys (and_right (leb (x.offset + x.size) size) (all_within size (xs ++ ys)) e)
