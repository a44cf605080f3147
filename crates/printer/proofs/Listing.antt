-- Of at most 64 rows, what the code lists is all of them; the free stack likewise.
use mathlib.Core.Path.{◌≡◌, refl, sym, ap, ◌∙◌}
use mathlib.Core.Logic.{⊎_elim}
use mathlib.Core.List.{List, [], ◌∷◌, map}
use Prim.Native.Nat.{ℕ, zero, suc, ◌-◌, ◌≤◌, min}
use native.Mathlib.Omega.{arith}
use lib.ListN.{length, take, drop, length-take}
use lib.Seq.{take_all}
use lib.Dec.{leb}
use borrow.Author.Tests.{leb-true, leb-false}
use Rattle.layout.proofs.Tests.{true_or_false}
use Rattle.model.specs.declared.Row.{Row}
use Rattle.printer.specs.Rows.{rows_text}
use Rattle.printer.specs.Listed.{generation_of, listed_text}

pub take_map : (n : ℕ) (rows : List Row) → take n (map generation_of rows) ≡ map generation_of (take n rows)
take_map zero [] = refl
take_map zero (r ∷ rs) = refl
take_map (suc n) [] = refl
take_map (suc n) (r ∷ rs) = ap (λ (l : List ℕ). r.generation ∷ l) (take_map n rs)

take_none : (k : ℕ) → take {A = ℕ} k [] ≡ []
take_none zero = refl
take_none (suc k) = refl

-- what is dropped of a front is dropped first
drop_front : (a n : ℕ) (l : List ℕ) → take (n - a) (drop a l) ≡ drop a (take n l)
drop_front zero n l = ap (λ (k : ℕ). take k l) (let e : n - 0 ≡ n = omega arith in e)
drop_front (suc a) zero [] = take_none (0 - suc a)
drop_front (suc a) zero (x ∷ l) = ap (λ (k : ℕ). take k (drop a l)) (let e : 0 - suc a ≡ 0 = omega arith in e)
drop_front (suc a) (suc n) [] = take_none (suc n - suc a)
drop_front (suc a) (suc n) (x ∷ l) = ap (λ (k : ℕ). take k (drop a l)) (let e : suc n - suc a ≡ n - a = omega arith in e) ∙ drop_front a n l

front_within : (n k : ℕ) (l : List ℕ) → k ≡ min n (length l) → take k l ≡ take n l
front_within n k l e =
    ⊎_elim (λ t. let within = leb-true n (length l) t in ap (λ (m : ℕ). take m l) (let is : k ≡ n = omega (arith, e, within) in is))
    (λ t. let past = leb-false n (length l) t in take_all k l (omega (arith, e, past)) ∙ sym (take_all n l (omega (arith, past))))
    (true_or_false (leb n (length l)))

none_behind : (n : ℕ) (l : List ℕ) → length l ≤ n → drop n l ≡ []
none_behind zero [] h = refl
none_behind (suc n) [] h = refl
none_behind zero (x ∷ l) h = absurd (omega (arith, h))
none_behind (suc n) (x ∷ l) h = none_behind n l (omega (arith, h))

back_within : (n k : ℕ) (l : List ℕ) → k ≡ min n (length l) → drop k l ≡ drop n l
back_within n k l e =
    ⊎_elim (λ t. let within = leb-true n (length l) t in ap (λ (m : ℕ). drop m l) (let is : k ≡ n = omega (arith, e, within) in is))
    (λ t. let past = leb-false n (length l) t in none_behind k l (omega (arith, e, past)) ∙ sym (none_behind n l (omega (arith, past))))
    (true_or_false (leb n (length l)))

-- a part of a list from a place to an end that both lie in it
part : (free : List ℕ) (depth live end top : ℕ) → end ≡ min depth (length free) → top ≡ min live end → take (end - top) (drop top free) ≡ drop live (take depth free)
part free depth live end top e t =
    drop_front top end free ∙ ap (drop top) (front_within depth end free e) ∙ back_within live top (take depth free) (t ∙ ap (min live) (e ∙ sym (length-take depth free)))

pub listed : (depth live : ℕ) (rows : List Row) (free all : List ℕ) (most end top : ℕ) → depth ≤ 64 → all ≡ map generation_of rows → most ≡ min depth 64 → end ≡ min most (length free) → top ≡ min live end
    → rows_text (take most all) (take (end - top) (drop top free)) ≡ listed_text depth live rows free
unfolding listed_text
listed depth live rows free all most end top few a m e t =
    let is : most ≡ depth = omega (arith, m, few) in
    let ends : end ≡ min depth (length free) = e ∙ ap (λ (k : ℕ). min k (length free)) is in
    (λ j. rows_text (take (is j) (a j)) (part free depth live end top ends t j)) ∙ ap (λ (l : List ℕ). rows_text l (drop live (take depth free))) (take_map depth rows)
