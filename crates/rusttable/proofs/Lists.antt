-- Lists under a function, with another element in one place.
use mathlib.Core.Path.{◌≡◌, refl}
use mathlib.Core.Logic.{◌≢◌}
use mathlib.Core.List.{List, [], ◌∷◌, map}
use mathlib.Core.Option.{some}
use Prim.Native.Nat.{ℕ, zero, suc, ◌<◌}
use native.Mathlib.Nat.{not-suc-le-zero, le_of_suc-le-suc}
use native.Mathlib.Omega.{arith}
use lib.ListN.{length, get_or, get_elem?, set}

pub get_map : {A : Type 0} {B : Type 0} (f : A → B) (l : List A) (i : ℕ) (d : A) → i < length l → get_elem? (map f l) i ≡ some (f (get_or l i d))
get_map f [] i d lt = absurd (not-suc-le-zero lt)
get_map f (x ∷ xs) zero d lt = refl
get_map f (x ∷ xs) (suc i) d lt = get_map f xs i d (le_of_suc-le-suc lt)

-- an element that was found is replaced
pub get_set : {A : Type 0} (l : List A) (i : ℕ) (x y : A) → get_elem? l i ≡ some y → get_elem? (set l i x) i ≡ some x
get_set [] i x y e = let z : ◌≡◌ {A = ℕ} 0 1 = cc in absurd (omega arith)
get_set (a ∷ l) zero x y e = refl
get_set (a ∷ l) (suc i) x y e = get_set l i x y e

pub map_alike : {A : Type 0} {B : Type 0} (f f' : A → B) (l : List A) (d : A) → ((j : ℕ) → f' (get_or l j d) ≡ f (get_or l j d)) → map f' l ≡ map f l
map_alike f f' [] d h = refl
map_alike f f' (x ∷ xs) d h = rw (h 0, map_alike f f' xs d (λ j. h (suc j)))

-- two functions that agree on every other element
pub map_set_alike : {A : Type 0} {B : Type 0} (f f' : A → B) (l : List A) (r : ℕ) (x d : A) → ((j : ℕ) → j ≢ r → f' (get_or l j d) ≡ f (get_or l j d)) → map f' (set l r x) ≡ set (map f l) r (f' x)
map_set_alike f f' [] r x d h = refl
map_set_alike f f' (y ∷ ys) zero x d h = rw (map_alike f f' ys d (λ j. h (suc j) (λ e. omega arith)))
map_set_alike f f' (y ∷ ys) (suc r) x d h = rw (h 0 (λ e. omega arith), map_set_alike f f' ys r x d (λ j n. h (suc j) (λ e. n (omega arith))))

pub map_same : {A : Type 0} {B : Type 0} (f f' : A → B) → ((x : A) → f' x ≡ f x) → (l : List A) → map f' l ≡ map f l
map_same f f' h [] = refl
map_same f f' h (x ∷ xs) = rw (h x, map_same f f' h xs) refl
