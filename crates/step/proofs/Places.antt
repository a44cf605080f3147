-- A list with another element in one place, and what stands past a list's end.
use mathlib.Core.Path.{◌≡◌}
use mathlib.Core.Logic.{◌≢◌}
use mathlib.Core.List.{List, [], ◌∷◌}
use Prim.Native.Nat.{ℕ, zero, suc, ◌<◌}
use native.Mathlib.Decide.{ℕ_discrete}
use native.Mathlib.Omega.{arith}
use lib.ListN.{length, get_or, set}
use lib.Seq.{get_or-set_same, get_or-set_other}

-- the new element at its place, and every other as it was
pub by_place : {A : Type 0} (l : List A) (k : ℕ) (x d : A) → k < length l → (P : ℕ → A → Type 0) → P k x → ((j : ℕ) → j ≢ k → P j (get_or l j d)) → (j : ℕ) → P j (get_or (set l k x) j d)
by_place l k x d lt P here other j = by_case (ℕ_discrete j k)
  where
    by_case : Dec (j ≡ k) → P j (get_or (set l k x) j d)
    by_case (yes e) = rw (e, get_or-set_same l k x d lt) here
    by_case (no n) = rw (get_or-set_other l k j x d n) (other j n)

-- what does not hold of the element past the end holds only within
pub within : {A : Type 0} (l : List A) (k : ℕ) (d : A) (P : A → Type 0) → (P d → ⊥) → P (get_or l k d) → k < length l
within [] k d P past h = absurd (past h)
within (x ∷ xs) zero d P past h = omega arith
within (x ∷ xs) (suc k) d P past h = omega (arith, within xs k d P past h)
