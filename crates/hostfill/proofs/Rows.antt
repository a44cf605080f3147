-- Whether some row of a list is loose, by one row more.
use mathlib.Core.Path.{◌≡◌, refl, ap, ◌∙◌}
use mathlib.Core.Bool.{Bool, true, false, ◌||◌}
use mathlib.Core.List.{List, [], ◌∷◌}
use Prim.Native.Nat.{ℕ, zero, suc, ◌<◌}
use native.Mathlib.Omega.{arith}
use lib.ListN.{length, get_or, take}
use Rattle.layout.proofs.Tests.{or_first, or_second}
use Rattle.model.specs.declared.Row.{Row}
use Rattle.model.specs.State.{State}
use Rattle.hostfill.specs.MayFill.{loose_row, any_loose}

or_none : (a b : Bool) → a ≡ false → b ≡ false → (a || b) ≡ false
or_none a b p q = ap (λ (t : Bool). t || b) p ∙ q

none_left : (a b : Bool) → (a || b) ≡ false → a ≡ false
none_left true b e = e
none_left false b e = refl

none_right : (a b : Bool) → (a || b) ≡ false → b ≡ false
none_right true b e = absurd (let z : ◌≡◌ {A = ℕ} 0 1 = cc in omega arith)
none_right false b e = e

module _ (s : State) (b end : ℕ) (d : Row) where
  pub none_first : (xs : List Row) → any_loose s b end (take 0 xs) ≡ false
  unfolding any_loose
  none_first [] = refl
  none_first (x ∷ xs) = refl

  pub one_more_lem : (xs : List Row) (i : ℕ) → any_loose s b end (take i xs) ≡ false → loose_row s b end (get_or xs i d) ≡ false → any_loose s b end (take (suc i) xs) ≡ false
  unfolding any_loose
  one_more_lem [] i e f = refl
  one_more_lem (x ∷ xs) zero e f = or_none (loose_row s b end x) _ f (none_first xs)
  one_more_lem (x ∷ xs) (suc i) e f = or_none (loose_row s b end x) _ (none_left (loose_row s b end x) _ e) (one_more_lem xs i (none_right (loose_row s b end x) _ e) f)

  pub hit : (xs : List Row) (i : ℕ) → i < length xs → loose_row s b end (get_or xs i d) ≡ true → any_loose s b end xs ≡ true
  unfolding any_loose
  hit [] i l e = absurd (omega (arith, l))
  hit (x ∷ xs) zero l e = or_first (loose_row s b end x) _ e
  hit (x ∷ xs) (suc i) l e = or_second (loose_row s b end x) _ (hit xs i (omega (arith, l)) e)
