-- A queue tag that is found names a live row, and a live row is one of the table's: past the depth there is none.
use mathlib.Core.Path.{◌≡◌, refl}
use mathlib.Core.Bool.{true}
use Prim.Native.Nat.{ℕ, ◌<◌}
use native.Mathlib.Omega.{arith}
use Rattle.layout.proofs.Tests.{not_both, and_left}
use Rattle.model.specs.declared.Awaits.{Awaits}
use Rattle.model.specs.declared.Awaits.TheVariants.{Nothing, Piece, Flush}
use Rattle.model.specs.declared.Row.{Row}
use Rattle.model.specs.State.{State, freed, awaiting}
use Rattle.step.specs.Step.{row_at, is_live, row_of, names}
use Rattle.step.specs.Sound.{Sound}
use Rattle.step.proofs.Places.{within}

-- live, as a test and as a count
pub live_one : (a : Awaits) → is_live a ≡ true → awaiting a ≡ 1
unfolding is_live awaiting
live_one Nothing e = absurd (not_both e refl)
live_one (Piece k s) e = refl
live_one (Flush t) e = refl

pub one_live : (a : Awaits) → awaiting a ≡ 1 → is_live a ≡ true
unfolding is_live awaiting
one_live Nothing e = absurd (omega arith)
one_live (Piece k s) e = refl
one_live (Flush t) e = refl

module _ (s : State) (i : Sound s) where
  pub live_below : (r : ℕ) → is_live (row_at s r).awaits ≡ true → r < s.settings.depth
  unfolding row_at is_live freed
  live_below r e = rw (← i.rows) (within s.rows r (freed 0) (λ (x : Row). is_live x.awaits ≡ true) (λ h. not_both h refl) e)

  module _ (t : ℕ) (e : names (row_at s (row_of t)) t ≡ true) where
    pub named_live : awaiting (row_at s (row_of t)).awaits ≡ 1
    unfolding names
    named_live = live_one (row_at s (row_of t)).awaits (and_left (is_live (row_at s (row_of t)).awaits) _ e)

    pub named_below : row_of t < s.settings.depth
    unfolding names
    named_below = live_below (row_of t) (and_left (is_live (row_at s (row_of t)).awaits) _ e)
