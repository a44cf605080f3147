-- What holds of both branches of a test holds of the test; each branch may use how the test went.
use mathlib.Core.Path.{◌≡◌, refl}
use mathlib.Core.Bool.{Bool, true, false}
use Rattle.layout.specs.Pick.{pick}

pub by_pick : {A : Type 0} (t : Bool) (P : A → Type 0) {x y : A} → (t ≡ true → P x) → (t ≡ false → P y) → P (pick t x y)
unfolding pick
by_pick true P h g = h refl
by_pick false P h g = g refl
