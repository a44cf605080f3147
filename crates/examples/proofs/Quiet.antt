-- Events after which the pool is as it was.
use mathlib.Core.Path.{refl}
use mathlib.Core.Logic.{inl, inr}
use mathlib.Core.List.{List, [], ◌∷◌}
use Rattle.model.specs.State.{State}
use Rattle.step.specs.Step.{bytes_at}
use Rattle.step.specs.Run.{Made, Event, next}
use Rattle.step.specs.Lists.{HostMay}

abbrev pub quiet : State → Made → Event
quiet s m = record { leaves = s.pool; lengths = s.lengths; made = m }

unfoldable pub quietly : State → List Made → List Event
quietly s [] = []
quietly s (m ∷ ms) = quiet s m ∷ quietly (next s (quiet s m)) ms

pub may : (s : State) → HostMay s s.pool
unfolding bytes_at
may s = record { count = refl; each = λ b lt. inr (inl refl) }
