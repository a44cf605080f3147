-- What ends the program, and what a step in the input alone leaves as it was.
use mathlib.Core.Path.{◌≡◌, refl, sym, ap}
use mathlib.Core.Bool.{Bool, true}
use mathlib.Core.List.{List}
use Prim.Native.Nat.{ℕ}
use Rattle.optable.specs.Called.{lent_of}
use Rattle.session.specs.declared.Stage.{Stage}
use Rattle.session.specs.declared.Stage.TheVariants.{Before, Planned, Table, Refused, Over}
use Rattle.session.specs.Unopened.{stood_at}
use Rattle.session.specs.declared.turn.Running.{Running}
use Rattle.session.specs.Replayed.{standing, over_at}

-- only `limit` ends the program before its input
pub over_ends : (stage : Stage) (ended : Bool) → stage ≡ Over → true ≡ over_at stage ended
unfolding over_at
over_ends stage ended e = sym (ap (λ (x : Stage). over_at x ended) e)

pub others_go_on : (stage : Stage) (ended : Bool) → (stage ≡ Over → ⊥) → ended ≡ over_at stage ended
unfolding over_at
others_go_on Before ended w = refl
others_go_on (Planned o) ended w = refl
others_go_on (Table k) ended w = refl
others_go_on Refused ended w = refl
others_go_on Over ended w = absurd (w refl)

-- the same, further in the input, stands where it stood
pub same : (r now : Running) (plan store free ready owners pool : List ℕ) → (now.stage ≡ r.stage) × (now.host ≡ r.host)
    → standing now plan store free ready owners pool ≡ standing r plan store free ready owners pool
same r now plan store free ready owners pool m = λ j. stood_at (m.0 j) plan (m.1 j).flushes (m.1 j).counts (lent_of (m.1 j).rows store free ready owners pool)
