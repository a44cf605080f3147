-- The projection: after any history an operation in the table is the operation alone, and the next event under its tag does with the row what is done with
-- the operation alone.
use mathlib.Core.Path.{◌≡◌, sym, subst}
use mathlib.Core.Option.{some}
use mathlib.Core.List.{List, [], ◌∷◌, ◌++◌}
use Prim.Native.Nat.{ℕ}
use Rattle.step.specs.Rules.{Input}
use Rattle.step.specs.Run.{Event, Start, opened_by, after, plans_of}
use Rattle.step.specs.Lists.{brought, Hosted, HostMay}
use Rattle.step.specs.Alone.{Alones, none_yet, alones}
use Rattle.step.specs.Demand3.{alones_after, StepsAlone, Projection}
use Rattle.step.proofs.ProjectionReached.{Reached, reached_opened, reached_run, next_alone, alone_append}
use Rattle.step.proofs.ProjectionSteps.{steps_alone}

-- the operations alone after one more event
one_more_lem : (x : Start) (h : List Event) (e : Event) → alones_after x (h ++ (e ∷ [])) ≡ next_alone x (after x h) (alones_after x h) e
unfolding after alones_after alones
one_more_lem x h e = alone_append x (opened_by x) (none_yet (plans_of x)) h (e ∷ [])

pub reached_after : (x : Start) (h : List Event) → Hosted (opened_by x) h → Reached x (after x h) (alones_after x h)
unfolding after alones_after
reached_after x h hosted = reached_run x (opened_by x) (none_yet (plans_of x)) (reached_opened x) h hosted

pub projection : Projection
unfolding Projection
projection x h hosted = (k.projected, step)
  where
    k : Reached x (after x h) (alones_after x h)
    k = reached_after x h hosted

    step : (e : Event) (t : ℕ) (i : Input) → HostMay (after x h) e.leaves → brought t e.made ≡ some i → StepsAlone x (after x h) (alones_after x h) (alones_after x (h ++ (e ∷ []))) e t i
    step e t i m bt = subst (λ (a' : Alones). StepsAlone x (after x h) (alones_after x h) a' e t i) (sym (one_more_lem x h e)) (steps_alone x (after x h) (alones_after x h) k e m t i bt)
