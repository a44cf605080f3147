-- The regions of a plan from the h-th on: what the loops over a plan have left to look at. For the code, not of the paper.
use Rattle.std.specs.Prelude.{List, map, ℕ, ◌-◌, ◌*◌, drop}
use Rattle.model.specs.Opening.{Plan, plans_in, REGION}

abbrev pub plans_from : List ℕ → ℕ → ℕ → List Plan
plans_from ws n h = plans_in (n - h) (drop (REGION * h) ws)

abbrev pub ids_from : List ℕ → ℕ → ℕ → List ℕ
ids_from ws n h = map (λ p. p.id) (plans_from ws n h)
