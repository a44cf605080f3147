-- What the `region` lines come to: the plan lists a region for each, in the order of the lines. Proved in proofs/Laws.antt (plan-laws).
use Rattle.std.specs.Prelude.{◌≡◌, false, List, [], ◌∷◌, ◌++◌, ℕ, zero, suc, ◌+◌, ◌-◌, ◌*◌, ◌/◌, ◌≤◌, ◌<◌, length}
use Rattle.regionmap.specs.Map.{Run}
use Rattle.model.specs.Opening.{Plan, region_rule, plan_in, plans_in, REGION}
use Rattle.fields.specs.Fields.{spaces, num}
use Rattle.parser.specs.Openings.{region_words, plan_after}

-- `[START OFFSET]...`: n further runs, from the k-th field on
unfoldable pub runs_of : ℕ → ℕ → List ℕ → List Run
runs_of zero k cs = []
runs_of (suc n) k cs = record { start = num k cs; offset = num (k + 1) cs } ∷ runs_of n (k + 2) cs

-- `region ID GENERATION FIRST CAPACITY DATA [START OFFSET]...`
unfoldable pub region_of : List ℕ → Plan
region_of cs =
    record {
      id = num 1 cs;
      generation = num 2 cs;
      map = record { first = num 3 cs; more = runs_of ((spaces cs - 5) / 2) 6 cs; capacity = num 4 cs; data_length = num 5 cs };
    }

pub record PlanLaws : Type 0 where
  -- a line's region stands behind those that the plan listed
  pub added : (cs plan : List ℕ) (k : ℕ) → k < 8 → REGION * k + REGION ≤ length plan
      → plans_in (k + 1) (plan_after cs k plan) ≡ plans_in k plan ++ (plan_in (region_words cs) ∷ [])
  -- its words tell the line's region
  pub told : (cs : List ℕ) → (spaces cs - 5) / 2 ≤ 32 → plan_in (region_words cs) ≡ region_of cs
  -- "`no 13` where the opening breaks a rule (.. a 33rd further run ..)"
  pub crowded : (b : ℕ) (cs : List ℕ) → 32 < (spaces cs - 5) / 2 → region_rule b (plan_in (region_words cs)) ≡ false
