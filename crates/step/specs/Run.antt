-- A history: an opening that was admitted, and what a host does and calls after it. "Each call gets what the last left": the host leaves the pool in
-- some way, then makes a call or a lookup; `after` is the table that calls after an opening have left.
use Rattle.std.specs.Prelude.{◌≡◌, true, List, [], ◌∷◌, ℕ, length}
use Rattle.completion.specs.declared.Reply.{Reply}
use Rattle.model.specs.declared.{Opening.Opening, Lengths.Lengths, Call.Call, Lookup.Lookup}
use Rattle.model.specs.State.{State, pool_as}
use Rattle.model.specs.Opening.{Plan, plans_in, opens, opened}
use Rattle.step.specs.Step.{step, look}

-- ---- an opened table

pub record Start : Type 0 where
  pub opening : Opening
  pub plan : List ℕ
  pub lengths : Lengths
  pub pool : List ℕ
  pub admitted : opens opening plan lengths ≡ true
  pub whole : length pool ≡ lengths.pool

-- its regions as the opening was given them
unfoldable pub plans_of : Start → List Plan
plans_of x = plans_in x.opening.regions x.plan

unfoldable pub opened_by : Start → State
opened_by x = opened x.opening (plans_of x) x.lengths x.pool

-- ---- what a host does

-- what a host makes: a call, or a lookup
pub data Made : Type 0 where
  calls : Call → Made
  looks : Lookup → Made

-- the host leaves the pool in some way, then makes a call or a lookup, lending parts of some lengths
pub record Event : Type 0 where
  pub leaves : List ℕ
  pub lengths : Lengths
  pub made : Made

unfoldable pub leave : State → List ℕ → State
leave s pool = pool_as pool s

-- the next state and the reply; a lookup changes nothing
unfoldable pub done : State → Lengths → Made → State × Reply
done s l (calls c) = step s l c
done s l (looks x) = (s, look s l x)

unfoldable pub next : State → Event → State
next s e = (done (leave s e.leaves) e.lengths e.made).0

unfoldable pub reply_to : State → Event → Reply
reply_to s e = (done (leave s e.leaves) e.lengths e.made).1

unfoldable pub run : State → List Event → State
run s [] = s
run s (e ∷ es) = run (next s e) es

-- the table after a history
unfoldable pub after : Start → List Event → State
after x h = run (opened_by x) h

-- each event leaves as many pool bytes as there were
unfoldable pub Pools : ℕ → List Event → Type 0
Pools n [] = Unit {0}
Pools n (e ∷ es) = (length e.leaves ≡ n) × Pools n es
