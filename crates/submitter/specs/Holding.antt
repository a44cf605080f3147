-- A host in Rattle, which lends records: `open`, `call` and `lookup`, whose contracts are OpensTo, CallsTo and LooksTo.
-- What it holds is a table that calls have left. Proved in proofs/Holding.antt (host-holds).
use Rattle.std.specs.Prelude.{◌≡◌, List, map, ℕ}
use Rattle.model.specs.declared.{Opening.Opening, Counts.Counts, Row.Row}
use Rattle.model.specs.Memory.{Lent, lengths_of, state_in}
use Rattle.step.specs.Run.{Start, opened_by}
use Rattle.optable.specs.Called.{lent_of}
use Rattle.optable.specs.Held.{Holds, Turn, TurnsFrom, counts_after, held_after, event_of, AsSteps, Begins}
use Rattle.std.specs.declared.result.Result.{Result}
use Rattle.opening.specs.Opened.{OpensTo}

-- After an opening of what is lent in l, which left l₀ with the counts c₀, and a list of calls and lookups: the opened table was in l₀; from it each
-- of them was the step's, its reply and what is held after it; and the history that they are is in what is held at the end.
pub record HeldFrom (o : Opening) (plan : List ℕ) (l : Lent) (c₀ : Counts) (l₀ : Lent) (us : List Turn) : Type 0 where
  pub start : Start
  pub begins : Begins o plan (lengths_of l) l.pool start
  pub opened : state_in c₀ l₀ ≡ opened_by start
  pub as_steps : AsSteps (opened_by start) us
  pub holds : Holds start (map event_of us) (counts_after c₀ us) (held_after l₀ us)

-- from an opening that was admitted: its reply is a table
unfoldable pub HostHolds : Type 0
HostHolds = (o : Opening) (plan : List ℕ) (l : Lent) (c₀ : Counts) (rows : List Row) (store free ready owners : List ℕ)
    → OpensTo o plan l (Result.Ok c₀) rows store free ready owners
    → (us : List Turn) → TurnsFrom c₀ (lent_of rows store free ready owners l.pool) us
    → HeldFrom o plan l c₀ (lent_of rows store free ready owners l.pool) us
