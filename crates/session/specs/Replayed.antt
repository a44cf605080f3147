-- A trace as far as it was read and answered. What is printed goes to the system's `write`, of which nothing is promised: here stands what becomes of
-- the rest.
use Rattle.std.specs.Prelude.{◌≡◌, Bool, true, List, ℕ}
use Rattle.fields.specs.Trace.{Kept}
use Rattle.optable.specs.Called.{lent_of}
use Rattle.input.specs.Input.{Turned as TurnedIn}
use Rattle.session.specs.declared.{Stage.Stage, turn.Running.Running}
use Rattle.session.specs.Unopened.{Stood, stood_at}
use Rattle.session.specs.Lines.{Line}

-- where a trace stands, in the program's memory
abbrev pub standing : Running → List ℕ → List ℕ → List ℕ → List ℕ → List ℕ → List ℕ → Stood
standing r plan store free ready owners pool =
    stood_at r.stage plan r.host.flushes r.host.counts (lent_of r.host.rows store free ready owners pool)

-- a line is answered: one step of the trace, with some text
pub record Leaves (bytes : List ℕ) (n : ℕ) (s s' : Stood) : Type 0 where
  pub text : List ℕ
  pub line : Line bytes n s s' text

abbrev pub Answers : Running → Running → List ℕ → Stood → Stood → Type 0
Answers r r' line s s' = (r'.from ≡ r.from) × ((bytes : List ℕ) → Kept r.from.reader line bytes → Leaves bytes r.from.number s s')

-- a step in the input, and the line answered if that made it whole
abbrev pub Turned : Running → Running → List ℕ → List ℕ → List ℕ → List ℕ → Stood → Stood → Type 0
Turned r r' line line' chunk chunk' s s' = TurnedIn Leaves r.from r'.from line line' chunk chunk' s s'

-- whether the program ends: "prints `limit`, and the program ends", or the input has ended
unfoldable pub over_at : Stage → Bool → Bool
over_at Stage.Before ended = ended
over_at (Stage.Planned o) ended = ended
over_at (Stage.Table k) ended = ended
over_at Stage.Refused ended = ended
over_at Stage.Over ended = true
