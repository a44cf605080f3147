-- optrun as far as its input was read and answered. What is printed goes to the system's `write`, of which nothing is promised: here stands what
-- becomes of the rest.
use Rattle.std.specs.Prelude.{◌≡◌, List, ℕ}
use Rattle.model.specs.declared.Counts.{Counts}
use Rattle.model.specs.Memory.{Lent}
use Rattle.optable.specs.Called.{lent_of}
use Rattle.fields.specs.Trace.{Kept}
use Rattle.parser.specs.Said.{said_read, optrun_line}
use Rattle.parser.specs.Asks.{asks_of}
use Rattle.runner.specs.Runner.{figures_named, Answers as AnswersTo}
use Rattle.input.specs.Input.{Turned as TurnedIn}
use Rattle.memory.specs.declared.words.Words.{Words}
use Rattle.runner.specs.declared.turn.Running.{Running}

-- the counts, and what is lent
pub record Stood : Type 0 where
  pub counts : Counts
  pub lent : Lent

-- where the table stands, in the program's memory
abbrev pub standing : Running → List ℕ → List ℕ → List ℕ → List ℕ → List ℕ → Stood
standing r store free ready owners pool = record { counts = r.host.counts; lent = lent_of r.host.rows store free ready owners pool }

abbrev pub standing_in : Running → Words → List ℕ → Stood
standing_in r w pool = standing r w.store.now w.free.now w.ready.now w.owners.now pool

-- one line, of its bytes: "The program `optrun` has this opening and a flush count of 0." "Requests name the opening's volume, region and
-- generation."
abbrev pub Line : List ℕ → ℕ → Counts → Lent → Counts → Lent → List ℕ → Type 0
Line bytes n c l c' l' text = AnswersTo (asks_of (optrun_line (said_read bytes)) figures_named 0) n c l c' l' text

-- a line is answered, with some text
pub record Leaves (bytes : List ℕ) (n : ℕ) (s s' : Stood) : Type 0 where
  pub text : List ℕ
  pub line : Line bytes n s.counts s.lent s'.counts s'.lent text

abbrev pub Answers : Running → Running → List ℕ → Stood → Stood → Type 0
Answers r r' line s s' = (r'.from ≡ r.from) × ((bytes : List ℕ) → Kept r.from.reader line bytes → Leaves bytes r.from.number s s')

-- a step in the input, and the line answered if that made it whole
abbrev pub Turned : Running → Running → List ℕ → List ℕ → List ℕ → List ℕ → Stood → Stood → Type 0
Turned r r' line line' chunk chunk' s s' = TurnedIn Leaves r.from r'.from line line' chunk chunk' s s'
