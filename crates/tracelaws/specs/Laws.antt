-- What holds of a trace from its first line on: what is lent to an open table is a table that calls have left. `start` begins a history (opened),
-- and the lines since are that history (lines; optable's Held: Holds). So what `CallsTo`, `LooksTo`, `FillsIn` and `ListsIn` say of such tables is
-- promised of every line, and what a line of calls prints is the step's reply after that history. Proved in proofs/Laws.antt (trace-laws).
use Rattle.std.specs.Prelude.{◌≡◌, List, [], ◌∷◌, ◌++◌, ℕ}
use Rattle.model.specs.declared.{Opening.Opening, Counts.Counts, Lookup.Lookup}
use Rattle.model.specs.Memory.{Lent, lengths_of, state_in}
use Rattle.step.specs.Questions.{region_at}
use Rattle.step.specs.Run.{Made.calls, Made.looks, Event, Start, opened_by, next, after, reply_to}
use Rattle.optable.specs.Held.{Holds, event, Begins}
use Rattle.hostfill.specs.MayFill.{Open}
use Rattle.parser.specs.declared.{forms.Said.Said, requests.Asks.Asks}
use Rattle.parser.specs.Asks.{asks_of}
use Rattle.parser.specs.Said.{said_read}
use Rattle.printer.specs.Replay.{replay_text}
use Rattle.session.specs.Asking.{Held, named_in}
use Rattle.session.specs.Table.{shorter}
use Rattle.session.specs.declared.Stage.{Stage}
use Rattle.session.specs.Start.{lent_for}
use Rattle.session.specs.Unopened.{Stood}
use Rattle.session.specs.Opened.{part_of, TableLine}
use Rattle.session.specs.Lines.{LineAt, Line}

-- ---- the history that lines are

-- the call or the lookup that a line asks for, with the pool as it lies then and the lengths that are lent; what the host does between calls, a
-- comment and a line of another form make none
unfoldable pub asked_events : Asks → Held → List Event
asked_events Asks.Nothing h = []
asked_events (Asks.Call c) h = event h.lent.pool (lengths_of h.lent) (calls c) ∷ []
asked_events Asks.Other h = []

unfoldable pub line_events : Said → Held → List Event
line_events Said.Comment h = []
line_events (Said.Call c) h = event h.lent.pool (lengths_of h.lent) (calls c) ∷ []
line_events (Said.Own write b p n durable tag) h = asked_events (asks_of (Said.Own write b p n durable tag) (named_in h.lent.store) h.flushes) h
line_events (Said.Count t n) h = asked_events (asks_of (Said.Count t n) (named_in h.lent.store) h.flushes) h
line_events (Said.Look x) h = event h.lent.pool (lengths_of h.lent) (looks x) ∷ []
line_events Said.Len h = event h.lent.pool (lengths_of (shorter h.lent)) (looks Lookup.WritesLive) ∷ []
line_events (Said.Fill b at n seed) h = []
line_events (Said.Sum b at n) h = []
line_events Said.Rows h = []
line_events Said.Bad h = []

-- a line that is an event prints the text of the step's reply, and what is held then is the step's table, to the byte
unfoldable pub IsStep : Start → List Event → List Event → Held → List ℕ → Type 0
IsStep x h [] held' text = Unit {0}
IsStep x h (e ∷ es) held' text = (text ≡ replay_text (reply_to (after x h) e)) × (state_in held'.counts held'.lent ≡ next (after x h) e)

-- after a line the history that it is has been added, and is in what is held
pub record Leaves (x : Start) (h : List Event) (said : Said) (held held' : Held) (text : List ℕ) : Type 0 where
  pub holds : Holds x (h ++ line_events said held) held'.counts held'.lent
  pub is_step : IsStep x h (line_events said held) held' text

-- ---- lists of lines

-- a line of an open table, with its number, where the trace stands after it, and what was printed
pub record Answer : Type 0 where
  pub bytes : List ℕ
  pub number : ℕ
  pub stood : Stood
  pub text : List ℕ

unfoldable pub Answered : ℕ → Stood → List Answer → Type 0
Answered k s [] = Unit {0}
Answered k s (a ∷ more) = TableLine k (said_read a.bytes) a.number s a.stood a.text × Answered k a.stood more

-- where the trace stands after the last
unfoldable pub stood_after : Stood → List Answer → Stood
stood_after s [] = s
stood_after s (a ∷ more) = stood_after a.stood more

-- the history that they are
unfoldable pub line_history : ℕ → Stood → List Answer → List Event
line_history k s [] = []
line_history k s (a ∷ more) = line_events (said_read a.bytes) (part_of k s) ++ line_history k a.stood more

-- each of them was so
unfoldable pub AreSteps : Start → List Event → ℕ → Stood → List Answer → Type 0
AreSteps x h k s [] = Unit {0}
AreSteps x h k s (a ∷ more) =
    let es = line_events (said_read a.bytes) (part_of k s) in
    IsStep x h es (part_of k a.stood) a.text × AreSteps x (h ++ es) k a.stood more

-- ---- where a trace stands

-- `start` opened the table of the first k bytes of the pool: a history begins with that opening, and is in what is held
pub record OpenedBy (o : Opening) (s s' : Stood) (k : ℕ) : Type 0 where
  pub start : Start
  pub begins : Begins o s.plan (lengths_of (lent_for o s.lent)) (lent_for o s.lent).pool start
  pub opened : state_in s'.counts (part_of k s').lent ≡ opened_by start
  pub holds : Holds start [] s'.counts (part_of k s').lent

-- a table that calls have left
pub record Reached (c : Counts) (l : Lent) : Type 0 where
  pub start : Start
  pub history : List Event
  pub holds : Holds start history c l

unfoldable pub StandsAt : Stage → Stood → Type 0
StandsAt Stage.Before s = Unit {0}
StandsAt (Stage.Planned o) s = Unit {0}
StandsAt (Stage.Table k) s = Reached s.counts (part_of k s).lent
StandsAt Stage.Refused s = Unit {0}
StandsAt Stage.Over s = Unit {0}

abbrev pub Stands : Stood → Type 0
Stands s = StandsAt s.stage s

pub record TraceLaws : Type 0 where
  pub first : (s : Stood) → StandsAt Stage.Before s
  pub line : (bytes : List ℕ) (n : ℕ) (s s' : Stood) (text : List ℕ) → Stands s → Line bytes n s s' text → Stands s'
  -- the line that opens the table
  pub opened : (o : Opening) (bytes : List ℕ) (n : ℕ) (s s' : Stood) (text : List ℕ) (k : ℕ) → LineAt (Stage.Planned o) bytes n s s' text
      → s'.stage ≡ Stage.Table k → OpenedBy o s s' k
  -- a line of an open table, with its history
  pub table : (x : Start) (h : List Event) (k : ℕ) (bytes : List ℕ) (n : ℕ) (s s' : Stood) (text : List ℕ)
      → Holds x h s.counts (part_of k s).lent → TableLine k (said_read bytes) n s s' text
      → Leaves x h (said_read bytes) (part_of k s) (part_of k s') text
  -- and any list of them
  pub lines : (x : Start) (h : List Event) (k : ℕ) (s : Stood) (more : List Answer) → Holds x h s.counts (part_of k s).lent → Answered k s more
      → Holds x (h ++ line_history k s more) (stood_after s more).counts (part_of k (stood_after s more)).lent × AreSteps x h k s more
  -- such a table is open: `fill` and `rows` are promised values of it (session's Host)
  pub is_open_lem : (c : Counts) (l : Lent) → Reached c l → Open c l
  -- `w` and `r`: "handle 0, with its own volume, id and generation" names what the table has there
  pub own_names : (c : Counts) (l : Lent) → Open c l → named_in l.store ≡
      record { volume = (state_in c l).settings.volume; region = (region_at (state_in c l) 0).id; generation = (region_at (state_in c l) 0).generation }
