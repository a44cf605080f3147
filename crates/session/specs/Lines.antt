-- How `replay` answers a line, by where the trace stands: TRACE.md's "Opening" and "Calls". "A line of another form or out of its place (an empty
-- one, a call before `start`, a second `open`) .. prints `bad` and its number in the file, from 1, and changes nothing".
use Rattle.std.specs.Prelude.{List, [], ℕ}
use Rattle.parser.specs.Said.{said_read}
use Rattle.parser.specs.Openings.{open_line_read}
use Rattle.session.specs.declared.Stage.{Stage}
use Rattle.session.specs.Unopened.{Stood, at_stage, told, Tells, before_line, planned_line}
use Rattle.session.specs.Opened.{refused_line, TableLine}

-- one line, of its bytes; "prints `limit`, and the program ends"
unfoldable pub LineAt : Stage → List ℕ → ℕ → Stood → Stood → List ℕ → Type 0
LineAt Stage.Before bytes n s s' text = Tells (before_line (open_line_read bytes) n s) s' text
LineAt (Stage.Planned o) bytes n s s' text = Tells (planned_line (open_line_read bytes) o bytes n s) s' text
LineAt (Stage.Table k) bytes n s s' text = TableLine k (said_read bytes) n s s' text
LineAt Stage.Refused bytes n s s' text = Tells (told (at_stage Stage.Refused s) (refused_line (said_read bytes) n)) s' text
LineAt Stage.Over bytes n s s' text = Tells (told (at_stage Stage.Over s) []) s' text

abbrev pub Line : List ℕ → ℕ → Stood → Stood → List ℕ → Type 0
Line bytes n s s' text = LineAt s.stage bytes n s s' text
