-- The lines after `start`: TRACE.md's "Opening" and "Calls".
use Rattle.std.specs.Prelude.{◌≡◌, List, [], ◌++◌, ℕ, take, drop}
use Rattle.optable.specs.Called.{lent_of}
use Rattle.parser.specs.declared.forms.Said.{Said}
use Rattle.printer.specs.Texts.{bad_text}
use Rattle.session.specs.Asking.{Held, held_of}
use Rattle.session.specs.Table.{Answers}
use Rattle.session.specs.declared.Stage.TheVariants as Stage
use Rattle.session.specs.Unopened.{Stood, stood_at, no_text13}

-- "`no 13` where the opening breaks a rule .., after which every call prints `no 13`"
unfoldable pub refused_line : Said → ℕ → List ℕ
refused_line Said.Comment n = []
refused_line (Said.Call c) n = no_text13
refused_line (Said.Own w b p l d t) n = no_text13
refused_line (Said.Count t k) n = no_text13
refused_line (Said.Look x) n = no_text13
refused_line Said.Len n = no_text13
refused_line (Said.Fill b a l x) n = no_text13
refused_line (Said.Sum b a l) n = no_text13
refused_line Said.Rows n = no_text13
refused_line Said.Bad n = bad_text n

-- an open table's part of what the program holds: of the pool the first k bytes
unfoldable pub part_of : ℕ → Stood → Held
part_of k s =
    held_of s.flushes s.counts
    (lent_of s.lent.rows s.lent.store s.lent.free s.lent.ready s.lent.owners (take k s.lent.pool))

-- the whole again: the pool's other bytes stay
unfoldable pub joined : ℕ → Held → Stood → Stood
joined k h s =
    stood_at (Stage.Table k) s.plan h.flushes h.counts
    (lent_of h.lent.rows h.lent.store h.lent.free h.lent.ready h.lent.owners (h.lent.pool ++ drop k s.lent.pool))

-- a line of an open table: its part is answered (Table)
pub record TableLine (k : ℕ) (said : Said) (n : ℕ) (s s' : Stood) (text : List ℕ) : Type 0 where
  pub part : Held
  pub answers : Answers said n (part_of k s) part text
  pub stood : s' ≡ joined k part s
