-- What the laws of the questions, the demands and the projection leave to the definitions: lost buffers, the reply that completes, takings, the
-- settings, reports of poison and the lookups. Each is said here by what a host can see of it. Proved in proofs/Others.antt (other-laws).
use Rattle.std.specs.Prelude.{◌≡◌, ◌≢◌, Bool, true, false, List, [], ◌∷◌, ℕ, ◌+◌, ◌*◌, ◌≤◌, ◌<◌, length, get_or}
use Rattle.std.proofs.Math.Option.{Option, none, some}
use Rattle.regionmap.specs.declared.Position.{Position}
use Rattle.domain.specs.declared.FirstCause.{FirstCause}
use Rattle.std.specs.declared.option.Option.{Option as StdOption}
use Rattle.platform.specs.declared.Answer.{Answer as CardAnswer}
use Rattle.completion.specs.declared.{Completion.Completion, Reply.Reply}
use Rattle.completion.specs.Buffers.{Buffer}
use Rattle.std.specs.declared.option.Option.TheVariants.{Some as Back, None as Lost}
use Rattle.model.specs.declared.{Lengths.Lengths, Gate.Gate, Kind.Kind, Split.Split, Request.Request, Call.Call}
use Rattle.model.specs.declared.Awaits.TheVariants as Awaits
use Rattle.model.specs.declared.Lookup.TheVariants as Lookup
use Rattle.model.specs.State.{Owner.host, Owner.lost, State, freed}
use Rattle.step.specs.Questions.{region_at, held_at}
use Rattle.step.specs.Rules.{Input, op_of, first_of, last_of, buffer_as, error_of, is_refusal}
use Rattle.step.specs.Step.{row_of, row_at, names, bytes_at, is_live, with_regions, with_poison, step, look, eq_lengths}
use Rattle.step.specs.Sound.{Sound}
use Rattle.step.specs.Run.{Event, run, Pools}
use Rattle.step.specs.Lists.{brought_by, is_away}

-- a buffer of the pool that is lost
abbrev pub IsLost : State → ℕ → Type 0
IsLost s b = get_or s.owners b host ≡ lost

-- the buffer of a completion, if it came back
unfoldable pub buffer_back : Buffer → Option ℕ
buffer_back (Back h) = some h.buffer
buffer_back Lost = none

-- the buffer that a call is about: a request's, that of the row under a queue tag, or that of the completion that is taken
unfoldable pub taken_from : List Completion → Option ℕ
taken_from [] = none
taken_from (c ∷ more) = buffer_back c.buf

unfoldable pub about_buffer : State → Call → Option ℕ
about_buffer s (Call.Write q) = some q.buffer
about_buffer s (Call.ReadPage q) = some q.buffer
about_buffer s (Call.Answer t a back flushes) = some (row_at s (row_of t)).buffer
about_buffer s (Call.Flushed t result) = some (row_at s (row_of t)).buffer
about_buffer s Call.Take = taken_from s.ready
about_buffer s (Call.SetGate h x) = none
about_buffer s (Call.SetReadOnly h x) = none
about_buffer s (Call.SetForced h x) = none
about_buffer s (Call.ReportPoison cause) = none

-- "First piece refused: the row is freed, its generation kept, the sequence number spent. The host gets Io or QueueFull and the range, and its
-- buffer, if it came back, with the whole length. No completion, no poison.": the reply, and what is left of the row in place r
pub record FirstRefused (s s' : State) (reply : Reply) (r : ℕ) (k : Kind) (sp : Split) (a : CardAnswer) (back : Bool) : Type 0 where
  pub replies : reply ≡ Reply.Rejected (record { region = (region_at s (row_at s r).handle).id; start = first_of k; end = last_of k }) (op_of k)
      (error_of a) (buffer_as back (row_at s r).buffer sp.total)
  pub given_back_lem : back ≡ true → held_at s' (row_at s r).buffer ≡ true
  pub row : row_at s' r ≡ freed (row_at s r).generation
  pub free : s'.free ≡ r ∷ s.free
  pub spent : s'.counts.submissions ≡ s.counts.submissions
  pub ready : s'.ready ≡ s.ready
  pub poison : s'.poison ≡ s.poison

-- a region's marks are set: of the region under a handle these, of every other region none, and nothing but regions changes
pub record MarksSet (s s' : State) (r : Reply) (h : ℕ) (gate : Gate) (read_only forced : Bool) : Type 0 where
  pub here : region_at s' h ≡
      record {
        id = (region_at s h).id;
        generation = (region_at s h).generation;
        map = (region_at s h).map;
        gate = gate;
        read_only = read_only;
        forced = forced;
      }
  pub others : (k : ℕ) → k ≢ h → region_at s' k ≡ region_at s k
  pub rest : with_regions s' s.regions ≡ s
  pub reply : r ≡ Reply.Ok

pub record OtherLaws : Type 0 where
  -- a call changes who has the buffer that it is about, and no other
  pub others_kept : (s : State) (l : Lengths) (c : Call) (b : ℕ) → about_buffer s c ≢ some b
      → get_or (step s l c).0.owners b host ≡ get_or s.owners b host
  -- "A buffer that did not come back is never accepted again.": an answer that is not turned away and says so leaves it lost, also of a first piece
  -- refused
  pub loses : (s : State) (l : Lengths) (t : ℕ) (a : CardAnswer) (flushes : ℕ) → Sound s
      → is_away (step s l (Call.Answer t a false flushes)).1 ≡ false
      → IsLost (step s l (Call.Answer t a false flushes)).0 (row_at s (row_of t)).buffer
  -- it stays lost whatever is called, so no submission that names it is accepted
  pub stays_lost : (s : State) (es : List Event) (b : ℕ) → Sound s → Pools (length s.pool) es → IsLost s b → IsLost (run s es) b
  pub lost_refused : (s : State) (l : Lengths) (q : Request) → IsLost s q.buffer
      → (is_away (step s l (Call.Write q)).1 ≡ true) × (is_away (step s l (Call.ReadPage q)).1 ≡ true)
  -- "(a lost one keeps its bytes as they lie)": no call changes a byte of a buffer that it leaves lost
  pub lost_lies : (s : State) (l : Lengths) (c : Call) (b : ℕ) → Sound s → IsLost (step s l c).0 b → bytes_at (step s l c).0 b ≡ bytes_at s b
  pub first_refused_lem : (s : State) (l : Lengths) (t : ℕ) (k : Kind) (sp : Split) (a : CardAnswer) (back : Bool) (flushes : ℕ) → Sound s
      → eq_lengths l s.lengths ≡ true
      → names (row_at s (row_of t)) t ≡ true → (row_at s (row_of t)).awaits ≡ Awaits.Piece k sp → sp.done ≡ 0 → is_refusal a ≡ true
      → FirstRefused s (step s l (Call.Answer t a back flushes)).0 (step s l (Call.Answer t a back flushes)).1 (row_of t) k sp a back
  -- an answer or a flush result that adds a completion says so, under its own queue tag
  pub done : (s : State) (l : Lengths) (c : Call) (t : ℕ) (i : Input) → brought_by t c ≡ some i
      → length (step s l c).0.ready ≡ length s.ready + 1 → (step s l c).1 ≡ Reply.Done t
  -- "Completions are taken oldest first; taking one gives its buffer back, if it came back. With none ready the reply is none and nothing changes."
  pub takes : (s : State) (l : Lengths) (c : Completion) (more : List Completion) → Sound s → eq_lengths l s.lengths ≡ true → s.ready ≡ c ∷ more
      → ((step s l Call.Take).1 ≡ Reply.Took c) × ((step s l Call.Take).0.ready ≡ more)
      × ((b n : ℕ) → c.buf ≡ Back (record { buffer = b; len = n }) → held_at (step s l Call.Take).0 b ≡ true)
  pub takes_none : (s : State) (l : Lengths) → eq_lengths l s.lengths ≡ true → s.ready ≡ [] → step s l Call.Take ≡ (s, Reply.None)
  -- "set a region's gate, read-only or forced mark": of a handle that names a region
  pub sets_gate : (s : State) (l : Lengths) (h : ℕ) (x : Gate) → Sound s → eq_lengths l s.lengths ≡ true → h < s.settings.regions
      → MarksSet s (step s l (Call.SetGate h x)).0 (step s l (Call.SetGate h x)).1 h x (region_at s h).read_only (region_at s h).forced
  pub sets_read_only : (s : State) (l : Lengths) (h : ℕ) (x : Bool) → Sound s → eq_lengths l s.lengths ≡ true → h < s.settings.regions
      → MarksSet s (step s l (Call.SetReadOnly h x)).0 (step s l (Call.SetReadOnly h x)).1 h (region_at s h).gate x (region_at s h).forced
  pub sets_forced : (s : State) (l : Lengths) (h : ℕ) (x : Bool) → Sound s → eq_lengths l s.lengths ≡ true → h < s.settings.regions
      → MarksSet s (step s l (Call.SetForced h x)).0 (step s l (Call.SetForced h x)).1 h (region_at s h).gate (region_at s h).read_only x
  -- "report poison with a cause (the first is kept)": the first, and a later one
  pub reports : (s : State) (l : Lengths) (cause : FirstCause) → eq_lengths l s.lengths ≡ true → s.poison ≡ StdOption.None
      → step s l (Call.ReportPoison cause) ≡ (with_poison s (StdOption.Some cause), Reply.Ok)
  pub reports_later : (s : State) (l : Lengths) (cause first : FirstCause) → eq_lengths l s.lengths ≡ true → s.poison ≡ StdOption.Some first
      → step s l (Call.ReportPoison cause) ≡ (s, Reply.Ok)
  -- "whether a write still awaits a piece"
  pub writes : (s : State) (l : Lengths) (r : ℕ) (a b : Position) (sp : Split) → eq_lengths l s.lengths ≡ true
      → (row_at s r).awaits ≡ Awaits.Piece (Kind.Page a b) sp → look s l Lookup.WritesLive ≡ Reply.Writes true
  pub no_writes : (s : State) (l : Lengths) → eq_lengths l s.lengths ≡ true
      → ((r : ℕ) (a b : Position) (sp : Split) → (row_at s r).awaits ≡ Awaits.Piece (Kind.Page a b) sp → ⊥)
      → look s l Lookup.WritesLive ≡ Reply.Writes false
  -- "the mark, 2 × the oldest live sequence number + 1, or 2 × the next if none is live"
  pub mark : (s : State) (l : Lengths) (r : ℕ) → Sound s → eq_lengths l s.lengths ≡ true → is_live (row_at s r).awaits ≡ true
      → ((k : ℕ) → is_live (row_at s k).awaits ≡ true → (row_at s r).seq ≤ (row_at s k).seq) → look s l Lookup.Mark ≡ Reply.Mark (2 * (row_at s r).seq + 1)
  pub mark_none : (s : State) (l : Lengths) → eq_lengths l s.lengths ≡ true → ((r : ℕ) → is_live (row_at s r).awaits ≡ false)
      → look s l Lookup.Mark ≡ Reply.Mark (2 * s.counts.submissions)
