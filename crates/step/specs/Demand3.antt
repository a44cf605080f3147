-- Demand 3: "Whatever order the storage card answers in: from any table that calls after an opening have left, where no open write shares mapped card
-- bytes with another open operation, take any two lists of answers, flush results, takings and lookups, turned-away ones included, until all open
-- operations are done. .. Then each operation open at first gets in both exactly one completion, and its buffer as completed, equal to those of
-- document 01's operation alone; the set of free rows, the generations and the card's bytes, equal at first, agree; free plus live rows equal the
-- depth after every call." An answer under a live tag is taken to be for the piece that the row awaits: all pieces of an operation have one tag, and
-- a tag is issued again after a refused first piece, so a second answer to an earlier piece or to an earlier use of the tag cannot be told apart
-- (only a count above the piece is caught, 16). Beside it the projection, of any history: an operation in the table is the operation alone. Proved in
-- proofs/ (Demand3: demand3; Projection: projection).
use Rattle.std.specs.Prelude.{◌≡◌, ◌≢◌, Bool, true, false, List, [], ◌∷◌, ◌++◌, ℕ, ◌+◌, ◌<◌, length, take, drop}
use Rattle.std.proofs.Math.Option.{Option, some}
use Rattle.regionmap.specs.Map.{place}
use Rattle.posix.specs.Posix.{Card}
use Rattle.model.specs.declared.Kind.TheVariants as Kind
use Rattle.model.specs.declared.{Awaits.Awaits, Row.Row, Call.Call}
use Rattle.model.specs.State.{State, live_rows}
use Rattle.step.specs.Questions.{region_at, byte_at}
use Rattle.step.specs.Rules.{piece_length, is_whole, is_refusal, Input, Input.answered, Input.flushed, range_start, range_end}
use Rattle.step.specs.Step.{row_of, row_at, bytes_at, is_live, names, settled, eq_lengths, plan_of}
use Rattle.step.specs.Lists.{times, brought, is_away, loose, plan_at, given, Completed, gets, added, takings, card_after, Hosted, HostMay, tag_at}
use Rattle.step.specs.Lists.{tag_in}
use Rattle.step.specs.Run.{Made, Made.calls, Made.looks, Event, leave, done, next, run, reply_to, Start, after, opened_by, plans_of}
use Rattle.step.specs.Alone.{Course, Course.is_open, Course.completed, Course.was_refused, Alones, none_yet, alone_fate, alones, plan_for}
use Rattle.model.specs.Opening.{Plan}

-- ---- the operation alone

-- every operation alone after a history
unfoldable pub alones_after : Start → List Event → Alones
alones_after x h = alones x.opening x.lengths (opened_by x) (none_yet (plans_of x)) h

-- the operation alone under a queue tag
unfoldable pub alone_at : Start → List Event → ℕ → Option Course
alone_at x h t = (alones_after x h).ops t

-- ---- the projection, of any history with submissions, refusals and failures

-- the bytes of an open operation's buffer are the operation alone's, but for the piece of a read under way, which is the host's
pub record Alike (s : State) (r : Row) (bytes : List ℕ) : Type 0 where
  pub count : length bytes ≡ s.settings.capacity
  pub same : drop (loose (plan_at s r) r.awaits) bytes ≡ drop (loose (plan_at s r) r.awaits) (bytes_at s r.buffer)

-- the operation in a row is the one alone under its tag
pub record IsAlone (s : State) (a : Alones) (r : ℕ) : Type 0 where
  pub bytes : List ℕ
  pub same : a.ops (tag_at s r) ≡ some (is_open (plan_at s (row_at s r)) (row_at s r) bytes)
  pub alike : Alike s (row_at s r) bytes

pub record Projected (s : State) (a : Alones) : Type 0 where
  -- each live row is an operation alone that is open
  pub each : (r : ℕ) → is_live (row_at s r).awaits ≡ true → IsAlone s a r
  -- and each operation alone that is open is a live row's, with the plan of its region
  pub only : (t : ℕ) (g : Plan) (r : Row) (bytes : List ℕ) → a.ops t ≡ some (is_open g r bytes)
      → (names (row_at s (row_of t)) t ≡ true) × (row_at s (row_of t) ≡ r) × (plan_at s r ≡ g)
  -- the plans, the marks and the first cause that it is fed are the table's
  pub regions : length a.plans ≡ s.settings.regions
  pub plans : (h : ℕ) → plan_for a h ≡ plan_of (region_at s h)
  pub forced : (h : ℕ) → h < s.settings.regions → a.forced h ≡ (region_at s h).forced
  pub first : a.first ≡ s.poison
  pub count : a.count ≡ s.counts.submissions

-- an event that brings the input i to the operation under the queue tag t, from the table s and the operations alone a: the table does what is done
-- alone
pub record StepsAlone (x : Start) (s : State) (a a' : Alones) (e : Event) (t : ℕ) (i : Input) : Type 0 where
  -- where none is open under the tag, or another length is lent, the event is turned away and changes nothing
  pub none_open : ((g : Plan) (r : Row) (bytes : List ℕ) → a.ops t ≡ some (is_open g r bytes) → ⊥)
      → (is_away (reply_to s e) ≡ true) × (next s e ≡ leave s e.leaves)
  pub another_length : eq_lengths e.lengths x.lengths ≡ false → (is_away (reply_to s e) ≡ true) × (next s e ≡ leave s e.leaves)
  -- where one is, the rules say of the row what they say of the operation alone, and that is what the table does
  pub same_fate : (g : Plan) (r : Row) (bytes : List ℕ) → a.ops t ≡ some (is_open g r bytes) → eq_lengths e.lengths x.lengths ≡ true
      → done (leave s e.leaves) e.lengths e.made
      ≡ settled (leave s e.leaves) t r (alone_fate x.opening x.lengths a e.leaves g r bytes i)
  -- so a completion is added exactly if the operation alone ends with it, and with its buffer as completed
  pub completes : (g : Plan) (r : Row) (bytes : List ℕ) (c : Completed) → a.ops t ≡ some (is_open g r bytes) → a'.ops t ≡ some (completed c)
      → ((next s e).ready ≡ s.ready ++ (c.0 ∷ [])) × (bytes_at (next s e) r.buffer ≡ c.1)
  pub goes_on_lem : (g g' : Plan) (r r' : Row) (bytes bytes' : List ℕ) → a.ops t ≡ some (is_open g r bytes) → a'.ops t ≡ some (is_open g' r' bytes')
      → (next s e).ready ≡ s.ready
  pub refused : (g : Plan) (r : Row) (bytes : List ℕ) → a.ops t ≡ some (is_open g r bytes) → a'.ops t ≡ some was_refused → (next s e).ready ≡ s.ready

unfoldable pub Projection : Type 0
Projection = (x : Start) (h : List Event) → Hosted (opened_by x) h
    → Projected (after x h) (alones_after x h)
    × ((e : Event) (t : ℕ) (i : Input) → HostMay (after x h) e.leaves → brought t e.made ≡ some i
    → StepsAlone x (after x h) (alones_after x h) (alones_after x (h ++ (e ∷ []))) e t i)

-- ---- the suppositions

-- "answers, flush results, takings and lookups"; "nothing is submitted, set or reported poisoned"
unfoldable pub listed_call : Call → Bool
listed_call (Call.Write q) = false
listed_call (Call.ReadPage q) = false
listed_call (Call.Answer t a back flushes) = true
listed_call (Call.Flushed t result) = true
listed_call Call.Take = true
listed_call (Call.SetGate h x) = false
listed_call (Call.SetReadOnly h x) = false
listed_call (Call.SetForced h x) = false
listed_call (Call.ReportPoison c) = false

unfoldable pub is_listed : Made → Bool
is_listed (calls c) = listed_call c
is_listed (looks x) = true

-- "write pieces are taken whole with their buffer back, no first piece is refused"
unfoldable pub FairTo : State → Row → Awaits → Input → Type 0
FairTo s r Awaits.Nothing i = Unit {0}
FairTo s r (Awaits.Piece (Kind.Page a b) sp) (answered x back flushes) =
    (is_whole (piece_length (plan_at s r) (Kind.Page a b) sp) x ≡ true) × (back ≡ true)
FairTo s r (Awaits.Piece (Kind.Page a b) sp) (flushed result) = Unit {0}
FairTo s r (Awaits.Piece (Kind.Read a b) sp) (answered x back flushes) = sp.done ≡ 0 → is_refusal x ≡ false
FairTo s r (Awaits.Piece (Kind.Read a b) sp) (flushed result) = Unit {0}
FairTo s r (Awaits.Flush t) i = Unit {0}

-- of each answer that is not turned away
unfoldable pub Fair : State → Event → Type 0
Fair s e = (i : Input) → brought (tag_in e.made) e.made ≡ some i → is_away (reply_to s e) ≡ false
    → FairTo s (row_at s (row_of (tag_in e.made))) (row_at s (row_of (tag_in e.made))).awaits i

-- one of the two lists: "Each call gets what the last left (in other lengths where it gets 13), the host writes only as document 01 allows"
unfoldable pub Fits : State → List Event → Type 0
Fits s [] = Unit {0}
Fits s (e ∷ es) = HostMay s e.leaves × (is_listed e.made ≡ true) × Fair s e × Fits (next s e) es

-- "until all open operations are done"
unfoldable pub AllDone : State → Type 0
AllDone s = (r : ℕ) → is_live (row_at s r).awaits ≡ false

-- the card bytes that an operation's range is mapped to
pub record Mapped (s : State) (r : Row) (x : ℕ) : Type 0 where
  pub i : ℕ
  pub inside : byte_at (range_start r.awaits) i < range_end r.awaits
  pub at : place (region_at s r.handle).map (byte_at (range_start r.awaits) i) ≡ x

unfoldable pub is_write : Awaits → Bool
is_write Awaits.Nothing = false
is_write (Awaits.Piece (Kind.Page a b) s) = true
is_write (Awaits.Piece (Kind.Read a b) s) = false
is_write (Awaits.Flush t) = true

-- "no open write shares mapped card bytes with another open operation"
unfoldable pub Apart : State → Type 0
Apart s =
    (r k x : ℕ) → r ≢ k → is_write (row_at s r).awaits ≡ true → is_live (row_at s k).awaits ≡ true → Mapped s (row_at s r) x → Mapped s (row_at s k) x → ⊥

-- "Each piece and flush has one answer not turned away, alike in both lists: its form and numbers, every byte the host leaves in a read's piece, past
-- the count or before an error too, the flush count, whether a piece's buffer is back"
unfoldable pub GivenAlike : State → List Event → List Event → Type 0
GivenAlike s l₁ l₂ = (r : ℕ) → is_live (row_at s r).awaits ≡ true → given s l₁ (tag_at s r) ≡ given s l₂ (tag_at s r)

pub record Supposed (s : State) (l₁ l₂ : List Event) : Type 0 where
  pub apart : Apart s
  pub fits₁ : Fits s l₁
  pub fits₂ : Fits s l₂
  pub alike : GivenAlike s l₁ l₂
  pub done₁ : AllDone (run s l₁)
  pub done₂ : AllDone (run s l₂)

-- ---- the claim

-- "each operation open at first gets in both exactly one completion, and its buffer as completed, equal to those of document 01's operation alone"
pub record OneEach (x : Start) (h l₁ l₂ : List Event) (r : ℕ) : Type 0 where
  pub it : Completed
  pub first : gets (after x h) l₁ (tag_at (after x h) r) (row_at (after x h) r).buffer ≡ it ∷ []
  pub second : gets (after x h) l₂ (tag_at (after x h) r) (row_at (after x h) r).buffer ≡ it ∷ []
  pub alone₁ : alone_at x (h ++ l₁) (tag_at (after x h) r) ≡ some (completed it)
  pub alone₂ : alone_at x (h ++ l₂) (tag_at (after x h) r) ≡ some (completed it)

-- of one list: no completion but those, and each completion is taken or still ready, oldest first
pub record NoMore (s : State) (l : List Event) : Type 0 where
  pub count : length (added s l) ≡ live_rows s.rows
  pub queue : s.ready ++ added s l ≡ takings s l ++ (run s l).ready
  -- "free plus live rows equal the depth after every call"
  pub balance : (n : ℕ) → length (run s (take n l)).free + live_rows (run s (take n l)).rows ≡ s.settings.depth

pub record Agreed (x : Start) (h : List Event) (card : Card) (l₁ l₂ : List Event) : Type 0 where
  pub each : (r : ℕ) → is_live (row_at (after x h) r).awaits ≡ true → OneEach x h l₁ l₂ r
  pub no_more₁ : NoMore (after x h) l₁
  pub no_more₂ : NoMore (after x h) l₂
  -- "the set of free rows, the generations and the card's bytes, equal at first, agree"
  pub free_rows : (r : ℕ) → times r (run (after x h) l₁).free ≡ times r (run (after x h) l₂).free
  pub generations : (r : ℕ) → (row_at (run (after x h) l₁) r).generation ≡ (row_at (run (after x h) l₂) r).generation
  pub card_bytes : (b : ℕ) → card_after (after x h) l₁ card b ≡ card_after (after x h) l₂ card b

unfoldable pub Demand3 : Type 0
Demand3 =
    (x : Start) (h : List Event) → Hosted (opened_by x) h → (card : Card) (l₁ l₂ : List Event) → Supposed (after x h) l₁ l₂ → Agreed x h card l₁ l₂
