-- A write counted as kept stands on the card at its completion. From any table that calls have left, a write that was completed as written or with a
-- receipt, whatever the card answered and whatever else was submitted: every byte of its buffer at acceptance stands at its own mapped card offset
-- when its last piece was answered, and at its completion, where no piece of another write was under way on that card byte meanwhile. Where one was,
-- nothing is said of the byte, and the byte may be the other write's (crate examples, specs/Overlapped.antt: Overlapped). Nor is anything said of
-- the card after the completion: a write that was accepted earlier and is still open may yet write there (the same file: Afterwards).
-- An answer under a live tag is taken to be for the piece that the row awaits: all pieces of an operation have one tag, and a tag is issued again
-- after a refused first piece, so a second answer to an earlier piece or to an earlier use of the tag cannot be told apart (only a count above the
-- piece is caught, 16).
-- The card moves only by pieces answered whole (`card_by`). Document 01 says so of demand 3: "nothing changes the card but a write's piece answered
-- whole, by an answer not turned away: its bytes in the buffer go to its offset". Here that is carried over to any answers. So a piece answered
-- whole moves its bytes, its buffer back or not (A74). What a piece moved that was answered short or with an error is unknown: nothing is claimed of
-- its bytes, since it was under way on them (A74, of a short count). And a piece that was answered moves nothing afterwards, also where its buffer
-- did not come back: the Rust says of such a buffer that "the kernel may still use it". A42 reads document 01 so that nobody writes such a buffer;
-- here that is carried over to the card. (A write that lost its buffer has poisoned the store, so later writes are refused, question 8.)
-- Proved in proofs/Kept.antt (kept).
use Rattle.std.specs.Prelude.{◌≡◌, ◌≢◌, true, List, [], ◌∷◌, ◌++◌, ℕ, ◌<◌, get_or}
use Rattle.regionmap.specs.Map.{place}
use Rattle.posix.specs.Posix.{Card}
use Rattle.completion.specs.declared.Completion.{Completion}
use Rattle.model.specs.declared.Request.{Request}
use Rattle.model.specs.declared.Call.TheVariants as Call
use Rattle.model.specs.State.{State}
use Rattle.step.specs.Questions.{region_at, byte_at, whole_of}
use Rattle.step.specs.Step.{row_of, row_at}
use Rattle.step.specs.Run.{Made.calls, Event, next, run, Start, after}
use Rattle.step.specs.Lists.{plan_at, Completed, card_after}
use Rattle.step.specs.Demand2.{BeingWritten, Accepted, buffer_then, submitted_in, PiecesDone, gets_in, Followed, is_kept}

-- "no other operation writing its bytes meanwhile", of one card byte: before each event of a list no piece of a write in another row than the queue
-- tag's is under way on the byte y, however it is answered. The card changes at an event by a piece that a row awaits before it (`card_by`), so the
-- table after the last event is not asked
unfoldable pub QuietAt : State → List Event → ℕ → ℕ → Type 0
QuietAt s [] t y = Unit {0}
QuietAt s (e ∷ es) t y =
    ((r : ℕ) → r ≢ row_of t → BeingWritten (plan_at s (row_at s r)) (row_at s r).awaits y → ⊥) × QuietAt (next s e) es t y

-- the mapped card offset of the request's i-th byte
abbrev pub offset_then : Start → List Event → Request → ℕ → ℕ
offset_then x h q i = place (region_at (after x h) q.handle).map (byte_at q.offset.0 i)

-- the i-th byte of the buffer at acceptance stands there after the events es behind the submission
abbrev pub Stands : Start → List Event → Event → Request → Card → List Event → ℕ → Type 0
Stands x h e q card es i = card_after (submitted_in x h e) es card (offset_then x h q i) ≡ get_or (buffer_then x e q) i 0

pub record KeptStands (x : Start) (h : List Event) (e : Event) (t : ℕ) (q : Request) (card : Card) (es : List Event) : Type 0 where
  -- when its last piece was answered: after every front es₁ of the events at whose end its pieces are done. Of a durable write that may be before its
  -- flush result, which then is in es₂; es₂ may be []
  pub answered : (es₁ es₂ : List Event) → es ≡ es₁ ++ es₂ → PiecesDone (run (submitted_in x h e) es₁) t
      → (i : ℕ) → i < whole_of q → QuietAt (submitted_in x h e) es₁ t (offset_then x h q i) → Stands x h e q card es₁ i
  -- and at its completion, of a durable write by its flush result: after all of the events
  pub completed : (i : ℕ) → i < whole_of q → QuietAt (submitted_in x h e) es t (offset_then x h q i) → Stands x h e q card es i

unfoldable pub Kept : Type 0
Kept =
    (x : Start) (h : List Event) (e : Event) (t : ℕ) (q : Request) → Accepted x h e t q (calls (Call.Write q)) → (card : Card) (es : List Event)
    → Followed (submitted_in x h e) es t
    → (c : Completion) (bytes : List ℕ) (more : List Completed) → gets_in x h e t q es ≡ (c, bytes) ∷ more → is_kept c.outcome ≡ true
    → KeptStands x h e t q card es
