-- What is said of a write counted as kept (crate step, specs/Kept.antt) is not empty; where it says nothing it can fail; it ends at the completion.
-- The opening and the pool are those of crate step's Orders.antt. The write of 512 to 1,536 from buffer 0 (`plain`), under the queue tag 0, is
-- submitted first. It has two pieces: bytes 0 to 512, all 5, go to 1,536, and bytes 512 to 1,024, all 6, to 8,192. Another write, under the queue
-- tag 1, has one piece, of 512 bytes from buffer 1, all 9.
-- Overlapped: when the first piece of `plain` was answered the other write is submitted, of 512 to 1,024; its piece, at 1,536, is answered before
-- the second piece of `plain`. So on the bytes of the first piece of `plain` a piece of another write was under way, and there `plain` does not
-- stand at its completion.
-- Afterwards: the other write is of 1,024 to 1,536, which lies at 8,192. It is submitted and answered while `plain` has its first piece under way,
-- at 1,536. So no piece of another write was under way on its bytes, and it stands at its completion. Then both pieces of `plain` are answered, and
-- the second one lands at 8,192, with bytes that were accepted earlier.
-- Proved in proofs/Overlapped.antt (overlapped, afterwards).
use Rattle.std.specs.Prelude.{◌≡◌, true, List, [], ◌∷◌, ◌++◌, ℕ, ◌+◌, ◌<◌, length, get_or, replicate}
use Rattle.regionmap.specs.Words.{position_of}
use Rattle.posix.specs.Posix.{Card}
use Rattle.completion.specs.declared.{WriteTicket.WriteTicket, Completion.Completion}
use Rattle.completion.specs.declared.Outcome.TheVariants as Outcome
use Rattle.std.specs.declared.option.Option.TheVariants.{Some as Back, None as Lost}
use Rattle.model.specs.declared.{Request.Request, Call.Call}
use Rattle.model.specs.Opening.{opens}
use Rattle.step.specs.Run.{Made.calls}
use Rattle.step.specs.Lists.{gets, card_after}
use Rattle.step.specs.Demand2.{Accepted, buffer_then, gets_in, Followed, is_kept}
use Rattle.step.specs.Kept.{QuietAt, offset_then}
use Rattle.step.specs.Figures.{figures_plan, asking, in_buffer, answers, ticket_there}
use Rattle.step.specs.KeptRuns.{counted_kept, plain, before, submits, submitted_to, behind, ByteStands}
use Rattle.step.specs.Orders.{opening, lengths, filled, start}

-- ---- a write q after the calls cs, under the queue tag t, and the calls behind it

module _ (admitted : opens opening figures_plan lengths ≡ true) (whole : length filled ≡ lengths.pool) where
  -- the card offset of its i-th byte, the card's byte there after the calls, and its own at acceptance
  abbrev pub offset_of : List Call → Request → ℕ → ℕ
  offset_of cs q i = offset_then (start admitted whole) (before admitted whole cs) q i

  abbrev pub card_byte : List Call → Request → List Call → Card → ℕ → ℕ
  card_byte cs q then card i = card_after (submitted_to admitted whole cs q) (behind admitted whole cs q then) card (offset_of cs q i)

  abbrev pub own_byte : List Call → Request → ℕ → ℕ
  own_byte cs q i = get_or (buffer_then (start admitted whole) (submits admitted whole cs q) q) i 0

  -- what Kept supposes, but for the quiet: it is accepted and open until it ends, and its completion counts it as kept
  pub record CountedAsKept (cs : List Call) (t : ℕ) (q : Request) (then : List Call) (c : Completion) (bytes : List ℕ) : Type 0 where
    pub accepted : Accepted (start admitted whole) (before admitted whole cs) (submits admitted whole cs q) t q (calls (Call.Write q))
    pub followed : Followed (submitted_to admitted whole cs q) (behind admitted whole cs q then) t
    pub gets : gets_in (start admitted whole) (before admitted whole cs) (submits admitted whole cs q) t q (behind admitted whole cs q then)
        ≡ (c, bytes) ∷ []
    pub is_kept_lem : is_kept c.outcome ≡ true

  -- its i-th byte is at the card offset y: no other piece was under way there, and so, by the theorem, it stands
  pub record Quiet (cs : List Call) (t : ℕ) (q : Request) (then : List Call) (i y : ℕ) : Type 0 where
    pub at : offset_of cs q i ≡ y
    pub quiet : QuietAt (submitted_to admitted whole cs q) (behind admitted whole cs q then) t (offset_of cs q i)
    pub stands : (card : Card) → ByteStands admitted whole cs q then card i

-- ---- a piece of another write meanwhile

abbrev pub written : Completion
written = record { tag = 70; outcome = Outcome.Written (ticket_there 1); buf = Back (record { buffer = 0; len = 1024 }) }

-- the write over the first piece, and the calls behind the submission of `plain`
abbrev pub over_first : Request
over_first = in_buffer 1 (asking 512 512)

abbrev pub meanwhile : List Call
meanwhile = answers 0 512 ∷ Call.Write over_first ∷ answers 1 512 ∷ answers 0 512 ∷ []

-- the bytes of the first piece, at 1,536: they stood when that piece was answered; at the completion the other write's bytes are there, and that
-- write too is counted as kept
pub record Covered (admitted : opens opening figures_plan lengths ≡ true) (whole : length filled ≡ lengths.pool) : Type 0 where
  pub at : (i : ℕ) → i < 512 → offset_of admitted whole [] plain i ≡ 1536 + i
  pub not_quiet : (i : ℕ) → i < 512
      → QuietAt (submitted_to admitted whole [] plain) (behind admitted whole [] plain meanwhile) 0 (offset_of admitted whole [] plain i) → ⊥
  pub first_answered : (card : Card) (i : ℕ) → i < 512 → ByteStands admitted whole [] plain (answers 0 512 ∷ []) card i
  pub its_own : (i : ℕ) → i < 512 → own_byte admitted whole [] plain i ≡ 5
  pub the_others : (card : Card) (i : ℕ) → i < 512 → card_byte admitted whole [] plain meanwhile card i ≡ 9
  pub stands_not : (card : Card) (i : ℕ) → i < 512 → ByteStands admitted whole [] plain meanwhile card i → ⊥
  pub other_kept : counted_kept (gets (submitted_to admitted whole [] plain) (behind admitted whole [] plain meanwhile) 1 1) ≡ true ∷ []

pub record Overlapped : Type 0 where
  pub admitted : opens opening figures_plan lengths ≡ true
  pub whole : length filled ≡ lengths.pool
  pub counted : CountedAsKept admitted whole [] 0 plain meanwhile written (replicate 512 5 ++ replicate 512 6)
  -- the bytes of the second piece
  pub quiet : (j : ℕ) → j < 512 → Quiet admitted whole [] 0 plain meanwhile (512 + j) (8192 + j)
  pub covered : Covered admitted whole

-- ---- a piece of an earlier write afterwards

-- the write over the second piece, and its completion
abbrev pub over_second : Request
over_second = in_buffer 1 (asking 1024 512)

abbrev pub ticket_second : WriteTicket
ticket_second = record { volume = 1; region = 7; generation = 3; start = position_of 1024; end = position_of 1536; need = 1; epoch = 0 }

abbrev pub written_second : Completion
written_second = record { tag = 70; outcome = Outcome.Written ticket_second; buf = Back (record { buffer = 1; len = 512 }) }

-- the call before it, the one that completes it, and the same with the two answers to `plain` behind it
abbrev pub earlier : List Call
earlier = Call.Write plain ∷ []

abbrev pub completing : List Call
completing = answers 1 512 ∷ []

abbrev pub later : List Call
later = answers 1 512 ∷ answers 0 512 ∷ answers 0 512 ∷ []

pub record Afterwards : Type 0 where
  pub admitted : opens opening figures_plan lengths ≡ true
  pub whole : length filled ≡ lengths.pool
  pub counted : CountedAsKept admitted whole earlier 1 over_second completing written_second (replicate 1024 9)
  -- all of its bytes: at its completion they stand
  pub quiet : (i : ℕ) → i < 512 → Quiet admitted whole earlier 1 over_second completing i (8192 + i)
  pub its_own : (i : ℕ) → i < 512 → own_byte admitted whole earlier over_second i ≡ 9
  -- after the last piece of `plain` the card has that write's bytes there, and that write too is counted as kept
  pub earlier_own : (i : ℕ) → i < 512 → own_byte admitted whole [] plain (512 + i) ≡ 6
  pub the_earlier : (card : Card) (i : ℕ) → i < 512 → card_byte admitted whole earlier over_second later card i ≡ 6
  pub stands_not : (card : Card) (i : ℕ) → i < 512 → ByteStands admitted whole earlier over_second later card i → ⊥
  pub earlier_kept : counted_kept (gets (submitted_to admitted whole earlier over_second) (behind admitted whole earlier over_second later) 0 0)
      ≡ true ∷ []
