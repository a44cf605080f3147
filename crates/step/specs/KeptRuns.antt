-- What Kept.antt says, of one write in small runs, found by running `step` and not by the theorem: each clause stands here by itself, so that a
-- step that counts a lost piece as kept is refused at the clause. The opening and the pool are those of Orders.antt. The write of 512 to 1,536 from
-- buffer 0, under the queue tag 0, has two pieces: bytes 0 to 512, all 5, go to 1,536, and bytes 512 to 1,024, all 6, to 8,192. Proved in
-- proofs/KeptRuns.antt (kept-runs).
use Rattle.std.specs.Prelude.{◌≡◌, Bool, true, false, List, [], ◌∷◌, ℕ, length}
use Rattle.posix.specs.Posix.{Card}
use Rattle.platform.specs.declared.Answer.TheVariants as Answer
use Rattle.platform.specs.declared.Flushed.TheVariants as Flushed
use Rattle.model.specs.declared.{Request.Request, Call.Call}
use Rattle.model.specs.State.{State}
use Rattle.model.specs.Opening.{opens}
use Rattle.step.specs.Run.{Made.calls, Event, run, opened_by, after}
use Rattle.step.specs.Lists.{Completed}
use Rattle.step.specs.Demand2.{submitted_in, PiecesDone, gets_in, is_kept}
use Rattle.step.specs.Kept.{Stands}
use Rattle.step.specs.Figures.{figures_plan, asking, durably, answers}
use Rattle.step.specs.Orders.{opening, lengths, filled, in_turn, start}

-- of each completion, whether it counts the write as kept
unfoldable pub counted_kept : List Completed → List Bool
counted_kept [] = []
counted_kept (c ∷ cs) = is_kept c.0.outcome ∷ counted_kept cs

-- the request, and the same durable, behind a call that sets its region's forced mark
abbrev pub plain : Request
plain = asking 512 1024

abbrev pub lasting : Request
lasting = durably plain

abbrev pub forced : List Call
forced = Call.SetForced 0 true ∷ []

-- its answers: both pieces whole; one without the buffer; and both, then the flush result
abbrev pub both_whole : List Call
both_whole = answers 0 512 ∷ answers 0 512 ∷ []

abbrev pub lost_whole : Call
lost_whole = Call.Answer 0 (Answer.Count 512) false 0

abbrev pub then_flushed : List Call
then_flushed = answers 0 512 ∷ answers 0 512 ∷ Call.Flushed 0 (Flushed.Need 1) ∷ []

module _ (admitted : opens opening figures_plan lengths ≡ true) (whole : length filled ≡ lengths.pool) where
  -- the calls before the write, its submission, the table then, and the calls behind it
  abbrev pub before : List Call → List Event
  before cs = in_turn (opened_by (start admitted whole)) cs

  abbrev pub submits : List Call → Request → Event
  submits cs q = record { leaves = (after (start admitted whole) (before cs)).pool; lengths = lengths; made = calls (Call.Write q) }

  abbrev pub submitted_to : List Call → Request → State
  submitted_to cs q = submitted_in (start admitted whole) (before cs) (submits cs q)

  abbrev pub behind : List Call → Request → List Call → List Event
  behind cs q then = in_turn (submitted_to cs q) then

  -- whether its completions count it as kept, and whether its i-th byte stands
  abbrev pub counted : List Call → Request → List Call → List Bool
  counted cs q then = counted_kept (gets_in (start admitted whole) (before cs) (submits cs q) 0 q (behind cs q then))

  abbrev pub ByteStands : List Call → Request → List Call → Card → ℕ → Type 0
  ByteStands cs q then card i = Stands (start admitted whole) (before cs) (submits cs q) q card (behind cs q then) i

  -- the first byte of each of its pieces stands
  abbrev pub BothStand : List Call → Request → List Call → Type 0
  BothStand cs q then = (card : Card) → ByteStands cs q then card 0 × ByteStands cs q then card 512

pub record KeptRuns : Type 0 where
  pub admitted : opens opening figures_plan lengths ≡ true
  pub whole : length filled ≡ lengths.pool
  -- both pieces whole with the buffer back: it is counted as kept, and stands
  pub kept : counted admitted whole [] plain both_whole ≡ true ∷ []
  pub stands : BothStand admitted whole [] plain both_whole
  -- a piece answered short, the first or the last: it is not (an answer behind a completion is turned away)
  pub short_first : counted admitted whole [] plain (answers 0 100 ∷ answers 0 512 ∷ []) ≡ false ∷ []
  pub short_last : counted admitted whole [] plain (answers 0 512 ∷ answers 0 100 ∷ []) ≡ false ∷ []
  -- a piece answered whole without its buffer: it is not
  pub lost_first : counted admitted whole [] plain (lost_whole ∷ answers 0 512 ∷ []) ≡ false ∷ []
  pub lost_last : counted admitted whole [] plain (answers 0 512 ∷ lost_whole ∷ []) ≡ false ∷ []
  -- a piece that failed, or was refused behind another: it is not
  pub failed : counted admitted whole [] plain (answers 0 512 ∷ Call.Answer 0 (Answer.Error 5 false) true 0 ∷ []) ≡ false ∷ []
  pub refused : counted admitted whole [] plain (answers 0 512 ∷ Call.Answer 0 Answer.Refused true 0 ∷ []) ≡ false ∷ []
  -- durable, in a region with the forced mark: when its last piece was answered it has no completion, and stands; with its flush result it is
  -- counted as kept, and stands
  pub pieces_done : PiecesDone (run (submitted_to admitted whole forced lasting) (behind admitted whole forced lasting both_whole)) 0
  pub none_yet_lem : counted admitted whole forced lasting both_whole ≡ []
  pub answered : BothStand admitted whole forced lasting both_whole
  pub receipt : counted admitted whole forced lasting then_flushed ≡ true ∷ []
  pub completed : BothStand admitted whole forced lasting then_flushed
