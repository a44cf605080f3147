-- What turns a call away, and what the reply to one that is not asks for: of every state, by the paper's questions in their order. A submission's are
-- write_questions and read_questions; an answer's and a flush result's stand here. Proved in proofs/Asked.antt (asked-laws).
use Rattle.std.specs.Prelude.{◌≡◌, Bool, true, false, not, List, [], ◌∷◌, ℕ, ltb}
use Rattle.std.proofs.Math.Option.{Option, none, some}
use Rattle.domain.specs.declared.FirstCause.{FirstCause}
use Rattle.platform.specs.declared.{Answer.Answer, Flushed.Flushed}
use Rattle.completion.specs.declared.Context.TheVariants as Context
use Rattle.completion.specs.declared.{Refusal.Refusal, Reply.Reply}
use Rattle.model.specs.declared.{Lengths.Lengths, Kind.Kind, Awaits.Awaits, Request.Request, Call.Call}
use Rattle.std.specs.declared.result.Result.{Result}
use Rattle.model.specs.State.{State}
use Rattle.model.specs.Opening.{Plan}
use Rattle.step.specs.Questions.{ask, region_at, first_no, write_questions, read_questions, whole_of, Asked}
use Rattle.step.specs.Rules.{piece_length, above_piece}
use Rattle.step.specs.Step.{start_of, end_of, begun, queue_tag, top_of, row_at, accepted, row_of, names, plan_of, asks_for, step, eq_lengths}
use Rattle.step.specs.Laws.{one, SaysEach}
use Rattle.step.specs.Lists.{view_of}

-- what is asked of an answer: "Does the tag name a live row with its generation? No: 14. Does the row await a piece ..? No: 15. Is the count at most
-- the piece? No: 16."
unfoldable pub awaits_piece : Awaits → Bool
awaits_piece Awaits.Nothing = false
awaits_piece (Awaits.Piece k s) = true
awaits_piece (Awaits.Flush t) = false

unfoldable pub at_most_piece : Plan → Awaits → Answer → Bool
at_most_piece g Awaits.Nothing a = true
at_most_piece g (Awaits.Piece k s) a = not (above_piece (piece_length g k s) a)
at_most_piece g (Awaits.Flush t) a = true

unfoldable pub answer_questions : State → ℕ → Answer → List Asked
answer_questions s t a =
    let r = row_at s (row_of t) in
    ask (names r t) Refusal.UnknownTag
    ∷ ask (awaits_piece r.awaits) Refusal.NotAwaited
    ∷ ask (at_most_piece (plan_of (region_at s r.handle)) r.awaits a) Refusal.AbovePiece
    ∷ []

-- .. of a flush result: "(for a flush result: a flush)"
unfoldable pub awaits_flush : Awaits → Bool
awaits_flush Awaits.Nothing = false
awaits_flush (Awaits.Piece k s) = false
awaits_flush (Awaits.Flush t) = true

unfoldable pub flush_questions : State → ℕ → List Asked
flush_questions s t = let r = row_at s (row_of t) in ask (names r t) Refusal.UnknownTag ∷ ask (awaits_flush r.awaits) Refusal.NotAwaited ∷ []

-- the region whose mark a call sets: "set a region's gate, read-only or forced mark (unknown handle: 1)"
unfoldable pub sets_mark : Call → Option ℕ
sets_mark (Call.Write q) = none
sets_mark (Call.ReadPage q) = none
sets_mark (Call.Answer t a back flushes) = none
sets_mark (Call.Flushed t result) = none
sets_mark Call.Take = none
sets_mark (Call.SetGate h x) = some h
sets_mark (Call.SetReadOnly h x) = some h
sets_mark (Call.SetForced h x) = some h
sets_mark (Call.ReportPoison cause) = none

-- the reply to an accepted submission: "Queue tag = row + generation × 2^32." "The reply is the first piece"
unfoldable pub first_reply : State → Kind → Request → Reply
first_reply s k q =
    asks_for (plan_of (region_at s q.handle)) (queue_tag (top_of s.free) (row_at s (top_of s.free)).generation) q.buffer
    (Awaits.Piece k (begun (whole_of q)))

abbrev pub answer_of : Option Refusal → Asked
answer_of none = Result.Ok tt
answer_of (some f) = Result.Err f

-- whether a reply turns away, and by which refusal
unfoldable pub asked_by : Reply → Asked
asked_by r = answer_of (view_of r).refusal

pub record AskedLaws : Type 0 where
  -- a submission is turned away exactly by the first question that fails, whatever the table; where none fails the row on top of the free stack is
  -- taken, and the reply is the first piece of its range
  pub write_asked : (s : State) (l : Lengths) (q : Request) → eq_lengths l s.lengths ≡ true
      → asked_by (step s l (Call.Write q)).1 ≡ first_no (write_questions s (region_at s q.handle) q)
  pub read_asked : (s : State) (l : Lengths) (q : Request) → eq_lengths l s.lengths ≡ true
      → asked_by (step s l (Call.ReadPage q)).1 ≡ first_no (read_questions s (region_at s q.handle) q)
  pub write_accepted : (s : State) (l : Lengths) (q : Request) → eq_lengths l s.lengths ≡ true
      → first_no (write_questions s (region_at s q.handle) q) ≡ Result.Ok tt
      → step s l (Call.Write q) ≡ (accepted s (top_of s.free) (Kind.Page (start_of q) (end_of q)) q, first_reply s (Kind.Page (start_of q) (end_of q)) q)
  pub read_accepted : (s : State) (l : Lengths) (q : Request) → eq_lengths l s.lengths ≡ true
      → first_no (read_questions s (region_at s q.handle) q) ≡ Result.Ok tt
      → step s l (Call.ReadPage q)
      ≡ (accepted s (top_of s.free) (Kind.Read (start_of q) (end_of q)) q, first_reply s (Kind.Read (start_of q) (end_of q)) q)
  -- a setting is turned away exactly where the handle names no region; a taking and a report never are
  pub set_asked : (s : State) (l : Lengths) (c : Call) (h : ℕ) → sets_mark c ≡ some h → eq_lengths l s.lengths ≡ true
      → asked_by (step s l c).1 ≡ ask (ltb h s.settings.regions) (Refusal.ForeignPosition Context.None)
  pub take_asked : (s : State) (l : Lengths) → eq_lengths l s.lengths ≡ true → asked_by (step s l Call.Take).1 ≡ Result.Ok tt
  pub report_asked : (s : State) (l : Lengths) (cause : FirstCause) → eq_lengths l s.lengths ≡ true
      → asked_by (step s l (Call.ReportPoison cause)).1 ≡ Result.Ok tt
  -- an answer and a flush result are turned away exactly by the first question that fails, whatever the table
  pub answer_asked_lem : (s : State) (l : Lengths) (t : ℕ) (a : Answer) (back : Bool) (flushes : ℕ) → eq_lengths l s.lengths ≡ true
      → asked_by (step s l (Call.Answer t a back flushes)).1 ≡ first_no (answer_questions s t a)
  pub flush_asked : (s : State) (l : Lengths) (t : ℕ) (result : Flushed) → eq_lengths l s.lengths ≡ true
      → asked_by (step s l (Call.Flushed t result)).1 ≡ first_no (flush_questions s t)
  -- the piece or the flush that the reply to an answer asks for is the one that the row under its tag then awaits; a flush result is done
  pub answer_asks : (s : State) (l : Lengths) (t : ℕ) (a : Answer) (back : Bool) (flushes : ℕ)
      → let s' = (step s l (Call.Answer t a back flushes)).0 in
      let r = row_at s' (row_of t) in
      asked_by (step s l (Call.Answer t a back flushes)).1 ≡ Result.Ok tt → names r t ≡ true → (step s l (Call.Answer t a back flushes)).1
      ≡ asks_for (plan_of (region_at s' r.handle)) t r.buffer r.awaits
  pub flush_done_lem : (s : State) (l : Lengths) (t : ℕ) (result : Flushed) → asked_by (step s l (Call.Flushed t result)).1 ≡ Result.Ok tt
      → (step s l (Call.Flushed t result)).1 ≡ Reply.Done t
  pub answer_numbers : (s : State) (t : ℕ) (a : Answer) → SaysEach (one 14 ∷ one 15 ∷ one 16 ∷ []) (answer_questions s t a)
  pub flush_numbers : (s : State) (t : ℕ) → SaysEach (one 14 ∷ one 15 ∷ []) (flush_questions s t)
