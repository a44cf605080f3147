-- What an issued submission comes to: taken by the queue it is `step`'s accepted one, and refused by it at once it is `step`'s accepted one and then its refused
-- first piece.
use mathlib.Core.Path.{◌≡◌, refl, ap, sym, ◌∙◌}
use mathlib.Core.Bool.{Bool, true}
use mathlib.Core.List.{List, []}
use mathlib.Core.Option
use mathlib.Core.Option.{Option, none, some}
use Prim.Native.Nat.{ℕ, min}
use native.Mathlib.Nat.{add-zero, sub-zero}
use Rattle.regionmap.specs.Map.{map_run_left, place, piece_size}
use Rattle.completion.specs.declared.Reply.{Reply}
use Rattle.model.specs.declared.Lengths.{Lengths}
use Rattle.model.specs.declared.Kind.{Kind}
use Rattle.model.specs.declared.Split.{Split}
use Rattle.model.specs.declared.Awaits.TheVariants.{Piece as AwaitsPiece}
use Rattle.model.specs.declared.Row.{Row}
use Rattle.model.specs.declared.Request.{Request}
use Rattle.std.specs.declared.result.Result.TheVariants.{Ok as Yes}
use Rattle.model.specs.declared.Call.TheVariants.{Answer as Answers}
use Rattle.model.specs.State.{Region, Owner.host, State}
use Rattle.step.specs.Questions.{region_at, Asked}
use Rattle.step.specs.Rules.{op_of, first_of, range_of, piece_of, piece_length, error_of, buffer_as, Input.answered as fedAnswer}
use Rattle.step.specs.Step.{kept_by, poison_with, freeing, begun, queue_tag, top_of, row_at, row_of, claimed_by, accepted, bytes_at, plan_of, verdict_of, submitted, settled, fate_of, called, step}
use Rattle.step.specs.Sound.{Sound}
use Rattle.step.specs.Run.{leave}
use Rattle.step.specs.Lists.{HostMay}
use Rattle.step.proofs.Answers.{Passed}
use Rattle.step.proofs.Histories.{leaves}
use Rattle.rusttable.specs.Table.{IoBuf, RawError, Error, Req, Submitted.Taken, Submitted.Refused, Issued.Reject}
use Rattle.rusttable.specs.Functions.{index_in, with_table, returned, whole, abort, submit, told_as, issued_with}
use Rattle.rusttable.specs.Domain.{compared}
use Rattle.rusttable.specs.AsStep.{buf_of, back_of, split_of, table_of, store_of, submitter_of, in_flight, refusal_of, refused_error, req_as, issued_as, Submits}
use Rattle.rusttable.proofs.Pieces.{flies}
use Rattle.rusttable.proofs.Issuing.{row_index, claimed_row}
use Rattle.rusttable.proofs.Aborting.{aborted, whole_back, rejects_with}
use Rattle.rusttable.proofs.Within.{called_step, Found, found_under}
use Rattle.rusttable.proofs.Leaving.{left_table}

-- what becomes of a submission whose questions are answered
abbrev pub settled_as : State → Kind → Request → Asked → State × Reply
settled_as s k q a = submitted s q (verdict_of a s k q)

module _ (s : State) (i : Sound s) (q : Request) (p : Passed s q) (k : Kind) (starts : first_of k ≡ q.offset) (n : ℕ) (w : Bool) where
  abbrev g : Region
  g = region_at s q.handle

  abbrev buf : IoBuf
  buf = buf_of s q.buffer q.length

  abbrev count : ℕ
  count = min (map_run_left g.map q.offset.0) q.length

  abbrev split : Option Split
  split = split_of (plan_of g) k (begun q.length)

  abbrev top : ℕ
  top = top_of s.free

  abbrev after : State
  after = accepted s top k q

  abbrev tag : ℕ
  tag = queue_tag top (row_at s top).generation

  abbrev req : Req
  req = req_as w (place g.map q.offset.0) (buf_of s q.buffer count)

  -- the queue takes it
  pub taken_is : (error : Option RawError → Error) → Submits n w buf (issued_with error (submit (submitter_of s n) (table_of after) top tag req split Taken)) (settled_as s k q (Yes tt))
  unfolding issued_with told_as submit with_table submitter_of store_of accepted submitted verdict_of issued_as buf_of bytes_at piece_of piece_size
  taken_is error = record { state = refl; reply = rw (add-zero, sub-zero) refl }

  -- the queue refuses it at once, after the host wrote as it may
  module _ (l : Lengths) (sound : Sound after) (pool : List ℕ) (may : HostMay after pool) (raw : Option RawError) (back : Bool) (m : ℕ)
      (h : compared (step (leave after pool) l (Answers tag (refusal_of raw) back m)).1 ≡ true) where
    abbrev at : State
    at = leave after pool

    at_sound : Sound at
    at_sound = leaves after pool sound may.count

    index : index_in tag ≡ top
    unfolding index_in row_of
    index = row_index s i q p k starts

    abbrev row : Row
    row = row_at at (row_of tag)

    row_is : row ≡ claimed_by (row_at s top).generation s.counts.submissions k q
    unfolding row_at leave
    row_is = claimed_row s i q p k starts

    row_awaits : row.awaits ≡ AwaitsPiece k (begun q.length)
    unfolding claimed_by
    row_awaits = ap (λ (x : Row). x.awaits) row_is

    row_handle : row.handle ≡ q.handle
    unfolding claimed_by
    row_handle = ap (λ (x : Row). x.handle) row_is

    its_call : step at l (Answers tag (refusal_of raw) back m) ≡ called at (Answers tag (refusal_of raw) back m)
    its_call = called_step at l (Answers tag (refusal_of raw) back m) h

    its_row : Found at tag (fedAnswer (refusal_of raw) back m) (called at (Answers tag (refusal_of raw) back m))
    unfolding called
    its_row = found_under at tag (fedAnswer (refusal_of raw) back m) (rw its_call at h)

    abbrev left : State
    left = freeing at (row_of tag) row row.generation [] (kept_by host (buffer_as back row.buffer q.length)) (bytes_at at row.buffer) none

    its_step : step at l (Answers tag (refusal_of raw) back m) ≡ settled at tag row (fate_of at row (fedAnswer (refusal_of raw) back m))
    its_step = its_call ∙ its_row.settles

    -- the table holds nothing of what the host wrote
    state_is : with_table (submitter_of s n) (abort (table_of after) top) ≡ submitter_of left n
    unfolding with_table submitter_of store_of accepted leave freeing poison_with
    state_is =
        ap (with_table (submitter_of s n))
        ((λ j. abort (sym (left_table after sound pool may) j) (sym index j)) ∙ aborted at at_sound m tag its_row.names_row k (begun q.length) row_awaits refl raw back)

    -- the buffer that the queue gives back, at its whole length
    in_flight_lem : in_flight at tag ≡ buf_of at row.buffer (piece_length (plan_of (region_at at row.handle)) k (begun q.length))
    in_flight_lem = flies at tag row refl k (begun q.length) row_awaits

    split_is : split ≡ split_of (plan_of (region_at at row.handle)) k (begun q.length)
    unfolding accepted leave region_at
    split_is = ap (λ (h' : ℕ). split_of (plan_of (region_at at h')) k (begun q.length)) (sym row_handle)

    buffer_is : Option.map (whole split) (returned back (in_flight at tag)) ≡ back_of left (buffer_as back row.buffer q.length)
    buffer_is =
        (λ j. Option.map (whole (split_is j)) (returned back (in_flight_lem j))) ∙ whole_back at at_sound m tag its_row.names_row k (begun q.length) row_awaits refl raw back back

    error_is : refused_error (range_of (plan_of g) k) (op_of k) (error_of (refusal_of raw)) ≡ refused_error (range_of (plan_of (region_at at row.handle)) k) (op_of k) (error_of (refusal_of raw))
    unfolding accepted leave region_at
    error_is = ap (λ (h' : ℕ). refused_error (range_of (plan_of (region_at at h')) k) (op_of k) (error_of (refusal_of raw))) (sym row_handle)

    pub refused_is : (error : Option RawError → Error) → error raw ≡ refused_error (range_of (plan_of g) k) (op_of k) (error_of (refusal_of raw))
        → Submits n w buf (issued_with error (submit (submitter_of s n) (table_of after) top tag req split (Refused raw (returned back (in_flight at tag))))) (step at l (Answers tag (refusal_of raw) back m))
    unfolding issued_with told_as submit issued_as
    refused_is error same =
        rw (its_step, rejects_with at at_sound m tag its_row.names_row k (begun q.length) row_awaits refl raw back)
        (record { state = state_is; reply = λ j. some (Reject (record { error = (same ∙ error_is) j; buf = buffer_is j })) })
