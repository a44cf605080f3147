-- What the Rust does of a submission by the answer to its questions, and that this is what `step` does: of a yes it submits, and the queue takes the first
-- piece or refuses it; of a no it rejects, with the refusal's error.
use mathlib.Core.Path.{◌≡◌, refl}
use mathlib.Core.Bool.{Bool, true, false, ◌&&◌}
use mathlib.Core.List.{List, []}
use mathlib.Core.Option.{Option, some}
use Prim.Native.Nat.{ℕ, ◌+◌, ◌^◌, min}
use native.Mathlib.Omega.{arith}
use borrow.Author.Tests.{ltb-true, leb-true}
use lib.Dec.{leb, ltb}
use Rattle.layout.proofs.Tests.{not_both, and_left, and_right}
use Rattle.regionmap.specs.declared.Offset.{Offset}
use Rattle.regionmap.specs.Map.{place, map_run_left}
use Rattle.completion.specs.declared.Refusal.{Refusal}
use Rattle.completion.specs.declared.Reply.{Reply}
use Rattle.completion.specs.declared.Reply.TheVariants.{Piece as piece, No as turnedAway}
use Rattle.completion.specs.Numbers.{number}
use Rattle.model.specs.declared.Lengths.{Lengths}
use Rattle.model.specs.declared.Kind.{Kind}
use Rattle.model.specs.declared.Request.{Request}
use Rattle.std.specs.declared.result.Result.TheVariants.{Ok as Yes, Err as No}
use Rattle.model.specs.declared.Call.TheVariants.{Answer as Answers}
use Rattle.model.specs.State.{Region, State}
use Rattle.step.specs.Questions.{region_at, held_at, first_no, Asked}
use Rattle.step.specs.Rules.{first_of, range_of, op_of, error_of}
use Rattle.step.specs.Step.{begun, queue_tag, top_of, row_at, accepted, plan_of, verdict_of, submitted, step}
use Rattle.step.specs.Sound.{Sound}
use Rattle.step.specs.Run.{leave}
use Rattle.step.specs.Lists.{HostMay}
use Rattle.step.proofs.Answers.{Passed}
use Rattle.rusttable.specs.Table.{IoBuf, RawError, Error, Submitter, Req, Submitted, Submitted.Taken, Submitted.Refused, Issued}
use Rattle.rusttable.specs.Functions.{returned, submit, issued_with, rejected}
use Rattle.rusttable.specs.Domain.{compared}
use Rattle.rusttable.specs.AsStep.{buf_of, error_as, split_of, table_of, submitter_of, in_flight, refusal_of, refused_error, req_as, issued_as, Submits}
use Rattle.rusttable.proofs.Submitting.{settled_as, taken_is, refused_is}

-- an answer no
pub turned : (s : State) (q : Request) (k : Kind) (n : ℕ) (w : Bool) (buf : IoBuf) (f : Refusal) (e : Error) (rust : Submitter × Issued) → error_as f ≡ some e → rust ≡ rejected (submitter_of s n) buf e
    → Submits n w buf rust (settled_as s k q (No f))
unfolding rejected issued_as submitted verdict_of
turned s q k n w buf f e rust same r = rw r (record { state = refl; reply = rw same refl })

-- the reply to an answer no, and to an accepted submission
module _ (s : State) (q : Request) (k : Kind) where
  pub no_reply_of : (f : Refusal) → compared (settled_as s k q (No f)).1 ≡ true → compared (turnedAway f) ≡ true
  unfolding submitted verdict_of
  no_reply_of f h = h

pub is_piece : (z : Reply) (t : ℕ) (o : Offset) (c b : ℕ) → z ≡ piece t o c b → compared z ≡ true
unfolding compared
is_piece z t o c b e = rw e refl

-- ---- the questions that both a write and a read ask, all answered yes

module _ (s : State) (q : Request) where
  pub passed : ltb q.handle s.settings.regions ≡ true → (ltb q.buffer s.settings.buffers && leb q.length s.settings.capacity) ≡ true → held_at s q.buffer ≡ true
      → ltb (s.counts.live + s.counts.ready) s.settings.depth ≡ true → ltb s.counts.submissions s.settings.lifetime ≡ true → ltb 0 q.length ≡ true
      → (ltb (q.offset.0 + q.length) (2 ^ 64) && leb (q.offset.0 + q.length) (region_at s q.handle).map.data_length) ≡ true → Passed s q
  passed e₁ e₂ e₃ e₄ e₅ e₁₂ e₁₄ = record {
    region = ltb-true _ _ e₁;
    buffer = ltb-true _ _ (and_left (ltb q.buffer s.settings.buffers) _ e₂);
    fits = leb-true _ _ (and_right (ltb q.buffer s.settings.buffers) _ e₂);
    held = e₃;
    room = ltb-true _ _ e₄;
    left = ltb-true _ _ e₅;
    some = ltb-true _ _ e₁₂;
    whole = ltb-true _ _ (and_left (ltb (q.offset.0 + q.length) (2 ^ 64)) _ e₁₄);
    in_data_lem = leb-true _ _ (and_right (ltb (q.offset.0 + q.length) (2 ^ 64)) _ e₁₄);
  }

-- ---- the answer: of a kind, whether it writes, and the error that a first piece refused comes to

module _ (s : State) (q : Request) (n : ℕ) (k : Kind) (w : Bool) (error : Option RawError → Error) where
  abbrev region : Region
  region = region_at s q.handle

  abbrev pub req : Req
  req = req_as w (place region.map q.offset.0) (buf_of s q.buffer (min (map_run_left region.map q.offset.0) q.length))

  abbrev pub submits : Submitted → Submitter × Issued
  submits queue =
      issued_with error (submit (submitter_of s n) (table_of (accepted s (top_of s.free) k q)) (top_of s.free) (queue_tag (top_of s.free) (row_at s (top_of s.free)).generation) req (split_of (plan_of region) k (begun q.length)) queue)

  module _ (rust : Submitted → Submitter × Issued) where
    abbrev given : IoBuf
    given = buf_of s q.buffer q.length

    unfoldable pub Answered : Asked → Type 0
    Answered (Yes _) = Passed s q × ((queue : Submitted) → rust queue ≡ submits queue)
    Answered (No f) = compared (turnedAway f) ≡ true → (e : Error) × (error_as f ≡ some e) × ((queue : Submitted) → rust queue ≡ rejected (submitter_of s n) given e)

    pub answered_yes : Passed s q → ((queue : Submitted) → rust queue ≡ submits queue) → Answered (first_no [])
    unfolding Answered first_no
    answered_yes p issues = (p, issues)

    pub answered_no : (f : Refusal) (e : Error) → error_as f ≡ some e → ((queue : Submitted) → rust queue ≡ rejected (submitter_of s n) given e) → Answered (No f)
    unfolding Answered
    answered_no f e same refuses h = (e, same, refuses)

    pub answered_out : (f : Refusal) → ltb (number f) 11 ≡ false → Answered (No f)
    unfolding Answered compared
    answered_out f out h = absurd (not_both h out)

    module _ (i : Sound s) (starts : first_of k ≡ q.offset) where
      pub taken_by : (a : Asked) → Answered a → compared (settled_as s k q a).1 ≡ true → Submits n w given (rust Taken) (settled_as s k q a)
      unfolding Answered
      taken_by (Yes _) answer h = rw (answer.1 Taken) (taken_is s i q answer.0 k starts n w error)
      taken_by (No f) answer h = let x = answer (no_reply_of s q k f h) in turned s q k n w given f x.0 (rust Taken) x.1 (x.2 Taken)

      pub refused_by_lem : (Passed s q → (raw : Option RawError) → error raw ≡ refused_error (range_of (plan_of region) k) (op_of k) (error_of (refusal_of raw)))
          → (l : Lengths) (raw : Option RawError) (back : Bool) (m : ℕ) (a : Asked) → Answered a → Sound (settled_as s k q a).0
          → (t : ℕ) (o : Offset) (c b : ℕ) → (settled_as s k q a).1 ≡ piece t o c b → (pool : List ℕ) → HostMay (settled_as s k q a).0 pool
          → compared (step (leave (settled_as s k q a).0 pool) l (Answers t (refusal_of raw) back m)).1 ≡ true
          → Submits n w given (rust (Refused raw (returned back (in_flight (leave (settled_as s k q a).0 pool) t)))) (step (leave (settled_as s k q a).0 pool) l (Answers t (refusal_of raw) back m))
      unfolding Answered submitted verdict_of
      refused_by_lem same_error l raw back m (Yes _) answer sound t o c b e pool may h =
          let same : t ≡ queue_tag (top_of s.free) (row_at s (top_of s.free)).generation = cc in
          rw (same, answer.1) (refused_is s i q answer.0 k starts n w l sound pool may raw back m (rw same at h) error (same_error answer.0 raw))
      refused_by_lem same_error l raw back m (No f) answer sound t o c b e pool may h = let z : ◌≡◌ {A = ℕ} 0 1 = cc in absurd (omega arith)
