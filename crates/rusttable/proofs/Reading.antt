-- `Submitter::read_page` is `step`'s read, question by question: the position first, then the admission, then the range.
use mathlib.Core.Path.{◌≡◌, refl, ap, ◌∙◌}
use mathlib.Core.Bool.{Bool, true, false, not, ◌&&◌}
use mathlib.Core.List.{List}
use mathlib.Core.Option.{Option, none, some}
use Prim.Native.Nat.{ℕ, ◌+◌, ◌-◌, ◌%◌, ◌^◌, min}
use native.Mathlib.Omega.{arith}
use lib.Dec.{leb, ltb, eqb}
use Rattle.layout.specs.Pick.{pick}
use Rattle.layout.specs.Block.{on_block}
use Rattle.layout.proofs.Tests.{not_both}
use Rattle.regionmap.specs.declared.Offset.{Offset}
use Rattle.regionmap.specs.Words.{position_of}
use Rattle.completion.specs.declared.Refusal.{Refusal}
use Rattle.completion.specs.declared.Reply.TheVariants.{Piece as piece}
use Rattle.completion.specs.Numbers.{number}
use Rattle.model.specs.declared.Lengths.{Lengths}
use Rattle.model.specs.declared.Kind.{Kind}
use Rattle.model.specs.declared.Kind.TheVariants.{Read as Reads}
use Rattle.model.specs.declared.Gate.TheVariants.{Open, Recycled, Released}
use Rattle.model.specs.declared.Request.{Request}
use Rattle.std.specs.declared.result.Result.TheVariants.{Err as No}
use Rattle.model.specs.declared.Call.TheVariants.{ReadPage, Answer as Answers}
use Rattle.model.specs.State.{Region, State}
use Rattle.step.specs.Questions.{range_from, handle_names_region, buffer_in_pool, host_holds_buffer, room_in_table, lifetime_left, volume_and_region_match, generation_matches, length_above0, aligned, within_data, region_at, first_no, read_questions, Asked}
use Rattle.step.specs.Rules.{first_of, last_of, range_of, op_of, error_of}
use Rattle.step.specs.Step.{start_of, end_of, durable_as, plan_of, read_verdict, called, step}
use Rattle.step.specs.Sound.{Sound}
use Rattle.step.specs.Run.{leave}
use Rattle.step.specs.Lists.{HostMay}
use Rattle.step.proofs.Answers.{Passed}
use Rattle.step.proofs.Laws.{keeps}
use Rattle.rusttable.specs.Table.{Result.Ok, Result.Err, IoBuf, RawError, ErrorContext, Error, Error.NotWritten, Submitter, Req.ReadAt, Submitted, Submitted.Taken, Submitted.Refused, Issued}
use Rattle.rusttable.specs.Table.{NotWrittenCause.ForeignPosition, NotWrittenCause.StaleGeneration, NotWrittenCause.Empty, NotWrittenCause.Misaligned, NotWrittenCause.OutOfBounds}
use Rattle.rusttable.specs.Functions.{tried, ctx, ctx_range, not_written, enter, admit, FirstPiece, first_piece, returned, issue, issued_with, rejected, read_error, read, read_page}
use Rattle.rusttable.specs.Domain.{compared}
use Rattle.rusttable.specs.AsStep.{buf_of, context_of, context_as, error_as, store_of, submitter_of, in_flight, pos_of, refusal_of, refused_error, req_as, Submits}
use Rattle.rusttable.proofs.Asking.{by_ask, by_gate, not_or, zero_test}
use Rattle.rusttable.proofs.Issuing.{first_is, issue_is}
use Rattle.rusttable.proofs.Answering.{passed, is_piece, req, submits, Answered, answered_yes, answered_no, answered_out, taken_by, refused_by_lem}
use Rattle.rusttable.proofs.Writing.{admit_foreign, admit_full, admit_gate}
use Rattle.rusttable.proofs.Within.{called_step}

module _ (s : State) (i : Sound s) (q : Request) (n : ℕ) where
  abbrev region : Region
  region = region_at s q.handle

  abbrev given : IoBuf
  given = buf_of s q.buffer q.length

  abbrev y : Submitter
  y = submitter_of s n

  abbrev rust : Submitted → Submitter × Issued
  rust queue = read_page y q.handle (pos_of q) given q.tag queue

  abbrev matches : Bool
  matches = eqb q.volume s.settings.volume && eqb q.region region.id

  abbrev on_block_lem : Bool
  on_block_lem = on_block s.settings.block q.offset.0 && on_block s.settings.block q.length

  abbrev ends_within : Bool
  ends_within = ltb (q.offset.0 + q.length) (2 ^ 64) && leb (q.offset.0 + q.length) region.map.data_length

  -- the range, its end capped
  abbrev capped : ErrorContext
  capped = ctx_range region q.offset (position_of (min (q.offset.0 + q.length) (2 ^ 64 - 1)))

  abbrev first : FirstPiece
  first = first_piece region q.offset given

  abbrev issues : Submitted → Submitter × Issued
  issues queue =
      issued_with (read_error capped) (issue y (ReadAt first.offset first.buf) q.tag (Reads q.offset (end_of q)) q.handle false first.split queue)

  module _ (queue : Submitted) where
    page_is : (b₁ b₂ : Bool) → matches ≡ b₁ → eqb q.generation region.generation ≡ b₂ → rust queue
        ≡ pick (not b₁) (rejected y given (NotWritten ForeignPosition (ctx region))) (pick (not b₂) (rejected y given (NotWritten StaleGeneration (ctx region))) (read y q.handle q.offset given q.tag queue))
    unfolding read_page submitter_of store_of region_at pos_of not_written
    page_is b₁ b₂ e₁ e₂ = rw (not_or (eqb q.volume s.settings.volume) (eqb q.region region.id) b₁ e₁, e₂) refl

    no_admit : (e : Error) → admit y region given ≡ Err e → read y q.handle q.offset given q.tag queue ≡ rejected y given e
    unfolding read tried submitter_of store_of region_at
    no_admit e a = rw a refl

    read_is : admit y region given ≡ Ok tt → (b₃ b₄ b₅ : Bool) → ltb 0 q.length ≡ b₃ → on_block_lem ≡ b₄ → ends_within ≡ b₅ → read y q.handle q.offset given q.tag queue
        ≡ pick (not b₃) (rejected y given (NotWritten Empty capped)) (pick (not b₄) (rejected y given (NotWritten Misaligned capped)) (pick (not b₅) (rejected y given (NotWritten OutOfBounds capped)) (issues queue)))
    unfolding read tried submitter_of store_of region_at buf_of not_written on_block
    read_is a b₃ b₄ b₅ e₃ e₄ e₅ =
        rw (a, zero_test q.length b₃ e₃, not_or (eqb (q.offset.0 % s.settings.block) 0) (eqb (q.length % s.settings.block) 0) b₄ e₄, e₅) refl

  -- ---- question by question

  abbrev k : Kind
  k = Reads (start_of q) (end_of q)

  starts : first_of k ≡ q.offset
  unfolding first_of
  starts = refl

  issues_is : Passed s q → (queue : Submitted) → issues queue ≡ submits s q n k false (read_error capped) queue
  unfolding req_as durable_as
  issues_is p queue = rw (first_is s i q p k starts) (ap (issued_with (read_error capped)) (issue_is s i q p k starts n (req s q n k false (read_error capped)) queue))

  -- what the Rust does, by the questions' answer
  abbrev Says : Asked → Type 0
  Says = Answered s q n k false (read_error capped) rust

  says_no : (f : Refusal) (e : Error) → error_as f ≡ some e → ((queue : Submitted) → rust queue ≡ rejected y given e) → Says (No f)
  says_no = answered_no s q n k false (read_error capped) rust

  module _ (known : ltb q.handle s.settings.regions ≡ true) where
    pub chain : Says (first_no (read_questions s region q))
    unfolding read_questions handle_names_region buffer_in_pool host_holds_buffer room_in_table lifetime_left volume_and_region_match generation_matches length_above0 aligned within_data range_from number error_as context_as context_of ctx ctx_range enter not_written pick
    chain =
        by_ask _ _ _ Says
        (λ e₁. by_ask _ _ _ Says
        (λ e₁₀. by_ask _ _ _ Says
        (λ e₁₁. by_ask _ _ _ Says
        (λ e₂. by_ask _ _ _ Says
        (λ e₃. by_ask _ _ _ Says
        (λ e₄. by_ask _ _ _ Says
        (λ e₅. by_gate _ _ _ Says
        (λ e₆. let a = admit_gate s i q n e₂ e₄ Open e₆ in by_ask _ _ _ Says
        (λ e₁₂. by_ask _ _ _ Says
        (λ e₁₃. by_ask _ _ _ Says
        (λ e₁₄.
        let p = passed s q e₁ e₂ e₃ e₄ e₅ e₁₂ e₁₄ in
        answered_yes s q n k false (read_error capped) rust p (λ queue. page_is queue true true e₁₀ e₁₁ ∙ read_is queue a true true true e₁₂ e₁₃ e₁₄ ∙ issues_is p queue))
        (λ e₁₄. says_no _ _ refl (λ queue. page_is queue true true e₁₀ e₁₁ ∙ read_is queue a true true false e₁₂ e₁₃ e₁₄)))
        (λ e₁₃. says_no _ _ refl (λ queue. page_is queue true true e₁₀ e₁₁ ∙ read_is queue a true false _ e₁₂ e₁₃ refl)))
        (λ e₁₂. says_no _ _ refl (λ queue. page_is queue true true e₁₀ e₁₁ ∙ read_is queue a false _ _ e₁₂ refl refl)))
        (λ e₆. says_no _ _ refl (λ queue. page_is queue true true e₁₀ e₁₁ ∙ no_admit queue _ (admit_gate s i q n e₂ e₄ Recycled e₆)))
        (λ e₆. says_no _ _ refl (λ queue. page_is queue true true e₁₀ e₁₁ ∙ no_admit queue _ (admit_gate s i q n e₂ e₄ Released e₆))))
        (λ e₅. answered_out s q n k false (read_error capped) rust _ refl))
        (λ e₄. says_no _ _ refl (λ queue. page_is queue true true e₁₀ e₁₁ ∙ no_admit queue _ (admit_full s i q n e₂ e₄))))
        (λ e₃. answered_out s q n k false (read_error capped) rust _ refl))
        (λ e₂. says_no _ _ refl (λ queue. page_is queue true true e₁₀ e₁₁ ∙ no_admit queue _ (admit_foreign s i q n e₂))))
        (λ e₁₁. says_no _ _ refl (λ queue. page_is queue true false e₁₀ e₁₁)))
        (λ e₁₀. says_no _ _ refl (λ queue. page_is queue false _ e₁₀ refl)))
        (λ e₁. absurd (not_both known e₁))

    -- ---- the squares

    uncapped : Passed s q → min (q.offset.0 + q.length) (2 ^ 64 - 1) ≡ q.offset.0 + q.length
    uncapped p = let lt = p.whole in omega arith

    same_error : Passed s q → (raw : Option RawError) → read_error capped raw ≡ refused_error (range_of (plan_of region) k) (op_of k) (error_of (refusal_of raw))
    unfolding read_error refused_error range_of plan_of op_of error_of refusal_of context_of ctx_range not_written first_of last_of
    same_error p none = rw (uncapped p) refl
    same_error p (some e) = rw (uncapped p) refl

pub read_square : (s : State) (l : Lengths) (q : Request) (n : ℕ) → Sound s → ltb q.handle s.settings.regions ≡ true → compared (step s l (ReadPage q)).1 ≡ true
    → Submits n false (buf_of s q.buffer q.length) (read_page (submitter_of s n) q.handle (pos_of q) (buf_of s q.buffer q.length) q.tag Taken) (step s l (ReadPage q))
unfolding called read_verdict
read_square s l q n i known h =
    let e = called_step s l (ReadPage q) h in
    rw e (taken_by s q n _ false _ _ i (starts s i q n) _ (chain s i q n known) (rw e at h))

pub read_refused_square : (s : State) (l : Lengths) (q : Request) (n : ℕ) → Sound s → ltb q.handle s.settings.regions ≡ true
    → (t : ℕ) (o : Offset) (c b : ℕ) → (step s l (ReadPage q)).1 ≡ piece t o c b
    → (pool : List ℕ) → HostMay (step s l (ReadPage q)).0 pool → (raw : Option RawError) (back : Bool) (m : ℕ) → compared (step (leave (step s l (ReadPage q)).0 pool) l (Answers t (refusal_of raw) back m)).1 ≡ true
    → Submits n false (buf_of s q.buffer q.length) (read_page (submitter_of s n) q.handle (pos_of q) (buf_of s q.buffer q.length) q.tag (Refused raw (returned back (in_flight (leave (step s l (ReadPage q)).0 pool) t))))
    (step (leave (step s l (ReadPage q)).0 pool) l (Answers t (refusal_of raw) back m))
unfolding called read_verdict
read_refused_square s l q n i known t o c b issued pool may raw back m h =
    let e = called_step s l (ReadPage q) (is_piece (step s l (ReadPage q)).1 t o c b issued) in
    rw e (refused_by_lem s q n _ false _ _ i (starts s i q n) (same_error s i q n known) l raw back m _ (chain s i q n known) (rw e at (keeps s l (ReadPage q) i)) t o c b (rw e at issued) pool (rw e at may) (rw e at h))
