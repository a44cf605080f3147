-- `Submitter::write` is `step`'s write, question by question; a position is admitted, the store and the region may be written, and the range is checked in the
-- same order.
use mathlib.Core.Path.{◌≡◌, refl, ap, ◌∙◌}
use mathlib.Core.Bool.{Bool, true, false, not, ◌&&◌}
use mathlib.Core.List.{List}
use mathlib.Core.Option.{Option, none, some}
use Prim.Native.Nat.{ℕ, ◌+◌, ◌^◌}
use borrow.Author.Tests.{not-true, not-false}
use lib.Dec.{leb, ltb, eqb}
use lib.ListN.{length-map}
use Rattle.layout.specs.Pick.{pick}
use Rattle.layout.specs.Block.{on_block}
use Rattle.layout.proofs.Tests.{not_both}
use Rattle.regionmap.specs.declared.Position.{Position}
use Rattle.regionmap.specs.declared.Offset.{Offset}
use Rattle.domain.specs.declared.FirstCause.{FirstCause}
use Rattle.std.specs.declared.option.Option.TheVariants.{None, Some}
use Rattle.completion.specs.declared.Refusal.{Refusal}
use Rattle.completion.specs.declared.Reply.TheVariants.{Piece as piece}
use Rattle.completion.specs.Numbers.{number}
use Rattle.model.specs.declared.Lengths.{Lengths}
use Rattle.model.specs.declared.Kind.{Kind}
use Rattle.model.specs.declared.Kind.TheVariants.{Page}
use Rattle.model.specs.declared.Gate.{Gate}
use Rattle.model.specs.declared.Gate.TheVariants.{Open, Recycled, Released}
use Rattle.model.specs.declared.Request.{Request}
use Rattle.std.specs.declared.result.Result.TheVariants.{Err as No}
use Rattle.model.specs.declared.Call.TheVariants.{Write, Answer as Answers}
use Rattle.model.specs.State.{Region, State}
use Rattle.step.specs.Questions.{handle_names_region, buffer_in_pool, host_holds_buffer, room_in_table, lifetime_left, store_writable, region_writable, volume_and_region_match, generation_matches, length_above0, aligned, within_data, region_at, first_no, write_questions, Asked}
use Rattle.step.specs.Rules.{first_of, last_of, range_of, op_of, error_of}
use Rattle.step.specs.Step.{start_of, end_of, durable_as, plan_of, write_verdict, called, step}
use Rattle.step.specs.Sound.{Sound}
use Rattle.step.specs.Run.{leave}
use Rattle.step.specs.Lists.{HostMay}
use Rattle.step.proofs.Answers.{Passed}
use Rattle.step.proofs.Laws.{keeps}
use Rattle.rusttable.specs.Table.{Result, Result.Ok, Result.Err, IoBuf, RawError, Error, Error.NotWritten, Error.Poisoned, Submitter, Req.WriteAt, Submitted, Submitted.Taken, Submitted.Refused, Issued}
use Rattle.rusttable.specs.Table.{NotWrittenCause.ForeignPosition, NotWrittenCause.ForeignBuffer, NotWrittenCause.QueueFull, NotWrittenCause.StaleGeneration, NotWrittenCause.ReadOnly, NotWrittenCause.Empty, NotWrittenCause.Misaligned, NotWrittenCause.OutOfBounds}
use Rattle.rusttable.specs.Functions.{tried, ctx, ctx_range, no_context, not_written, refused, unpoisoned, ready, ready_for, enter, owns, full, admit, check, first_piece, returned, issue, issued_with, rejected, write}
use Rattle.rusttable.specs.Domain.{compared}
use Rattle.rusttable.specs.AsStep.{buf_of, context_of, context_as, error_as, completion_as, row_as, table_of, store_of, submitter_of, in_flight, pos_of, refusal_of, refused_error, req_as, Submits}
use Rattle.rusttable.proofs.Asking.{by_ask, by_gate, by_poison, not_or, zero_test, full_test}
use Rattle.rusttable.proofs.Issuing.{first_is, issue_is}
use Rattle.rusttable.proofs.Answering.{passed, is_piece, req, submits, Answered, answered_yes, answered_no, answered_out, taken_by, refused_by_lem}
use Rattle.rusttable.proofs.Within.{called_step}

-- ---- admission, of a write and of a read

module _ (s : State) (i : Sound s) (q : Request) (n : ℕ) where
  abbrev g : Region
  g = region_at s q.handle

  abbrev buf : IoBuf
  buf = buf_of s q.buffer q.length

  abbrev x : Submitter
  x = submitter_of s n

  abbrev in_pool_lem : Bool
  in_pool_lem = ltb q.buffer s.settings.buffers && leb q.length s.settings.capacity

  abbrev has_room : Bool
  has_room = ltb (s.counts.live + s.counts.ready) s.settings.depth

  full_is : (v : Bool) → has_room ≡ v → full (table_of s) ≡ not v
  unfolding full table_of
  full_is v e = rw (length-map s.rows (row_as s), i.rows, length-map s.ready (completion_as s), ← i.ready) (full_test (s.counts.live + s.counts.ready) s.settings.depth v e)

  pub admit_foreign : in_pool_lem ≡ false → admit x g buf ≡ Err (NotWritten ForeignBuffer (ctx g))
  unfolding admit owns submitter_of store_of buf_of pick not_written
  admit_foreign e = rw e refl

  pub admit_full : in_pool_lem ≡ true → has_room ≡ false → admit x g buf ≡ Err (NotWritten QueueFull (ctx g))
  unfolding admit owns submitter_of store_of buf_of pick not_written
  admit_full e r = rw (e, full_is false r) refl

  pub admit_gate : in_pool_lem ≡ true → has_room ≡ true → (z : Gate) → g.gate ≡ z → admit x g buf ≡ enter g z
  unfolding admit owns submitter_of store_of buf_of pick
  admit_gate e r z o = rw (e, full_is true r, o) refl

-- ---- a write

module _ (s : State) (i : Sound s) (q : Request) (n : ℕ) where
  abbrev region : Region
  region = region_at s q.handle

  abbrev given : IoBuf
  given = buf_of s q.buffer q.length

  abbrev y : Submitter
  y = submitter_of s n

  abbrev rust : Submitted → Submitter × Issued
  rust queue = write y q.handle (pos_of q) given q.durable q.tag queue

  -- whether the store and the region may be written
  ready_store : s.settings.read_only ≡ true → ready_for (store_of s n) region ≡ Err (NotWritten ReadOnly no_context)
  unfolding ready_for ready store_of tried pick not_written
  ready_store e = rw e refl

  ready_poisoned : s.settings.read_only ≡ false → (cause : FirstCause) → s.poison ≡ Some cause → ready_for (store_of s n) region ≡ Err (Poisoned cause)
  unfolding ready_for ready store_of tried pick unpoisoned
  ready_poisoned e cause p = rw (e, p) refl

  ready_region : s.settings.read_only ≡ false → s.poison ≡ None → (v : Bool) → region.read_only ≡ v → ready_for (store_of s n) region ≡ pick v (Err (NotWritten ReadOnly (ctx region))) (Ok tt)
  unfolding ready_for ready store_of tried pick unpoisoned not_written region_at ctx
  ready_region e p v r = rw (e, p, r) refl

  -- the checks
  abbrev matches : Bool
  matches = eqb q.volume s.settings.volume && eqb q.region region.id

  abbrev ends_within : Bool
  ends_within = ltb (q.offset.0 + q.length) (2 ^ 64) && leb (q.offset.0 + q.length) region.map.data_length

  check_is : (b₁ b₂ b₃ b₄ b₅ : Bool) → matches ≡ b₁ → eqb q.generation region.generation ≡ b₂ → ltb 0 q.length ≡ b₃ → on_block s.settings.block q.length ≡ b₄ → ends_within ≡ b₅
      → check (store_of s n) region (pos_of q) q.length
      ≡ pick (not b₁) (Err (NotWritten ForeignPosition (ctx region)))
      (pick (not b₂) (Err (NotWritten StaleGeneration (ctx region)))
      (pick (not b₃) (Err (NotWritten Empty (ctx region)))
      (pick (not b₄) (Err (NotWritten Misaligned (ctx region))) (pick b₅ (Ok (end_of q)) (Err (NotWritten OutOfBounds (ctx region)))))))
  unfolding check store_of pos_of not_written on_block
  check_is b₁ b₂ b₃ b₄ b₅ e₁ e₂ e₃ e₄ e₅ = rw (not_or (eqb q.volume s.settings.volume) (eqb q.region region.id) b₁ e₁, e₂, zero_test q.length b₃ e₃, e₄, e₅) refl

  -- what the write comes to
  module _ (queue : Submitted) where
    no_admit : (e : Error) → admit y region given ≡ Err e → rust queue ≡ rejected y given e
    unfolding write tried submitter_of store_of region_at
    no_admit e a = rw a refl

    no_ready : (e : Error) → admit y region given ≡ Ok tt → ready_for (store_of s n) region ≡ Err e → rust queue ≡ rejected y given e
    unfolding write tried submitter_of store_of region_at
    no_ready e a r = rw (a, r) refl

    no_check : (e : Error) → admit y region given ≡ Ok tt → ready_for (store_of s n) region ≡ Ok tt → check (store_of s n) region (pos_of q) q.length ≡ Err e → rust queue ≡ rejected y given e
    unfolding write tried submitter_of store_of region_at buf_of
    no_check e a r c = rw (a, r, c) refl

    issued : admit y region given ≡ Ok tt → ready_for (store_of s n) region ≡ Ok tt → check (store_of s n) region (pos_of q) q.length ≡ Ok (end_of q)
        → rust queue ≡ issued_with (λ raw. refused raw (ctx_range region q.offset (end_of q))) (issue y (WriteAt (first_piece region q.offset given).offset (first_piece region q.offset given).buf) q.tag (Page q.offset (end_of q)) q.handle q.durable (first_piece region q.offset given).split queue)
    unfolding write tried submitter_of store_of region_at buf_of pos_of
    issued a r c = rw (a, r, c) refl

  -- ---- question by question

  abbrev k : Kind
  k = Page (start_of q) (end_of q)

  abbrev error : Option RawError → Error
  error raw = refused raw (ctx_range region q.offset (end_of q))

  starts : first_of k ≡ q.offset
  unfolding first_of
  starts = refl

  accepts : Passed s q → admit y region given ≡ Ok tt → ready_for (store_of s n) region ≡ Ok tt → check (store_of s n) region (pos_of q) q.length ≡ Ok (end_of q) → (queue : Submitted) → rust queue ≡ submits s q n k true error queue
  unfolding req_as durable_as
  accepts p a r c queue =
      issued queue a r c ∙ rw (first_is s i q p k starts)
      (ap (issued_with error) (issue_is s i q p k starts n (req s q n k true error) queue))

  -- what the Rust does, by the questions' answer
  abbrev Says : Asked → Type 0
  Says = Answered s q n k true error rust

  says_no : (f : Refusal) (e : Error) → error_as f ≡ some e → ((queue : Submitted) → rust queue ≡ rejected y given e) → Says (No f)
  says_no = answered_no s q n k true error rust

  module _ (known : ltb q.handle s.settings.regions ≡ true) (on : on_block s.settings.block q.offset.0 ≡ true) where
    -- the last five questions
    module _ (a : admit y region given ≡ Ok tt) (r : ready_for (store_of s n) region ≡ Ok tt) where
      abbrev checked : Result Position Error
      checked = check (store_of s n) region (pos_of q) q.length

      refuses : (e : Error) → checked ≡ Err e → (queue : Submitted) → rust queue ≡ rejected y given e
      refuses e c queue = no_check queue e a r c

    pub chain : Says (first_no (write_questions s region q))
    unfolding write_questions handle_names_region buffer_in_pool host_holds_buffer room_in_table lifetime_left store_writable region_writable volume_and_region_match generation_matches length_above0 aligned within_data number error_as context_as ctx no_context enter not_written pick
    chain = rw on
        (by_ask _ _ _ Says
        (λ e₁. by_ask _ _ _ Says
        (λ e₂. by_ask _ _ _ Says
        (λ e₃. by_ask _ _ _ Says
        (λ e₄. by_ask _ _ _ Says
        (λ e₅. by_gate _ _ _ Says
        (λ e₆. let a = admit_gate s i q n e₂ e₄ Open e₆ in by_ask _ _ _ Says
        (λ e₇. by_poison _ _ Says
        (λ e₈. by_ask _ _ _ Says
        (λ e₉. let r = ready_region (not-true _ e₇) e₈ false (not-true _ e₉) in by_ask _ _ _ Says
        (λ e₁₀. by_ask _ _ _ Says
        (λ e₁₁. by_ask _ _ _ Says
        (λ e₁₂. by_ask _ _ _ Says
        (λ e₁₃. by_ask _ _ _ Says
        (λ e₁₄.
        let p = passed s q e₁ e₂ e₃ e₄ e₅ e₁₂ e₁₄ in
        answered_yes s q n k true error rust p (accepts p a r (check_is true true true true true e₁₀ e₁₁ e₁₂ e₁₃ e₁₄)))
        (λ e₁₄. says_no _ _ refl (refuses a r _ (check_is true true true true false e₁₀ e₁₁ e₁₂ e₁₃ e₁₄))))
        (λ e₁₃. says_no _ _ refl (refuses a r _ (check_is true true true false _ e₁₀ e₁₁ e₁₂ e₁₃ refl))))
        (λ e₁₂. says_no _ _ refl (refuses a r _ (check_is true true false _ _ e₁₀ e₁₁ e₁₂ refl refl))))
        (λ e₁₁. says_no _ _ refl (refuses a r _ (check_is true false _ _ _ e₁₀ e₁₁ refl refl refl))))
        (λ e₁₀. says_no _ _ refl (refuses a r _ (check_is false _ _ _ _ e₁₀ refl refl refl refl))))
        (λ e₉. says_no _ _ refl (λ queue. no_ready queue _ a (ready_region (not-true _ e₇) e₈ true (not-false _ e₉)))))
        (λ cause e₈. says_no _ _ refl (λ queue. no_ready queue (Poisoned cause) a (ready_poisoned (not-true _ e₇) cause e₈))))
        (λ e₇. says_no _ _ refl (λ queue. no_ready queue (NotWritten ReadOnly no_context) a (ready_store (not-false _ e₇)))))
        (λ e₆. says_no _ _ refl (λ queue. no_admit queue _ (admit_gate s i q n e₂ e₄ Recycled e₆)))
        (λ e₆. says_no _ _ refl (λ queue. no_admit queue _ (admit_gate s i q n e₂ e₄ Released e₆))))
        (λ e₅. answered_out s q n k true error rust _ refl))
        (λ e₄. says_no _ _ refl (λ queue. no_admit queue _ (admit_full s i q n e₂ e₄))))
        (λ e₃. answered_out s q n k true error rust _ refl))
        (λ e₂. says_no _ _ refl (λ queue. no_admit queue _ (admit_foreign s i q n e₂))))
        (λ e₁. absurd (not_both known e₁)))

    -- ---- the squares

    same_error : (raw : Option RawError) → error raw ≡ refused_error (range_of (plan_of region) k) (op_of k) (error_of (refusal_of raw))
    unfolding refused refused_error range_of plan_of op_of error_of refusal_of context_of ctx_range not_written first_of last_of
    same_error none = refl
    same_error (some e) = refl

pub write_square : (s : State) (l : Lengths) (q : Request) (n : ℕ) → Sound s → ltb q.handle s.settings.regions ≡ true → on_block s.settings.block q.offset.0 ≡ true → compared (step s l (Write q)).1 ≡ true
    → Submits n true (buf_of s q.buffer q.length) (write (submitter_of s n) q.handle (pos_of q) (buf_of s q.buffer q.length) q.durable q.tag Taken) (step s l (Write q))
unfolding called write_verdict
write_square s l q n i known on h =
    let e = called_step s l (Write q) h in
    rw e (taken_by s q n _ true _ _ i (starts s i q n) _ (chain s i q n known on) (rw e at h))

pub write_refused_square : (s : State) (l : Lengths) (q : Request) (n : ℕ) → Sound s → ltb q.handle s.settings.regions ≡ true → on_block s.settings.block q.offset.0 ≡ true
    → (t : ℕ) (o : Offset) (c b : ℕ) → (step s l (Write q)).1 ≡ piece t o c b
    → (pool : List ℕ) → HostMay (step s l (Write q)).0 pool → (raw : Option RawError) (back : Bool) (m : ℕ) → compared (step (leave (step s l (Write q)).0 pool) l (Answers t (refusal_of raw) back m)).1 ≡ true
    → Submits n true (buf_of s q.buffer q.length) (write (submitter_of s n) q.handle (pos_of q) (buf_of s q.buffer q.length) q.durable q.tag (Refused raw (returned back (in_flight (leave (step s l (Write q)).0 pool) t))))
    (step (leave (step s l (Write q)).0 pool) l (Answers t (refusal_of raw) back m))
unfolding called write_verdict
write_refused_square s l q n i known on t o c b issued pool may raw back m h =
    let e = called_step s l (Write q) (is_piece (step s l (Write q)).1 t o c b issued) in
    rw e (refused_by_lem s q n _ true _ _ i (starts s i q n) (λ p. same_error s i q n known on) l raw back m _ (chain s i q n known on) (rw e at (keeps s l (Write q) i)) t o c b (rw e at issued) pool (rw e at may) (rw e at h))
