-- `Table::conclude` is the rules' end of a piece after which none is issued: the same outcome, the same poison, the row released with it or kept for its flush.
use mathlib.Core.Path.{◌≡◌, refl, sym, ◌∙◌}
use mathlib.Core.Bool.{Bool, true, false, ◌&&◌, ◌||◌}
use mathlib.Core.List.{List}
use mathlib.Core.Option.{Option, none, some}
use Prim.Native.Nat.{ℕ, ◌+◌, ◌-◌, ◌≤◌, ◌<◌}
use native.Mathlib.Omega.{arith}
use borrow.Author.Tests.{le-leb, ne_eqb}
use lib.Dec.{eqb}
use lib.ListN.{length}
use Rattle.layout.specs.Pick.{pick}
use Rattle.layout.proofs.Tests.{not_both}
use Rattle.regionmap.specs.declared.Position.{Position}
use Rattle.iobuf.specs.Turn.{turned}
use Rattle.iobuf.proofs.Laws.{turn_laws}
use Rattle.domain.specs.declared.Op.TheVariants.{Write as writeOp}
use Rattle.std.specs.declared.option.Option.{Option as StdOption}
use Rattle.std.specs.declared.option.Option.TheVariants.{None, Some}
use Rattle.domain.specs.declared.FirstCause.{FirstCause}
use Rattle.platform.specs.declared.Answer.{Answer}
use Rattle.platform.specs.declared.Answer.TheVariants.{Count, Error as Failed, Refused, RefusedWith}
use Rattle.completion.specs.declared.WriteTicket.{WriteTicket}
use Rattle.completion.specs.declared.Outcome.TheVariants.{Written as endsWritten, Unknown as endsUnknown}
use Rattle.completion.specs.Buffers.{Buffer}
use Rattle.std.specs.declared.option.Option.TheVariants.{Some as Back, None as Lost}
use Rattle.model.specs.declared.Kind.{Kind}
use Rattle.model.specs.declared.Kind.TheVariants.{Page, Read as Reads}
use Rattle.model.specs.declared.Split.{Split}
use Rattle.model.specs.declared.Awaits.{Awaits}
use Rattle.model.specs.declared.Awaits.TheVariants.{Nothing, Piece, Flush as AwaitsFlush}
use Rattle.model.specs.declared.Row.{Row}
use Rattle.model.specs.State.{Region, State}
use Rattle.step.specs.Questions.{region_at}
use Rattle.step.specs.Rules.{left_of, first_of, last_of, range_of, Fate, Fate.away, Fate.awaits, Fate.ends, Fate.rejected, buffer_as, error_of, turned_back, is_written, cause_of, failed_read, read_outcome, read_length, ticket_of, unflushed, written_as, last_piece}
use Rattle.step.specs.Step.{poison_with, plan_of}
use Rattle.step.proofs.Picked.{by_pick}
use Rattle.rusttable.specs.Table.{Result, Result.Ok, Result.Err, IoBuf, RawResult, Error, Outcome, Live, Table, Finish, Store, Submitter, Done.Wrote, Done.Read, Finish.Finished, Finish.Flush}
use Rattle.rusttable.specs.Table.{Row as RustRow}
use Rattle.rusttable.specs.Functions.{given, map_ok, set_len, ctx_range, not_written, poison, unknown, domain_ticket, ticket, settle_write, settle_read, durable_receipt, put, with_held, with_table, with_store, release, region, is_full, err_in, settle_kind, settle, done_write, written, receipted, read_len, shortened, hand_back, flushes, concluded, conclude}
use Rattle.rusttable.specs.AsStep.{context_of, outcome_of, store_of}
use Rattle.rusttable.proofs.Rows.{Has, live_is}
use Rattle.rusttable.proofs.Handed.{buf_as}

-- the result over the whole operation that an answer comes to; of a refusal without an error the bytes done
unfoldable pub result_for : Split → Answer → RawResult
result_for sp (Count n) = Ok (sp.done + n)
result_for sp (Failed e media) = Err (record { raw = e; media = media })
result_for sp Refused = Ok sp.done
result_for sp (RefusedWith e media) = Err (record { raw = e; media = media })

unfoldable pub is_refused : Answer → Bool
is_refused (Count n) = false
is_refused (Failed e media) = false
is_refused Refused = true
is_refused (RefusedWith e media) = false

-- a count is within what is left
unfoldable pub within : Split → Answer → Type 0
within sp (Count n) = sp.done + n ≤ sp.total
within sp (Failed e media) = Unit {0}
within sp Refused = Unit {0}
within sp (RefusedWith e media) = Unit {0}

and_true : (a : Bool) → (a && true) ≡ a
and_true true = refl
and_true false = refl

and_false : (a : Bool) → (a && false) ≡ false
and_false true = refl
and_false false = refl

lost_unwritten : (sp : Split) (answer : Answer) → is_written sp answer false ≡ false
unfolding is_written
lost_unwritten sp (Count m) = and_false (eqb (sp.done + m) sp.total)
lost_unwritten sp (Failed e media) = refl
lost_unwritten sp Refused = refl
lost_unwritten sp (RefusedWith e media) = refl

-- the Rust's two tests of a written write, and the rules'
two_picks : (d f : Bool) (c : Fate → Submitter × Finish) {u v w : Submitter × Finish} (fu fv fw : Fate) → u ≡ c fu → v ≡ c fv → w ≡ c fw → pick (d && f) u (pick d v w) ≡ c (pick d (pick f fu fv) fw)
unfolding pick
two_picks true true c fu fv fw eu ev ew = eu
two_picks true false c fu fv fw eu ev ew = ev
two_picks false f c fu fv fw eu ev ew = ew

-- an outcome that is no write is handed back
unwritten : (x : Submitter) (t : ℕ) (buf : Option IoBuf) (live : Live) (outcome : Outcome) → written outcome ≡ none → concluded x t buf live outcome ≡ hand_back x t buf outcome
unfolding concluded given
unwritten x t buf live outcome e =
    by_pick (live.durable && flushes x.store live) (λ (z : Submitter × Finish). z ≡ hand_back x t buf outcome) (λ d. rw e refl)
    (λ d. by_pick live.durable (λ (z : Submitter × Finish). z ≡ hand_back x t buf outcome) (λ d. rw e refl) (λ d. refl))

no_write : (z : Result ℕ Error) → written (map_ok Read z) ≡ none
unfolding written map_ok done_write
no_write (Ok m) = refl
no_write (Err e) = refl

-- the operation in a row, without a split and holding nothing
abbrev pub operation_of : Row → Kind → Live
operation_of row k = record { tag = row.tag; seq = row.seq; kind = k; handle = row.handle; durable = row.durable; held = none; split = none }

module _ (s : State) (n : ℕ) (row : Row) (T : Table) (t : ℕ) where
  abbrev g : Region
  g = region_at s row.handle

  abbrev x : Submitter
  x = record { store = store_of s n; table = T }

  -- the store with a cause, or as it was
  abbrev poisoned : Option FirstCause → Store
  poisoned cause = record { settings = s.settings; regions = s.regions; poison = poison_with s.poison cause; issued = n }

  -- what becomes of the operation, in the Rust's table
  unfoldable pub carried_flush : Kind → Awaits → List ℕ → Submitter × Finish
  carried_flush k Nothing bytes = (x, Finished)
  carried_flush k (Piece k' sp) bytes = (x, Finished)
  carried_flush k (AwaitsFlush tk) bytes =
      (with_table x (put T t (with_held (operation_of row k) (some (record { buf = some (record { number = row.buffer; len = tk.end.0 - tk.start.0; bytes = bytes }); ticket = tk })))), Flush t tk.need)

  unfoldable pub carried : Kind → Fate → Submitter × Finish
  carried k (away f) = (x, Finished)
  carried k (awaits a bytes) = carried_flush k a bytes
  carried k (ends ending) = (record { store = poisoned ending.cause; table = release T t (buf_as ending.buffer ending.bytes) (outcome_of ending.outcome) }, Finished)
  carried k (rejected e b bytes) = (x, Finished)

  -- the end of an operation of this kind whose first arrangement is back, or whose buffer is lost
  abbrev fate : Kind → Split → List ℕ → Answer → Bool → Fate
  fate k sp bytes answer back = last_piece s.settings (plan_of g) g.forced s.poison row k sp bytes answer back n

  -- the buffer, if it came back, in order and at its whole length
  abbrev back_in_order : Bool → Split → List ℕ → Option IoBuf
  back_in_order back sp bytes = buf_as (buffer_as back row.buffer sp.total) (turned_back back sp bytes)

  -- ---- a read

  module _ (a b : Position) (r : RustRow) (has : Has T t r (operation_of row (Reads a b))) where
    read_concluded : (buf : Option IoBuf) (result : RawResult) → conclude x t buf result ≡ hand_back x t buf (map_ok Read (settle_read g a b buf result))
    unfolding conclude given settle settle_kind with_store region store_of region_at
    read_concluded buf result = rw (live_is T t r (operation_of row (Reads a b)) has) (unwritten x t buf (operation_of row (Reads a b)) (map_ok Read (settle_read g a b buf result)) (no_write (settle_read g a b buf result)))

    module _ (sp : Split) (bytes : List ℕ) (room : sp.total ≤ length bytes) where
      shorter : (m : ℕ) → sp.done + m ≤ sp.total → set_len (record { number = row.buffer; len = sp.total; bytes = turned sp.total (left_of sp) bytes }) (sp.done + m) ≡ record { number = row.buffer; len = sp.done + m; bytes = turned sp.total (left_of sp) bytes }
      unfolding set_len pick
      shorter m le = rw (turn_laws.length_kept sp.total (left_of sp) bytes, le-leb (sp.done + m) (length bytes) (omega arith)) refl

      read_handed : (answer : Answer) (back : Bool) → is_refused answer ≡ false → within sp answer
          → hand_back x t (back_in_order back sp bytes) (map_ok Read (settle_read g a b (back_in_order back sp bytes) (result_for sp answer))) ≡ carried (Reads a b) (fate (Reads a b) sp bytes answer back)
      unfolding last_piece carried failed_read pick map_ok settle_read not_written outcome_of buffer_as buf_as hand_back shortened read_len given context_of ctx_range range_of plan_of first_of last_of with_table poison_with store_of result_for read_outcome read_length turned_back within is_refused
      read_handed (Count m) true plain le = λ j. (record { store = poisoned none; table = release T t (some (shorter m le j)) (Ok (Read (sp.done + m))) }, Finished)
      read_handed (Count m) false plain le = refl
      read_handed (Failed e true) true plain le = refl
      read_handed (Failed e true) false plain le = refl
      read_handed (Failed e false) true plain le = refl
      read_handed (Failed e false) false plain le = refl
      read_handed Refused back plain le = absurd (not_both refl plain)
      read_handed (RefusedWith e true) true plain le = refl
      read_handed (RefusedWith e true) false plain le = refl
      read_handed (RefusedWith e false) true plain le = refl
      read_handed (RefusedWith e false) false plain le = refl

      pub read_ends : (answer : Answer) (back : Bool) → is_refused answer ≡ false → within sp answer
          → conclude x t (back_in_order back sp bytes) (result_for sp answer) ≡ carried (Reads a b) (fate (Reads a b) sp bytes answer back)
      read_ends answer back plain le = read_concluded (back_in_order back sp bytes) (result_for sp answer) ∙ read_handed answer back plain le

  -- ---- a write

  module _ (a b : Position) (r : RustRow) (has : Has T t r (operation_of row (Page a b))) where
    abbrev its_ticket : WriteTicket
    its_ticket = ticket_of s.settings (plan_of g) (Page a b) n

    abbrev wrote : Outcome
    wrote = Ok (Wrote (record { ticket = its_ticket; receipt = none }))

    module _ (sp : Split) (bytes : List ℕ) (fits : a.0 + sp.total ≡ b.0) where
      abbrev here : IoBuf
      here = record { number = row.buffer; len = sp.total; bytes = bytes }

      -- kept for its flush
      flush_kept : ◌≡◌ {A = Submitter × Finish} (with_table x (put T t (with_held (operation_of row (Page a b)) (some (record { buf = some here; ticket = its_ticket })))), Flush t its_ticket.need)
          (carried (Page a b) (awaits (AwaitsFlush its_ticket) bytes))
      unfolding carried carried_flush ticket_of first_of last_of
      flush_kept = let long : sp.total ≡ b.0 - a.0 = omega arith in rw long refl

      -- poisoned, or with a receipt
      receipt_given : (p : StdOption FirstCause) → hand_back x t (some here) (receipted (store_of s n) (record { ticket = its_ticket; receipt = none }) p) ≡ carried (Page a b) (ends (record { outcome = unflushed s.settings p its_ticket; buffer = Back (record { buffer = row.buffer; len = sp.total }); bytes = bytes; cause = none }))
      unfolding hand_back receipted unflushed shortened read_len given carried outcome_of buf_as with_table poison_with store_of durable_receipt
      receipt_given None = refl
      receipt_given (Some cause) = refl

      plain : hand_back x t (some here) wrote ≡ carried (Page a b) (ends (record { outcome = endsWritten its_ticket; buffer = Back (record { buffer = row.buffer; len = sp.total }); bytes = bytes; cause = none }))
      unfolding hand_back shortened read_len given carried outcome_of buf_as with_table poison_with store_of
      plain = refl

      written_ends : concluded x t (some here) (operation_of row (Page a b)) wrote ≡ carried (Page a b) (written_as s.settings g.forced s.poison row.durable its_ticket (Back (record { buffer = row.buffer; len = sp.total })) bytes)
      unfolding concluded written_as given written done_write flushes region region_at store_of
      written_ends = two_picks row.durable (s.settings.flush || g.forced) (carried (Page a b)) _ _ _ flush_kept (receipt_given s.poison) plain

    -- not written: the store is poisoned
    abbrev failed : StdOption ℕ → Submitter
    failed err = with_store x (unknown (store_of s n) writeOp err (ctx_range g a b)).0

    unwritten_ends : (buf : Buffer) (bytes : List ℕ) (answer : Answer)
        → concluded (failed (error_of answer)) t (buf_as buf bytes) (operation_of row (Page a b)) (Err (unknown (store_of s n) writeOp (error_of answer) (ctx_range g a b)).1)
        ≡ carried (Page a b) (ends (record { outcome = endsUnknown (range_of (plan_of g) (Page a b)) (cause_of answer); buffer = buf; bytes = bytes; cause = some (cause_of answer) }))
    unfolding unknown poison carried outcome_of with_store with_table poison_with store_of cause_of context_of ctx_range range_of plan_of first_of last_of written hand_back shortened read_len given
    unwritten_ends buf bytes answer = unwritten (failed (error_of answer)) t (buf_as buf bytes) (operation_of row (Page a b)) (Err (unknown (store_of s n) writeOp (error_of answer) (ctx_range g a b)).1) refl

    write_concluded : (buf : Option IoBuf) (result : RawResult) (full : Bool) → is_full result buf ≡ full → conclude x t buf result
        ≡ pick full (concluded x t buf (operation_of row (Page a b)) wrote)
        (concluded (failed (err_in result)) t buf (operation_of row (Page a b)) (Err (unknown (store_of s n) writeOp (err_in result) (ctx_range g a b)).1))
    unfolding conclude given settle settle_kind settle_write map_ok with_store region store_of region_at pick ticket domain_ticket ticket_of plan_of first_of last_of
    write_concluded buf result true e = rw (live_is T t r (operation_of row (Page a b)) has, e) refl
    write_concluded buf result false e = rw (live_is T t r (operation_of row (Page a b)) has, e) refl

    module _ (sp : Split) (bytes : List ℕ) (fits : a.0 + sp.total ≡ b.0) (left : sp.done < sp.total) where
      same_full : (answer : Answer) (back : Bool) → is_full (result_for sp answer) (back_in_order back sp bytes) ≡ is_written sp answer back
      unfolding is_full result_for is_written buf_as buffer_as turned_back
      same_full (Count m) true = sym (and_true (eqb (sp.done + m) sp.total))
      same_full (Count m) false = sym (and_false (eqb (sp.done + m) sp.total))
      same_full (Failed e media) back = refl
      same_full Refused true = ne_eqb sp.done sp.total (λ e. omega arith)
      same_full Refused false = refl
      same_full (RefusedWith e media) back = refl

      same_error : (answer : Answer) → err_in (result_for sp answer) ≡ error_of answer
      unfolding err_in result_for error_of
      same_error (Count m) = refl
      same_error (Failed e media) = refl
      same_error Refused = refl
      same_error (RefusedWith e media) = refl

      by_written : (answer : Answer) (back w : Bool) → is_written sp answer back ≡ w
          → pick w (concluded x t (back_in_order back sp bytes) (operation_of row (Page a b)) wrote)
          (concluded (failed (error_of answer)) t (back_in_order back sp bytes) (operation_of row (Page a b)) (Err (unknown (store_of s n) writeOp (error_of answer) (ctx_range g a b)).1))
          ≡ carried (Page a b) (pick w (written_as s.settings g.forced s.poison row.durable its_ticket (buffer_as back row.buffer sp.total) (turned_back back sp bytes))
          (ends (record { outcome = endsUnknown (range_of (plan_of g) (Page a b)) (cause_of answer); buffer = buffer_as back row.buffer sp.total; bytes = turned_back back sp bytes; cause = some (cause_of answer) })))
      unfolding pick buffer_as buf_as turned_back
      by_written answer true true e = written_ends sp (turned sp.total (left_of sp) bytes) fits
      by_written answer false true e = absurd (not_both e (lost_unwritten sp answer))
      by_written answer true false e = unwritten_ends (Back (record { buffer = row.buffer; len = sp.total })) (turned sp.total (left_of sp) bytes) answer
      by_written answer false false e = unwritten_ends Lost bytes answer

      pub write_ends : (answer : Answer) (back : Bool) → conclude x t (back_in_order back sp bytes) (result_for sp answer) ≡ carried (Page a b) (fate (Page a b) sp bytes answer back)
      unfolding last_piece
      write_ends answer back =
          write_concluded (back_in_order back sp bytes) (result_for sp answer) (is_written sp answer back) (same_full answer back)
          ∙ rw (same_error answer) (by_written answer back (is_written sp answer back) refl)
