-- The table of the Rust that a state of `step` is, and a reply of `step` as what the Rust hands back.
use Rattle.std.specs.Prelude.{◌≡◌, Bool, true, false, List, map, ℕ, ◌+◌, ◌-◌, ◌≤◌, ◌<◌, ◌^◌, ltb, eqb, length}
use Rattle.std.proofs.Math.Option
use Rattle.std.proofs.Math.Option.{Option, none, some}
use Rattle.layout.specs.Pick.{pick}
use Rattle.regionmap.specs.declared.Offset.{Offset}
use Rattle.regionmap.specs.Map.{Map}
use Rattle.domain.specs.declared.Op.{Op}
use Rattle.std.specs.declared.option.Option.{Option as StdOption}
use Rattle.platform.specs.declared.Answer.{Answer}
use Rattle.platform.specs.declared.Flushed.{Flushed as FlushResult}
use Rattle.platform.specs.declared.Flushed.TheVariants as Flushed
use Rattle.completion.specs.declared.{WriteTicket.WriteTicket, Range.Range, Context.Context, Refusal.Refusal, Outcome.Outcome}
use Rattle.completion.specs.Buffers.{Buffer}
use Rattle.std.specs.declared.option.Option.TheVariants.{Some as Back, None as Lost}
use Rattle.completion.specs.declared.{Completion.Completion, Reply.Reply}
use Rattle.model.specs.declared.{Opening.Opening, Lengths.Lengths, Kind.Kind, Split.Split, Awaits.Awaits, Row.Row, Request.Request, Call.Call}
use Rattle.model.specs.State.{State}
use Rattle.model.specs.Opening.{Plan, opened}
use Rattle.step.specs.Questions.{region_at}
use Rattle.step.specs.Rules.{first_of, piece_length}
use Rattle.step.specs.Step.{row_at, row_of, names, bytes_at, plan_of, writes_in, step}
use Rattle.step.specs.Sound.{Sound}
use Rattle.step.specs.Run.{leave}
use Rattle.step.specs.Lists.{HostMay}
use Rattle.rusttable.specs.Table.{Result.Ok, Result.Err, IoBuf, RawError, RawResult, ErrorContext, Error, Flushed, Live, Table, Finish, Store}
use Rattle.rusttable.specs.Table.{Submitter, RegionPos, Req, Issued, Outcome as RustOutcome, Completion as RustCompletion, Row as RustRow}
use Rattle.rusttable.specs.Table.{NotWrittenCause.ForeignPosition, NotWrittenCause.ForeignBuffer, NotWrittenCause.QueueFull}
use Rattle.rusttable.specs.Table.{NotWrittenCause.StaleGeneration, NotWrittenCause.NotReady, NotWrittenCause.ReadOnly, NotWrittenCause.Empty}
use Rattle.rusttable.specs.Table.{NotWrittenCause.Misaligned, NotWrittenCause.OutOfBounds, NotWrittenCause.Interrupted}
use Rattle.rusttable.specs.Table.{Error.NotWritten, Error.Poisoned, Error.Io, Error.DurabilityUnknown, Error.Corruption, Done.Wrote, Done.Read}
use Rattle.rusttable.specs.Table.{Finish.Finished, Finish.Flush, Finish.Next, Req.WriteAt, Req.ReadAt, Submitted.Taken}
use Rattle.rusttable.specs.Table.{Submitted.Refused as QueueRefuses, Issued.Submit, Issued.Reject}
use Rattle.rusttable.specs.RegionMap.{run_of, locate, run_end}
use Rattle.rusttable.specs.Functions.{receipt_for, durable_receipt, index_in, returned, finish as rustFinish, refused_next}
use Rattle.rusttable.specs.Functions.{abort as rustAbort, flushed as rustFlushed, next, Popped, write as rustWrite, read_page, new as rustNew}
use Rattle.rusttable.specs.Domain.{InDomain}

-- ---- the state as the Rust's

-- buffer b at a length, with the bytes that lie in the pool
unfoldable pub buf_of : State → ℕ → ℕ → IoBuf
buf_of s b n = record { number = b; len = n; bytes = bytes_at s b }

-- a buffer, if it came back
unfoldable pub back_of : State → Buffer → Option IoBuf
back_of s (Back h) = some (buf_of s h.buffer h.len)
back_of s Lost = none

-- "the region and the operation's whole range"
unfoldable pub context_of : Range → ErrorContext
context_of r = record { region = some r.region; range = some (record { start = r.start; end = r.end }) }

-- an outcome as `Result<Done, Error>`
unfoldable pub outcome_of : Outcome → RustOutcome
outcome_of (Outcome.Written t) = Ok (Wrote (record { ticket = t; receipt = none }))
outcome_of (Outcome.Receipt t d) = Ok (Wrote (record { ticket = t; receipt = some d }))
outcome_of (Outcome.Read n) = Ok (Read n)
outcome_of (Outcome.Unknown r cause) = Err (DurabilityUnknown cause.op cause.raw (context_of r))
outcome_of (Outcome.Interrupted r) = Err (NotWritten Interrupted (context_of r))
outcome_of (Outcome.Corruption r) = Err (Corruption (context_of r))
outcome_of (Outcome.Io r op n) = Err (Io op n (context_of r))
outcome_of (Outcome.QueueFull r) = Err (NotWritten QueueFull (context_of r))
outcome_of (Outcome.Poisoned cause) = Err (Poisoned cause)

unfoldable pub completion_as : State → Completion → RustCompletion
completion_as s c = record { tag = c.tag; buf = back_of s c.buf; outcome = outcome_of c.outcome }

-- `Live::split`: none where the piece under way is the whole operation
unfoldable pub split_of : Plan → Kind → Split → Option Split
split_of g k sp = pick (eqb (piece_length g k sp) sp.total) none (some sp)

-- `Row::live`: a row that awaits a piece has handed its buffer to the queue; one that awaits a flush holds it, at its whole length
unfoldable pub live_of : State → Row → Awaits → Option Live
live_of s r Awaits.Nothing = none
live_of s r (Awaits.Piece k sp) =
    some (record {
      tag = r.tag;
      seq = r.seq;
      kind = k;
      handle = r.handle;
      durable = r.durable;
      held = none;
      split = split_of (plan_of (region_at s r.handle)) k sp;
    })
live_of s r (Awaits.Flush t) =
    some (record {
      tag = r.tag;
      seq = r.seq;
      kind = Kind.Page t.start t.end;
      handle = r.handle;
      durable = r.durable;
      held = some (record { buf = some (buf_of s r.buffer (t.end.0 - t.start.0)); ticket = t });
      split = none;
    })

unfoldable pub row_as : State → Row → RustRow
row_as s r = record { generation = r.generation; live = live_of s r r.awaits }

unfoldable pub table_of : State → Table
table_of s =
    record {
      rows = map (row_as s) s.rows;
      free = s.free;
      ready = map (completion_as s) s.ready;
      live = s.counts.live;
      next_seq = s.counts.submissions;
    }

-- the store, where so many flushes were issued: "The host passes its flush count"
unfoldable pub store_of : State → ℕ → Store
store_of s issued = record { settings = s.settings; regions = s.regions; poison = s.poison; issued = issued }

unfoldable pub submitter_of : State → ℕ → Submitter
submitter_of s issued = record { store = store_of s issued; table = table_of s }

-- ---- what the Rust is handed

-- the buffer of the piece under way under a tag, as the queue has it: its length is the piece's
unfoldable pub piece_in : State → Row → Awaits → ℕ
piece_in s r Awaits.Nothing = 0
piece_in s r (Awaits.Piece k sp) = piece_length (plan_of (region_at s r.handle)) k sp
piece_in s r (Awaits.Flush t) = 0

unfoldable pub in_flight : State → ℕ → IoBuf
in_flight s t = buf_of s (row_at s (row_of t)).buffer (piece_in s (row_at s (row_of t)) (row_at s (row_of t)).awaits)

-- an answer that is no refusal
unfoldable pub answer_of : RawResult → Answer
answer_of (Ok n) = Answer.Count n
answer_of (Err e) = Answer.Error e.raw e.media

-- a refusal
unfoldable pub refusal_of : Option RawError → Answer
refusal_of none = Answer.Refused
refusal_of (some e) = Answer.RefusedWith e.raw e.media

-- whether the piece under way is a later one: bytes are done before it
unfoldable pub is_later : Awaits → Bool
is_later Awaits.Nothing = false
is_later (Awaits.Piece k sp) = ltb 0 sp.done
is_later (Awaits.Flush t) = false

-- a flush result; the context of a failure is the Rust's own until it is set to the ticket's
unfoldable pub flushed_of : FlushResult → Flushed
flushed_of (Flushed.Need n) = Ok n
flushed_of (Flushed.Unknown cause) = Err (DurabilityUnknown cause.op cause.raw (record { region = none; range = none }))
flushed_of (Flushed.Poisoned cause) = Err (Poisoned cause)

-- a request's position
unfoldable pub pos_of : Request → RegionPos
pos_of q = record { volume = q.volume; region = q.region; generation = q.generation; offset = q.offset }

-- ---- what the Rust hands back

-- `Finish`, as the reply and the state after it say; none, where no `Finish` says the reply
unfoldable pub finish_as : State → Reply → Option Finish
finish_as s (Reply.Piece t offset count b) = some (Next t offset.0 (buf_of s b count) (writes_in (row_at s (row_of t)).awaits))
finish_as s (Reply.No f) = none
finish_as s (Reply.Rejected range op raw buf) = none
finish_as s (Reply.Done t) = some Finished
finish_as s (Reply.Flush t need) = some (Flush t need)
finish_as s (Reply.Took c) = none
finish_as s Reply.None = none
finish_as s Reply.Ok = none
finish_as s (Reply.Writes b) = none
finish_as s (Reply.Mark n) = none

-- what is taken
unfoldable pub front_as : State → Reply → Option (Option RustCompletion)
front_as s (Reply.Piece t offset count b) = none
front_as s (Reply.No f) = none
front_as s (Reply.Rejected range op raw buf) = none
front_as s (Reply.Done t) = none
front_as s (Reply.Flush t need) = none
front_as s (Reply.Took c) = some (some (completion_as s c))
front_as s Reply.None = some none
front_as s Reply.Ok = none
front_as s (Reply.Writes b) = none
front_as s (Reply.Mark n) = none

-- a context
unfoldable pub context_as : Context → ErrorContext
context_as Context.None = record { region = none; range = none }
context_as (Context.Region id) = record { region = some id; range = none }
context_as (Context.Range r) = context_of r

-- a number up to 10 as the Rust's error; the Rust has none of the others
unfoldable pub error_as : Refusal → Option Error
error_as (Refusal.ForeignPosition c) = some (NotWritten ForeignPosition (context_as c))
error_as (Refusal.ForeignBuffer c) = some (NotWritten ForeignBuffer (context_as c))
error_as (Refusal.QueueFull c) = some (NotWritten QueueFull (context_as c))
error_as (Refusal.StaleGeneration c) = some (NotWritten StaleGeneration (context_as c))
error_as (Refusal.NotReady c) = some (NotWritten NotReady (context_as c))
error_as (Refusal.ReadOnly c) = some (NotWritten ReadOnly (context_as c))
error_as (Refusal.Poisoned first) = some (Poisoned first)
error_as (Refusal.Empty c) = some (NotWritten Empty (context_as c))
error_as (Refusal.Misaligned c) = some (NotWritten Misaligned (context_as c))
error_as (Refusal.OutOfBounds c) = some (NotWritten OutOfBounds (context_as c))
error_as (Refusal.NotHeld c) = none
error_as (Refusal.LifetimeSpent c) = none
error_as Refusal.Unfit = none
error_as Refusal.UnknownTag = none
error_as Refusal.NotAwaited = none
error_as Refusal.AbovePiece = none

-- "The host gets Io or QueueFull and the range"
unfoldable pub refused_error : Range → Op → StdOption ℕ → Error
refused_error r op StdOption.None = NotWritten QueueFull (context_of r)
refused_error r op (StdOption.Some n) = Io op n (context_of r)

-- the operation that the queue is handed
unfoldable pub req_as : Bool → ℕ → IoBuf → Req
req_as true offset buf = WriteAt offset buf
req_as false offset buf = ReadAt offset buf

-- what a submission comes to, as the reply and the state after it say: the first piece, a rejection with the caller's buffer, or a refused first
-- piece
unfoldable pub issued_as : Bool → State → IoBuf → Reply → Option Issued
issued_as w s buf (Reply.Piece t offset count b) = some (Submit t (req_as w offset.0 (buf_of s b count)))
issued_as w s buf (Reply.No f) = Option.map (λ e. Reject (record { error = e; buf = some buf })) (error_as f)
issued_as w s buf (Reply.Rejected range op raw b) = some (Reject (record { error = refused_error range op raw; buf = back_of s b }))
issued_as w s buf (Reply.Done t) = none
issued_as w s buf (Reply.Flush t need) = none
issued_as w s buf (Reply.Took c) = none
issued_as w s buf Reply.None = none
issued_as w s buf Reply.Ok = none
issued_as w s buf (Reply.Writes b) = none
issued_as w s buf (Reply.Mark n) = none

-- ---- the squares

-- the Rust's submitter is that of step's next state, where so many flushes were issued, and what it hands back is the reply
pub record Finishes (issued : ℕ) (rust : Submitter × Finish) (after : State × Reply) : Type 0 where
  pub state : rust.0 ≡ submitter_of after.0 issued
  pub reply : some rust.1 ≡ finish_as after.0 after.1

pub record Submits (issued : ℕ) (w : Bool) (buf : IoBuf) (rust : Submitter × Issued) (after : State × Reply) : Type 0 where
  pub state : rust.0 ≡ submitter_of after.0 issued
  pub reply : some rust.1 ≡ issued_as w after.0 buf after.1

pub record Takes (issued : ℕ) (s : State) (popped : Popped) (after : State × Reply) : Type 0 where
  pub table : popped.table ≡ table_of after.0
  pub store : store_of after.0 issued ≡ store_of s issued
  pub front : some popped.front ≡ front_as after.0 after.1

-- What the Rust asserts of the piece under way: it moves the operation on (`finish`), its buffer has room for the whole operation (`set_len`), bytes
-- are left in its run (`RegionMap::run_left`), and its range lies within the data and within one run (`RegionMap::locate`). Its end on the card is a
-- number of 64 bits, so no sum of the map wraps.
pub record Asserts (m : Map) (start : ℕ) (sp : Split) (count capacity : ℕ) : Type 0 where
  pub moves : sp.done < sp.done + count
  pub most : sp.done + count ≤ sp.total
  pub room : sp.total ≤ capacity
  pub rest : start + sp.done < run_end m (start + sp.done)
  pub in_data_lem : start + sp.done + count ≤ m.data_length
  pub in_run : start + sp.done + count ≤ (run_of m (start + sp.done) (length m.more)).2
  pub unwrapped : locate m (start + sp.done) count + count < 2 ^ 64

-- the calls that set a mark of a region, or report poison
unfoldable pub is_setting : Call → Bool
is_setting (Call.Write q) = false
is_setting (Call.ReadPage q) = false
is_setting (Call.Answer t a back flushes) = false
is_setting (Call.Flushed t result) = false
is_setting Call.Take = false
is_setting (Call.SetGate h x) = true
is_setting (Call.SetReadOnly h x) = true
is_setting (Call.SetForced h x) = true
is_setting (Call.ReportPoison cause) = true

-- of every sound table, and every call in the domain of the comparison. Proved in proofs/AsStep.antt (as-step).
pub record AsStep : Type 0 where
  -- `Table::new`
  pub new : (o : Opening) (plans : List Plan) (l : Lengths) (pool : List ℕ) → rustNew o.depth ≡ table_of (opened o plans l pool)
  -- `Submitter::write`, with a queue that takes the first piece; and with one that refuses it at once: in step the answer that follows. Between
  -- the two the host writes as it may, into a read's piece too, and the queue gives the buffer back as it lies then.
  pub write : (before : Option ℕ) (s : State) (l : Lengths) (q : Request) (issued : ℕ) → Sound s → InDomain before s l (Call.Write q)
      → Submits issued true (buf_of s q.buffer q.length)
      (rustWrite (submitter_of s issued) q.handle (pos_of q) (buf_of s q.buffer q.length) q.durable q.tag Taken) (step s l (Call.Write q))
  pub write_refused : (before : Option ℕ) (s : State) (l : Lengths) (q : Request) (issued : ℕ) → Sound s → InDomain before s l (Call.Write q)
      → (t : ℕ) (offset : Offset) (count b : ℕ) → (step s l (Call.Write q)).1 ≡ Reply.Piece t offset count b
      → (pool : List ℕ) → HostMay (step s l (Call.Write q)).0 pool → (raw : Option RawError) (back : Bool) (flushes : ℕ)
      → InDomain (some t) (leave (step s l (Call.Write q)).0 pool) l (Call.Answer t (refusal_of raw) back flushes)
      → Submits issued true (buf_of s q.buffer q.length)
      (rustWrite (submitter_of s issued) q.handle (pos_of q) (buf_of s q.buffer q.length) q.durable q.tag
      (QueueRefuses raw (returned back (in_flight (leave (step s l (Call.Write q)).0 pool) t))))
      (step (leave (step s l (Call.Write q)).0 pool) l (Call.Answer t (refusal_of raw) back flushes))
  -- `Submitter::read_page`, likewise
  pub read : (before : Option ℕ) (s : State) (l : Lengths) (q : Request) (issued : ℕ) → Sound s → InDomain before s l (Call.ReadPage q)
      → Submits issued false (buf_of s q.buffer q.length)
      (read_page (submitter_of s issued) q.handle (pos_of q) (buf_of s q.buffer q.length) q.tag Taken) (step s l (Call.ReadPage q))
  pub read_refused : (before : Option ℕ) (s : State) (l : Lengths) (q : Request) (issued : ℕ) → Sound s → InDomain before s l (Call.ReadPage q)
      → (t : ℕ) (offset : Offset) (count b : ℕ) → (step s l (Call.ReadPage q)).1 ≡ Reply.Piece t offset count b
      → (pool : List ℕ) → HostMay (step s l (Call.ReadPage q)).0 pool → (raw : Option RawError) (back : Bool) (flushes : ℕ)
      → InDomain (some t) (leave (step s l (Call.ReadPage q)).0 pool) l (Call.Answer t (refusal_of raw) back flushes)
      → Submits issued false (buf_of s q.buffer q.length)
      (read_page (submitter_of s issued) q.handle (pos_of q) (buf_of s q.buffer q.length) q.tag
      (QueueRefuses raw (returned back (in_flight (leave (step s l (Call.ReadPage q)).0 pool) t))))
      (step (leave (step s l (Call.ReadPage q)).0 pool) l (Call.Answer t (refusal_of raw) back flushes))
  -- what the queue has under a tag is the piece that it was handed, the one of the reply (issued_as, finish_as)
  pub in_flight_lem : (s : State) (l : Lengths) (c : Call) → Sound s → (t : ℕ) (offset : Offset) (count b : ℕ)
      → (step s l c).1 ≡ Reply.Piece t offset count b → in_flight (step s l c).0 t ≡ buf_of (step s l c).0 b count
  -- `Table::finish`, of a count or an error; the flush count is the answer's
  pub finish : (before : Option ℕ) (s : State) (l : Lengths) (t : ℕ) (result : RawResult) (back : Bool) (flushes : ℕ) → Sound s
      → InDomain before s l (Call.Answer t (answer_of result) back flushes)
      → Finishes flushes (rustFinish (submitter_of s flushes) t (returned back (in_flight s t)) result)
      (step s l (Call.Answer t (answer_of result) back flushes))
  -- `Table::refused_next`, of a later piece
  pub refused_next_lem : (before : Option ℕ) (s : State) (l : Lengths) (t : ℕ) (raw : Option RawError) (back : Bool) (flushes : ℕ) → Sound s
      → InDomain before s l (Call.Answer t (refusal_of raw) back flushes)
      → is_later (row_at s (row_of t)).awaits ≡ true
      → Finishes flushes (refused_next (submitter_of s flushes) t (returned back (in_flight s t)) raw)
      (step s l (Call.Answer t (refusal_of raw) back flushes))
  -- `Table::abort`, of a first piece: the table, and a store that nothing poisons
  pub abort : (before : Option ℕ) (s : State) (l : Lengths) (t : ℕ) (raw : Option RawError) (back : Bool) (flushes : ℕ) → Sound s
      → InDomain before s l (Call.Answer t (refusal_of raw) back flushes)
      → is_later (row_at s (row_of t)).awaits ≡ false
      → (rustAbort (table_of s) (index_in t) ≡ table_of (step s l (Call.Answer t (refusal_of raw) back flushes)).0)
      × (store_of (step s l (Call.Answer t (refusal_of raw) back flushes)).0 flushes ≡ store_of s flushes)
  -- `Table::flushed`
  pub flushed : (before : Option ℕ) (s : State) (l : Lengths) (t : ℕ) (result : FlushResult) (issued : ℕ) → Sound s
      → InDomain before s l (Call.Flushed t result)
      → (rustFlushed (submitter_of s issued) t (flushed_of result) ≡ submitter_of (step s l (Call.Flushed t result)).0 issued)
      × ((step s l (Call.Flushed t result)).1 ≡ Reply.Done t)
  -- `Completions::next`
  pub take : (before : Option ℕ) (s : State) (l : Lengths) (issued : ℕ) → InDomain before s l Call.Take
      → Takes issued s (next (table_of s)) (step s l Call.Take)
  -- a setting or a report leaves the table as it was
  pub settings : (s : State) (l : Lengths) (c : Call) → is_setting c ≡ true → table_of (step s l c).0 ≡ table_of s
  -- so do the host's writes between calls, as document 01 allows them
  pub leaves : (s : State) (pool : List ℕ) → Sound s → HostMay s pool → table_of (leave s pool) ≡ table_of s
  -- io.rs's `receipt_for` is document 01's receipt
  pub receipts : (store : Store) (t : WriteTicket) (need : ℕ) → receipt_for store t need ≡ durable_receipt store t need
  -- what the Rust asserts
  pub asserts : (s : State) (t : ℕ) (k : Kind) (sp : Split) → Sound s → names (row_at s (row_of t)) t ≡ true
      → (row_at s (row_of t)).awaits ≡ Awaits.Piece k sp
      → Asserts (region_at s (row_at s (row_of t)).handle).map (first_of k).0 sp (piece_length (plan_of (region_at s (row_at s (row_of t)).handle)) k sp)
      s.settings.capacity
