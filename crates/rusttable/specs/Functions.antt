-- The Rust's functions on values: each takes what the Rust's has in its hands and returns it as the Rust leaves it, in the Rust's order of tests and
-- statements and under its names, each with its file. A `&mut self` goes in and comes out. Assertions and busy marks are left out. The map's
-- functions are in RegionMap. Not in docs/src, and so as document 01 restates them: `settle_write`, `settle_read`, `durable_receipt`, `in_range`
-- (settle.rs), the gate (gate.rs) with `retired_error` (lifecycle.rs), the pool's `owns` and IoBuf's `set_len` (store_io_buf).
use Rattle.std.specs.Prelude.{Bool, true, false, not, ◌&&◌, ◌||◌, List, [], ◌∷◌, ◌++◌, ℕ, ◌+◌, ◌-◌, ◌*◌, ◌/◌, ◌%◌, ◌^◌, min, length, get_or, set, take, drop, replicate, leb, ltb, eqb}
use Rattle.std.proofs.Math.Option
use Rattle.std.proofs.Math.Option.{Option, none, some}
use Rattle.std.proofs.Math.ListN.{get_elem?}
use Rattle.layout.specs.Pick.{pick}
use Rattle.regionmap.specs.declared.Position.{Position}
use Rattle.regionmap.specs.Words.{position_of}
use Rattle.domain.specs.declared.{Op.Op, FirstCause.FirstCause}
use Rattle.std.specs.declared.option.Option.{Option as StdOption}
use Rattle.domain.specs.Domain.{first_kept}
use Rattle.completion.specs.declared.{WriteTicket.WriteTicket, DurableReceipt.DurableReceipt}
use Rattle.model.specs.declared.{Kind.Kind, Split.Split, Gate.Gate}
use Rattle.model.specs.State.{Region, no_region, up_from, receipt_made}
use Rattle.rusttable.specs.RegionMap.{run_left, locate}
use Rattle.rusttable.specs.Table.{Result, Result.Ok, Result.Err, IoBuf, RawError, RawResult, ErrorContext, Error, Flushed, Written, Done}
use Rattle.rusttable.specs.Table.{Outcome, Completion, Held, Live, Row, Table, Finish, Store, Submitter, RegionPos, Req, Submitted, Issued}
use Rattle.rusttable.specs.Table.{NotWrittenCause, NotWrittenCause.ForeignPosition, NotWrittenCause.ForeignBuffer, NotWrittenCause.QueueFull}
use Rattle.rusttable.specs.Table.{NotWrittenCause.StaleGeneration, NotWrittenCause.NotReady, NotWrittenCause.ReadOnly, NotWrittenCause.Empty}
use Rattle.rusttable.specs.Table.{NotWrittenCause.Misaligned, NotWrittenCause.OutOfBounds, NotWrittenCause.Interrupted}
use Rattle.rusttable.specs.Table.{Error.NotWritten, Error.Poisoned, Error.Io, Error.DurabilityUnknown, Error.Corruption, Done.Wrote}
use Rattle.rusttable.specs.Table.{Done.WholeStore, Done.Read, Finish.Finished, Finish.Flush, Finish.Next, Req.WriteAt, Req.ReadAt}
use Rattle.rusttable.specs.Table.{Submitted.Taken, Submitted.Refused, Issued.Submit, Issued.Reject}

-- ---- the Rust's own forms

-- `let Some(x) = o else { return d };` and what follows
unfoldable pub given : {A : Type 0} {B : Type 0} → Option A → B → (A → B) → B
given none d f = d
given (some x) d f = f x

-- `match r { Ok(x) => .., Err(e) => return .. }`
unfoldable pub tried : {A : Type 0} {E : Type 0} {B : Type 0} → Result A E → (E → B) → (A → B) → B
tried (Ok x) g f = f x
tried (Err e) g f = g e

-- `o.is_some()`
unfoldable pub is_some : {A : Type 0} → Option A → Bool
is_some none = false
is_some (some x) = true

-- `o.filter(|x| ..)`
unfoldable pub filtered : {A : Type 0} → (A → Bool) → Option A → Option A
filtered test none = none
filtered test (some x) = pick (test x) (some x) none

-- `r.map(|n| ..)`
unfoldable pub map_ok : {A : Type 0} {B : Type 0} {E : Type 0} → (A → B) → Result A E → Result B E
map_ok f (Ok x) = Ok (f x)
map_ok f (Err e) = Err e

-- ---- the buffer

-- IoBuf::set_len: the length, where the capacity has room for it
unfoldable pub set_len : IoBuf → ℕ → IoBuf
set_len b n = pick (leb n (length b.bytes)) (record { number = b.number; len = n; bytes = b.bytes }) b

-- the standard library's `<[u8]>::rotate_left`
unfoldable pub rotate_left : List ℕ → ℕ → List ℕ
rotate_left slice k = drop k slice ++ take k slice

-- `b.as_mut_slice().rotate_left(k)`
unfoldable pub rotated : IoBuf → ℕ → IoBuf
rotated b k = record { number = b.number; len = b.len; bytes = rotate_left (take b.len b.bytes) k ++ drop b.len b.bytes }

-- `buf.as_ref().map_or(0, IoBuf::len)`
unfoldable pub len_of : Option IoBuf → ℕ
len_of none = 0
len_of (some b) = b.len

-- ---- io.rs: contexts and errors

unfoldable pub ctx : Region → ErrorContext
ctx r = record { region = some r.id; range = none }

unfoldable pub ctx_range : Region → Position → Position → ErrorContext
ctx_range r start end = record { region = some r.id; range = some (record { start = start; end = end }) }

-- `ErrorContext::default()`
unfoldable pub no_context : ErrorContext
no_context = record { region = none; range = none }

-- io.rs, `not_written`
unfoldable pub not_written : NotWrittenCause → ErrorContext → Error
not_written cause c = NotWritten cause c

-- domain/mod.rs, `Domain::poison`: "Idempotent: the first cause wins."
unfoldable pub poison : Store → FirstCause → Store
poison store cause =
    record { settings = store.settings; regions = store.regions; poison = first_kept store.poison cause; issued = store.issued }

-- io.rs, `Store::unknown`: "Poisons the domain after a failure past submission and returns the matching error."
unfoldable pub unknown : Store → Op → StdOption ℕ → ErrorContext → Store × Error
unknown store op raw c = (poison store (record { op = op; raw = raw }), DurabilityUnknown op raw c)

-- io.rs, `Store::refused`
unfoldable pub refused : Option RawError → ErrorContext → Error
refused (some raw) c = Io Op.Write raw.raw c
refused none c = not_written QueueFull c

-- domain/mod.rs, `Domain::ticket`: `self.issued.load(..).wrapping_add(1)`
unfoldable pub domain_ticket : Store → ℕ
domain_ticket store = (store.issued + 1) % 2 ^ 64

-- io.rs, `Store::ticket`
unfoldable pub ticket : Store → Region → Position → Position → WriteTicket
ticket store r start end =
    record {
      volume = store.settings.volume;
      region = r.id;
      generation = r.generation;
      start = start;
      end = end;
      need = domain_ticket store;
      epoch = store.settings.epoch;
    }

-- io.rs, `Store::receipt_for`
unfoldable pub receipt_for : Store → WriteTicket → ℕ → DurableReceipt
receipt_for store t need =
    record {
      volume = t.volume;
      region = t.region;
      generation = t.generation;
      class = store.settings.class;
      label = store.settings.label;
      start = t.start;
      through = t.end;
      untorn = false;
      need = need;
      prefix = false;
      synced = not (eqb need (2 ^ 64 - 1)) && not (eqb need 0);
      epoch = t.epoch;
    }

-- io.rs, `Store::ready`
unfoldable pub unpoisoned : StdOption FirstCause → Result (Unit {0}) Error
unpoisoned StdOption.None = Ok tt
unpoisoned (StdOption.Some first) = Err (Poisoned first)

unfoldable pub ready : Store → Result (Unit {0}) Error
ready store = pick store.settings.read_only (Err (not_written ReadOnly no_context)) (unpoisoned store.poison)

-- io.rs, `Store::ready_for`
unfoldable pub ready_for : Store → Region → Result (Unit {0}) Error
ready_for store r = tried (ready store) Err λ u. pick r.read_only (Err (not_written ReadOnly (ctx r))) (Ok tt)

-- ---- restated by document 01

-- settle.rs, `settle_write`: "A write is written only if the count is the whole length and the buffer came back. Else it ends DurabilityUnknown with
-- the OS error, if there was one, and the store is poisoned with the cause write and that error, the first cause kept."
unfoldable pub settle_write : Store → Region → Position → Position → Bool → StdOption ℕ → Store × Result WriteTicket Error
settle_write store state start end full err =
    pick full (store, Ok (ticket store state start end))
    ((unknown store Op.Write err (ctx_range state start end)).0, Err (unknown store Op.Write err (ctx_range state start end)).1)

-- settle.rs, `settle_read`: "A read ends with its count .. A count without buffer: Interrupted. A media error: Corruption. Another error: Io."
unfoldable pub settle_read : Region → Position → Position → Option IoBuf → RawResult → Result ℕ Error
settle_read state start end none (Ok n) = Err (not_written Interrupted (ctx_range state start end))
settle_read state start end (some b) (Ok n) = Ok n
settle_read state start end none (Err e) =
    Err (pick e.media (Corruption (ctx_range state start end)) (Io Op.Read e.raw (ctx_range state start end)))
settle_read state start end (some b) (Err e) =
    Err (pick e.media (Corruption (ctx_range state start end)) (Io Op.Read e.raw (ctx_range state start end)))

-- settle.rs, `durable_receipt`, of a page write: "a receipt with the result's need, synced unless that is 0 or 2^64 − 1"; "A receipt takes its range
-- from the ticket; untorn and prefix are false."
unfoldable pub durable_receipt : Store → WriteTicket → ℕ → DurableReceipt
durable_receipt store t need = receipt_made store.settings t need

-- settle.rs, `in_range`: "the failure, where DurabilityUnknown gets the ticket's region and range"
unfoldable pub in_range : Error → WriteTicket → Error
in_range (NotWritten cause c) t = NotWritten cause c
in_range (Poisoned first) t = Poisoned first
in_range (Io op raw c) t = Io op raw c
in_range (DurabilityUnknown op raw c) t =
    DurabilityUnknown op raw (record { region = some t.region; range = some (record { start = t.start; end = t.end }) })
in_range (Corruption c) t = Corruption c

-- gate.rs and lifecycle.rs: `OwnedPass::enter(state).map_err(|why| retired_error(why, state))`: "recycled 4 StaleGeneration, released 5 NotReady"
unfoldable pub enter : Region → Gate → Result (Unit {0}) Error
enter state Gate.Open = Ok tt
enter state Gate.Recycled = Err (not_written StaleGeneration (ctx state))
enter state Gate.Released = Err (not_written NotReady (ctx state))

-- store_io_buf's `BufPool::owns`: "Is the buffer in the pool, its length within capacity?"
unfoldable pub owns : Store → IoBuf → Bool
owns store buf = ltb buf.number store.settings.buffers && leb buf.len store.settings.capacity

-- ---- optable.rs: the rows

-- `Table::new`: rows of generation 0, and `(0..depth).rev()`, whose last is row 0
unfoldable pub empty_row : Row
empty_row = record { generation = 0; live = none }

unfoldable pub new : ℕ → Table
new depth = record { rows = replicate depth empty_row; free = up_from 0 depth; ready = []; live = 0; next_seq = 0 }

-- `Table::full`
unfoldable pub full : Table → Bool
full t = leb (length t.rows) (t.live + length t.ready)

-- `qtag & 0xFFFF_FFFF` and `(qtag >> 32) as u32`
unfoldable pub index_in : ℕ → ℕ
index_in qtag = qtag % 2 ^ 32

unfoldable pub generation_in : ℕ → ℕ
generation_in qtag = qtag / 2 ^ 32

-- `Table::claim`: a free row, its queue tag `u64::from(index) | (u64::from(generation) << 32)` (an index has 32 bits, so the `or` is a sum), and the
-- table
pub record Claim : Type 0 where
  pub index : ℕ
  pub qtag : ℕ
  pub table : Table

unfoldable pub popped : Table → List ℕ → Option Claim
popped t [] = none
popped t (index ∷ rest) =
    some
    (record {
      index = index;
      qtag = index + (get_or t.rows index empty_row).generation * 2 ^ 32;
      table = record { rows = t.rows; free = rest; ready = t.ready; live = t.live; next_seq = t.next_seq };
    })

unfoldable pub claim : Table → Option Claim
claim t = popped t t.free

-- a row with another operation in it, at its generation
unfoldable pub row_with : Row → Option Live → Row
row_with r live = record { generation = r.generation; live = live }

unfoldable pub with_rows : Table → List Row → Table
with_rows t rows = record { rows = rows; free = t.free; ready = t.ready; live = t.live; next_seq = t.next_seq }

-- `Table::start`
unfoldable pub start : Table → ℕ → ℕ → Kind → ℕ → Bool → Table
start t index tag kind handle durable =
    let live : Live = record { tag = tag; seq = t.next_seq; kind = kind; handle = handle; durable = durable; held = none; split = none } in
    record {
      rows = set t.rows index (row_with (get_or t.rows index empty_row) (some live));
      free = t.free;
      ready = t.ready;
      live = t.live + 1;
      next_seq = t.next_seq + 1;
    }

-- an operation with another split, or with what it holds for its flush
unfoldable pub with_split : Live → Option Split → Live
with_split l split = record { tag = l.tag; seq = l.seq; kind = l.kind; handle = l.handle; durable = l.durable; held = l.held; split = split }

unfoldable pub with_held : Live → Option Held → Live
with_held l held = record { tag = l.tag; seq = l.seq; kind = l.kind; handle = l.handle; durable = l.durable; held = held; split = l.split }

-- `Table::set_split`
unfoldable pub set_split : Table → ℕ → Split → Table
set_split t index split =
    let r = get_or t.rows index empty_row in
    given r.live t λ live. with_rows t (set t.rows index (row_with r (some (with_split live (some split)))))

-- `Table::row`: the row a tag names, if it is in use by that tag's operation
unfoldable pub is_used : ℕ → Row → Bool
is_used generation r = eqb r.generation generation && is_some r.live

unfoldable pub row : Table → ℕ → Option Row
row t qtag = filtered (is_used (generation_in qtag)) (get_elem? t.rows (index_in qtag))

-- `self.row(qtag).and_then(|r| r.live.as_mut())`, and a write through it
unfoldable pub live_at : Table → ℕ → Option Live
live_at t qtag = given (row t qtag) none λ r. r.live

unfoldable pub put : Table → ℕ → Live → Table
put t qtag live = given (row t qtag) t λ r. with_rows t (set t.rows (index_in qtag) (row_with r (some live)))

unfoldable pub with_table : Submitter → Table → Submitter
with_table s t = record { store = s.store; table = t }

unfoldable pub with_store : Submitter → Store → Submitter
with_store s store = record { store = store; table = s.table }

-- `Table::abort`: "the row is free again (same generation: no completion can name it)"
unfoldable pub abort : Table → ℕ → Table
abort t index =
    given (get_elem? t.rows index) t λ r.
    given r.live t λ live.
    record { rows = set t.rows index (row_with r none); free = index ∷ t.free; ready = t.ready; live = t.live - 1; next_seq = t.next_seq }

-- `Table::release`: `row.generation.wrapping_add(1)` of 32 bits
unfoldable pub release : Table → ℕ → Option IoBuf → Outcome → Table
release t qtag buf outcome =
    let index = index_in qtag in
    given (row t qtag) t λ r.
    given r.live t λ live.
    record {
      rows = set t.rows index (record { generation = (r.generation + 1) % 2 ^ 32; live = none });
      free = index ∷ t.free;
      ready = t.ready ++ (record { tag = live.tag; buf = buf; outcome = outcome } ∷ []);
      live = t.live - 1;
      next_seq = t.next_seq;
    }

-- `start_of`
unfoldable pub start_of : Kind → ℕ
start_of (Kind.Page start end) = start.0
start_of (Kind.Read start end) = start.0

-- `if let Kind::Read { start, end } = kind`
unfoldable pub as_read : Kind → Option (Position × Position)
as_read (Kind.Page start end) = none
as_read (Kind.Read start end) = some (start, end)

-- `region`: the region a row's pass was admitted to; a page operation always has its pass, so there is one
unfoldable pub region : Store → Live → Region
region store live = get_or store.regions live.handle no_region

-- ---- optable.rs: `settle` and `conclude`

-- `matches!((result, buf), (Ok(n), Some(b)) if n == b.len())`
unfoldable pub is_full : RawResult → Option IoBuf → Bool
is_full (Ok n) none = false
is_full (Ok n) (some b) = eqb n b.len
is_full (Err e) buf = false

-- `result.err()`
unfoldable pub err_in : RawResult → StdOption ℕ
err_in (Ok n) = StdOption.None
err_in (Err e) = StdOption.Some e.raw

-- `settle`
unfoldable pub settle_kind : Store → Region → Option IoBuf → RawResult → Kind → Store × Outcome
settle_kind store state buf result (Kind.Read start end) = (store, map_ok Read (settle_read state start end buf result))
settle_kind store state buf result (Kind.Page start end) =
    let wrote = settle_write store state start end (is_full result buf) (err_in result) in
    (wrote.0, map_ok (λ t. Wrote (record { ticket = t; receipt = none })) wrote.1)

unfoldable pub settle : Store → Live → Option IoBuf → RawResult → Store × Outcome
settle store live buf result = settle_kind store (region store live) buf result live.kind

-- `if let Ok(Done::Written(w)) = outcome`
unfoldable pub done_write : Done → Option Written
done_write (Wrote w) = some w
done_write WholeStore = none
done_write (Read len) = none

unfoldable pub written : Outcome → Option Written
written (Ok d) = done_write d
written (Err e) = none

-- `match store.inner.domain.poisoned()`: "no receipt once poisoned", else "the write itself was durable at completion"
unfoldable pub receipted : Store → Written → StdOption FirstCause → Outcome
receipted store w (StdOption.Some first) = Err (Poisoned first)
receipted store w StdOption.None = Ok (Wrote (record { ticket = w.ticket; receipt = some (durable_receipt store w.ticket (2 ^ 64 - 1)) }))

-- "A short read: the buffer holds only the bytes read"
unfoldable pub read_len : Outcome → Option ℕ
read_len (Ok (Wrote w)) = none
read_len (Ok WholeStore) = none
read_len (Ok (Read len)) = some len
read_len (Err e) = none

unfoldable pub shortened : Outcome → Option IoBuf → Option IoBuf
shortened outcome buf = given (read_len outcome) buf λ len. Option.map (λ b. set_len b len) buf

-- the end of `conclude`
unfoldable pub hand_back : Submitter → ℕ → Option IoBuf → Outcome → Submitter × Finish
hand_back s qtag buf outcome = (with_table s (release s.table qtag (shortened outcome buf) outcome), Finished)

-- `conclude`, from the settled outcome on
unfoldable pub flushes : Store → Live → Bool
flushes store live = store.settings.flush || (region store live).forced

unfoldable pub concluded : Submitter → ℕ → Option IoBuf → Live → Outcome → Submitter × Finish
concluded s qtag buf live outcome =
    pick (live.durable && flushes s.store live)
    (given (written outcome) (hand_back s qtag buf outcome) λ w.
    (with_table s (put s.table qtag (with_held live (some (record { buf = buf; ticket = w.ticket })))), Flush qtag w.ticket.need))
    (pick live.durable (given (written outcome) (hand_back s qtag buf outcome) λ w. hand_back s qtag buf
    (receipted s.store w s.store.poison)) (hand_back s qtag buf outcome))

-- `Table::conclude`
unfoldable pub conclude : Submitter → ℕ → Option IoBuf → RawResult → Submitter × Finish
conclude s qtag buf result =
    given (live_at s.table qtag) (s, Finished) λ live.
    concluded (with_store s (settle s.store live buf result).0) qtag buf live (settle s.store live buf result).1

-- ---- optable.rs: `finish`, `refused_next` and `flushed`

-- `matches!(result, Ok(n) if n == piece)`
unfoldable pub ok_is : RawResult → ℕ → Bool
ok_is (Ok n) piece = eqb n piece
ok_is (Err e) piece = false

-- "The last piece, or one that failed or came back short: the bytes back in order"
unfoldable pub in_order : Split → IoBuf → IoBuf
in_order split b = rotated (set_len b split.total) (split.total - split.done)

-- `finish`: ".. the result over the whole operation"
unfoldable pub last_one : Submitter → ℕ → Option IoBuf → RawResult → Live → Split → Submitter × Finish
last_one s qtag buf result live split =
    conclude (with_table s (put s.table qtag (with_split live none))) qtag (Option.map (in_order split) buf) (map_ok (λ n. split.done + n) result)

-- `finish`: "The rest to the front: the next piece starts at the start."
unfoldable pub next_one : Submitter → ℕ → Live → Split → ℕ → ℕ → IoBuf → Submitter × Finish
next_one s qtag live split piece left b =
    let state = region s.store live in
    let pos = start_of live.kind + (split.done + piece) in
    let next = min (run_left state.map pos) left in
    let turned = set_len (rotated (set_len b split.total) piece) next in
    let offset = locate state.map pos next in
    let write = not (is_some (as_read live.kind)) in (
      with_table s (put s.table qtag (with_split live (some
          (record { total = split.total; done = split.done + piece })))),
      Next qtag offset turned write,
    )

-- `Table::finish`
unfoldable pub finish : Submitter → ℕ → Option IoBuf → RawResult → Submitter × Finish
finish s qtag buf result =
    given (live_at s.table qtag) (s, Finished) λ live.
    given live.split (conclude s qtag buf result) λ split.
    let piece = len_of buf in
    let whole = is_some buf && ok_is result piece in
    let left = split.total - split.done - min piece (split.total - split.done) in
    pick (whole && ltb 0 left) (given buf (last_one s qtag buf result live split) λ b. next_one s qtag live split piece left b)
    (last_one s qtag buf result live split)

-- `raw.map_or(Ok(split.done), Err)`
unfoldable pub refused_as : ℕ → Option RawError → RawResult
refused_as done none = Ok done
refused_as done (some e) = Err e

-- `Table::refused_next`: "A read refused without a code .. is an error, never a short read of what was done."
unfoldable pub refused_next : Submitter → ℕ → Option IoBuf → Option RawError → Submitter × Finish
refused_next s qtag buf raw =
    given (live_at s.table qtag) (s, Finished) λ live.
    given live.split (s, Finished) λ split.
    let taken = with_table s (put s.table qtag (with_split live none)) in
    let ordered = Option.map (in_order split) buf in
    pick (is_some raw) (conclude taken qtag ordered (refused_as split.done raw))
    (given (as_read live.kind) (conclude taken qtag ordered (refused_as split.done raw)) λ r. (
      with_table taken (release taken.table qtag ordered
          (Err (not_written QueueFull (ctx_range (region s.store live) r.0 r.1)))),
      Finished,
    ))

-- `Table::flushed`: of a row that holds a write, and of one that does not
unfoldable pub flush_done : Store → Held → Flushed → Outcome
flush_done store h (Ok need) = Ok (Wrote (record { ticket = h.ticket; receipt = some (durable_receipt store h.ticket need) }))
flush_done store h (Err e) = Err (in_range e h.ticket)

unfoldable pub flushed : Submitter → ℕ → Flushed → Submitter
flushed s qtag outcome =
    given (live_at s.table qtag) s λ live.
    let taken = put s.table qtag (with_held live none) in
    given live.held (with_table s (release taken qtag none (map_ok (λ n. WholeStore) outcome))) λ h.
    with_table s (release taken qtag h.buf (flush_done s.store h outcome))

-- ---- completion.rs, `Completions::next`: `self.ready.pop_front()`

pub record Popped : Type 0 where
  pub table : Table
  pub front : Option Completion

unfoldable pub pop_front : Table → List Completion → Popped
pop_front t [] = record { table = t; front = none }
pop_front t (c ∷ more) =
    record { table = record { rows = t.rows; free = t.free; ready = more; live = t.live; next_seq = t.next_seq }; front = some c }

unfoldable pub next : Table → Popped
next t = pop_front t t.ready

-- ---- region.rs, `PageRegion::check`

unfoldable pub check : Store → Region → RegionPos → ℕ → Result Position Error
check store state pos len =
    let c = ctx state in
    pick (not (eqb pos.volume store.settings.volume) || not (eqb pos.region state.id)) (Err (not_written ForeignPosition c))
    (pick (not (eqb pos.generation state.generation)) (Err (not_written StaleGeneration c))
    (pick (eqb len 0) (Err (not_written Empty c))
    (pick (not (eqb (len % store.settings.block) 0)) (Err (not_written Misaligned c))
    (pick (ltb (pos.offset.0 + len) (2 ^ 64) && leb (pos.offset.0 + len) state.map.data_length) (Ok (position_of (pos.offset.0 + len)))
    (Err (not_written OutOfBounds c))))))

-- ---- submitter/mod.rs

-- `first_piece`
pub record FirstPiece : Type 0 where
  pub offset : ℕ
  pub split : Option Split
  pub buf : IoBuf

unfoldable pub first_piece : Region → Position → IoBuf → FirstPiece
first_piece state start buf =
    let total = buf.len in
    let piece = min (run_left state.map start.0) total in
    pick (ltb piece total)
    (record { offset = locate state.map start.0 piece; split = some (record { total = total; done = 0 }); buf = set_len buf piece })
    (record { offset = locate state.map start.0 piece; split = none; buf = buf })

-- `Submitter::admit`: the store is this one's, as the region is named by a handle
unfoldable pub admit : Submitter → Region → IoBuf → Result (Unit {0}) Error
admit s state buf =
    let c = ctx state in
    pick (not (owns s.store buf)) (Err (not_written ForeignBuffer c))
    (pick (full s.table) (Err (not_written QueueFull c)) (enter state state.gate))

-- `Submitter::issue`: "A refusal gives the caller's buffer back whole"
unfoldable pub whole : Option Split → IoBuf → IoBuf
whole split buf = given split buf λ s. set_len buf s.total

unfoldable pub buf_in : Req → IoBuf
buf_in (WriteAt offset buf) = buf
buf_in (ReadAt offset buf) = buf

unfoldable pub with_or_not : Table → ℕ → Option Split → Table
with_or_not t index split = given split t λ s. set_split t index s

-- the queue gives the buffer back, or keeps it
unfoldable pub returned : Bool → IoBuf → Option IoBuf
returned true b = some b
returned false b = none

-- what `issue` comes to: what the queue took, or its refusal with the buffer
abbrev pub Told : Type 0
Told = Result (ℕ × Req) (Option RawError × Option IoBuf)

unfoldable pub submit : Submitter → Table → ℕ → ℕ → Req → Option Split → Submitted → Submitter × Told
submit s t index qtag req split Taken = (with_table s t, Ok (qtag, req))
submit s t index qtag req split (Refused raw buf) = (with_table s (abort t index), Err (raw, Option.map (whole split) buf))

unfoldable pub issue : Submitter → Req → ℕ → Kind → ℕ → Bool → Option Split → Submitted → Submitter × Told
issue s req tag kind handle durable split queue =
    given (claim s.table) (s, Err (none, some (whole split (buf_in req)))) λ c.
    submit s (with_or_not (start c.table c.index tag kind handle durable) c.index split) c.index c.qtag req split queue

-- `.map_err(|(raw, buf)| Rejected { error, buf })`
unfoldable pub told_as : (Option RawError → Error) → Told → Issued
told_as error (Ok taken) = Submit taken.0 taken.1
told_as error (Err back) = Reject (record { error = error back.0; buf = back.1 })

unfoldable pub issued_with : (Option RawError → Error) → Submitter × Told → Submitter × Issued
issued_with error told = (told.0, told_as error told.1)

-- `rejected(error, buf)`: the admission refuses with the buffer given back
unfoldable pub rejected : Submitter → IoBuf → Error → Submitter × Issued
rejected s buf error = (s, Reject (record { error = error; buf = some buf }))

-- `Submitter::write`
unfoldable pub write : Submitter → ℕ → RegionPos → IoBuf → Bool → ℕ → Submitted → Submitter × Issued
write s handle pos buf durable tag queue =
    let state = get_or s.store.regions handle no_region in
    tried (admit s state buf) (rejected s buf) λ pass.
    tried (ready_for s.store state) (rejected s buf) λ u.
    tried (check s.store state pos buf.len) (rejected s buf) λ end.
    let c = ctx_range state pos.offset end in
    let first = first_piece state pos.offset buf in
    issued_with (λ raw. refused raw c) (issue s (WriteAt first.offset first.buf) tag (Kind.Page pos.offset end) handle durable
    first.split queue)

-- `Submitter::read`
unfoldable pub read_error : ErrorContext → Option RawError → Error
read_error c (some raw) = Io Op.Read raw.raw c
read_error c none = not_written QueueFull c

unfoldable pub read : Submitter → ℕ → Position → IoBuf → ℕ → Submitted → Submitter × Issued
read s handle offset buf tag queue =
    let state = get_or s.store.regions handle no_region in
    tried (admit s state buf) (rejected s buf) λ pass.
    let len = buf.len in
    let block = s.store.settings.block in
    let c = ctx_range state offset (position_of (min (offset.0 + len) (2 ^ 64 - 1))) in
    pick (eqb len 0) (rejected s buf (not_written Empty c))
    (pick (not (eqb (offset.0 % block) 0) || not (eqb (len % block) 0)) (rejected s buf (not_written Misaligned c))
    (pick (not (ltb (offset.0 + len) (2 ^ 64) && leb (offset.0 + len) state.map.data_length)) (rejected s buf (not_written OutOfBounds c))
    (let first = first_piece state offset buf in
    issued_with (read_error c) (issue s (ReadAt first.offset first.buf) tag (Kind.Read offset (position_of (offset.0 + len))) handle false
    first.split queue))))

-- `Submitter::read_page`
unfoldable pub read_page : Submitter → ℕ → RegionPos → IoBuf → ℕ → Submitted → Submitter × Issued
read_page s handle pos buf tag queue =
    let state = get_or s.store.regions handle no_region in
    let c = ctx state in
    pick (not (eqb pos.volume s.store.settings.volume) || not (eqb pos.region state.id))
    (rejected s buf (not_written ForeignPosition c))
    (pick (not (eqb pos.generation state.generation)) (rejected s buf (not_written StaleGeneration c))
    (read s handle pos.offset buf tag queue))
