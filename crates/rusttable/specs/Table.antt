-- The Rust's data as values: what store-io's optable.rs, completion.rs and submitter/mod.rs hold (commit a84d392376), field by field and under its
-- names. A reference to a region (`Arc<LiveRegion>`, and the `OwnedPass` that a row keeps) is the region's handle. A position or an offset is the
-- number that the Rust has, in this repository's types. `Option<OsError>` is std's Option of a number (the crate domain's OsError), `Option<Op>` is
-- domain's Op. Left out: `order`, `mark`, `asks`, `flushing`, `asked`, wakers, counters; appends (`Kind::Append`, `prefix`) and barriers
-- (`Kind::Sync`, `Kind::All`, `Done::Synced`), `Kind::Raw`.
use Rattle.std.specs.Prelude.{Bool, List, ℕ}
use Rattle.std.proofs.Math.Option.{Option}
use Rattle.regionmap.specs.declared.Position.{Position}
use Rattle.domain.specs.declared.{Op.Op, FirstCause.FirstCause}
use Rattle.std.specs.declared.option.Option.{Option as StdOption}
use Rattle.completion.specs.declared.{WriteTicket.WriteTicket, DurableReceipt.DurableReceipt}
use Rattle.model.specs.declared.{Opening.Opening, Kind.Kind, Split.Split}
use Rattle.model.specs.State.{Region}

-- `Result<A, E>`
pub data Result (A : Type 0) (E : Type 0) : Type 0 where
  Ok : A → Result A E
  Err : E → Result A E

-- store_io_buf's IoBuf (not in docs/src): which buffer of the pool it is, its length, and the bytes of its whole capacity. `as_mut_slice` is the
-- first `len` of them.
pub record IoBuf : Type 0 where
  pub number : ℕ
  pub len : ℕ
  pub bytes : List ℕ

-- store_io_core's OsError (not in docs/src): the number, and whether it is a media error, which is "marked media or not by the host"
pub record RawError : Type 0 where
  pub raw : ℕ
  pub media : Bool

-- store-io-platform's lib.rs: `RawResult<usize>`
abbrev pub RawResult : Type 0
RawResult = Result ℕ RawError

-- ---- errors (store_io_core's error.rs, not in docs/src: as docs/src makes them)

-- io.rs, `ctx_range`: `ByteRange`
pub record ByteRange : Type 0 where
  pub start : Position
  pub end : Position

-- io.rs, `ctx` and `ctx_range`
pub record ErrorContext : Type 0 where
  pub region : Option ℕ
  pub range : Option ByteRange

-- those that docs/src names for a page operation
pub data NotWrittenCause : Type 0 where
  ForeignPosition ForeignBuffer QueueFull StaleGeneration NotReady ReadOnly Empty Misaligned OutOfBounds Interrupted : NotWrittenCause

pub data Error : Type 0 where
  NotWritten : NotWrittenCause → ErrorContext → Error
  Poisoned : FirstCause → Error
  Io : Op → ℕ → ErrorContext → Error
  DurabilityUnknown : Op → StdOption ℕ → ErrorContext → Error
  Corruption : ErrorContext → Error

-- flusher.rs: `Flushed = Result<u64, Error>`
abbrev pub Flushed : Type 0
Flushed = Result ℕ Error

-- ---- completion.rs

pub record Written : Type 0 where
  pub ticket : WriteTicket
  pub receipt : Option DurableReceipt

-- the flush of a whole store is what an unmatched flush result would come to (optable.rs, `flushed`)
pub data Done : Type 0 where
  Wrote : Written → Done
  WholeStore : Done
  Read : ℕ → Done

abbrev pub Outcome : Type 0
Outcome = Result Done Error

pub record Completion : Type 0 where
  pub tag : ℕ
  pub buf : Option IoBuf
  pub outcome : Outcome

pub record Rejected : Type 0 where
  pub error : Error
  pub buf : Option IoBuf

-- ---- optable.rs

-- `Live::held`: "its buffer, its ticket"
pub record Held : Type 0 where
  pub buf : Option IoBuf
  pub ticket : WriteTicket

pub record Live : Type 0 where
  pub tag : ℕ
  pub seq : ℕ
  pub kind : Kind
  -- in place of the pass
  pub handle : ℕ
  pub durable : Bool
  pub held : Option Held
  pub split : Option Split

pub record Row : Type 0 where
  pub generation : ℕ
  pub live : Option Live

-- `free` is a Vec whose last element is popped and behind which one is pushed: here its last element stands first, so `pop` takes the list's head and
-- `push` puts one before it. `ready` is a VecDeque, its front first.
pub record Table : Type 0 where
  pub rows : List Row
  pub free : List ℕ
  pub ready : List Completion
  pub live : ℕ
  pub next_seq : ℕ

-- `Finish`
pub data Finish : Type 0 where
  Finished : Finish
  Flush : ℕ → ℕ → Finish
  Next : ℕ → ℕ → IoBuf → Bool → Finish

-- ---- what a Submitter holds

-- store.rs's Inner: the settings (volume, block, policy, read-only, epoch, the pool's numbers), the regions (LiveRegion: id, generation, map, gate,
-- read-only, force_sync) and of the domain its poison and how many flushes were issued
pub record Store : Type 0 where
  pub settings : Opening
  pub regions : List Region
  pub poison : StdOption FirstCause
  pub issued : ℕ

-- submitter/mod.rs's Submitter: its store, and of queue_core.rs's Core the table. The queue is the caller: what it is handed is a result, what it
-- answers an argument.
pub record Submitter : Type 0 where
  pub store : Store
  pub table : Table

-- receipt.rs's RegionPos (not in docs/src: as submitter/mod.rs makes one)
pub record RegionPos : Type 0 where
  pub volume : ℕ
  pub region : ℕ
  pub generation : ℕ
  pub offset : Position

-- submitter/mod.rs's Req
pub data Req : Type 0 where
  WriteAt : ℕ → IoBuf → Req
  ReadAt : ℕ → IoBuf → Req

-- how the queue answers `submit`: it takes the operation, or refuses it (store-io-platform's lib.rs, Rejected) with "The raw error, if the refusal
-- came from the OS", and "The operation's buffer, returned to the caller.", as the queue gives it back, if it does
pub data Submitted : Type 0 where
  Taken : Submitted
  Refused : Option RawError → Option IoBuf → Submitted

-- what a submission comes to: the operation that the queue was handed and took, under its queue tag, or the rejection
pub data Issued : Type 0 where
  Submit : ℕ → Req → Issued
  Reject : Rejected → Issued
