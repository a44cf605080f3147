-- Document 01, "An answer arrives": the rules of one operation, written once, for the table and for an operation alone. An operation is what its row
-- says and the bytes of its buffer; it is fed a piece's answer or a flush result, and the rules say what becomes of it (D-26).
use Rattle.std.specs.Prelude.{Bool, true, false, ◌&&◌, ◌||◌, List, ℕ, ◌+◌, ◌-◌, ◌^◌, ltb, eqb}
use Rattle.std.proofs.Math.Option.{Option, none, some}
use Rattle.layout.specs.Pick.{pick}
use Rattle.regionmap.specs.declared.{FoundPiece.FoundPiece, Position.Position}
use Rattle.regionmap.specs.Map.{Map, place, piece_size}
use Rattle.regionmap.specs.Words.{offset_of}
use Rattle.iobuf.specs.Turn.{turned}
use Rattle.domain.specs.declared.{Op.Op, FirstCause.FirstCause}
use Rattle.std.specs.declared.option.Option.{Option as StdOption}
use Rattle.domain.specs.Domain.{need_after}
use Rattle.platform.specs.declared.{Answer.Answer, Flushed.Flushed}
use Rattle.completion.specs.declared.{WriteTicket.WriteTicket, Range.Range, Outcome.Outcome, Refusal.Refusal}
use Rattle.completion.specs.Buffers.{Buffer}
use Rattle.std.specs.declared.option.Option.TheVariants.{Some as Back, None as Lost}
use Rattle.model.specs.declared.{Opening.Opening, Kind.Kind, Split.Split, Awaits.Awaits, Row.Row}
use Rattle.model.specs.Opening.{Plan}
use Rattle.model.specs.State.{receipt_made}
use Rattle.step.specs.Questions.{byte_at}

-- ---- an operation and its pieces

-- a write or a read, and its range
unfoldable pub op_of : Kind → Op
op_of (Kind.Page a b) = Op.Write
op_of (Kind.Read a b) = Op.Read

unfoldable pub first_of : Kind → Position
first_of (Kind.Page a b) = a
first_of (Kind.Read a b) = a

unfoldable pub last_of : Kind → Position
last_of (Kind.Page a b) = b
last_of (Kind.Read a b) = b

-- "the region and the operation's whole range"
unfoldable pub range_of : Plan → Kind → Range
range_of g k = record { region = g.id; start = first_of k; end = last_of k }

-- the range of an operation by what it awaits: of a piece the kind's, of a flush the ticket's
unfoldable pub range_start : Awaits → ℕ
range_start Awaits.Nothing = 0
range_start (Awaits.Piece (Kind.Page a b) s) = a.0
range_start (Awaits.Piece (Kind.Read a b) s) = a.0
range_start (Awaits.Flush t) = t.start.0

unfoldable pub range_end : Awaits → ℕ
range_end Awaits.Nothing = 0
range_end (Awaits.Piece (Kind.Page a b) s) = b.0
range_end (Awaits.Piece (Kind.Read a b) s) = b.0
range_end (Awaits.Flush t) = t.end.0

-- the bytes of an operation that are left
abbrev pub left_of : Split → ℕ
left_of s = s.total - s.done

-- the piece under way of an operation that starts at a position: at what is done, of what is left
unfoldable pub piece_of : Map → ℕ → Split → FoundPiece
piece_of m start s = record { offset = offset_of (place m (byte_at start s.done)); count = piece_size m (byte_at start s.done) (left_of s) }

-- its count
unfoldable pub piece_length : Plan → Kind → Split → ℕ
piece_length g k s = (piece_of g.map (first_of k).0 s).count

-- ---- what an operation is fed, and what becomes of it

-- "Each says whether the buffer came back. The host passes its flush count"
pub data Input : Type 0 where
  answered : Answer → Bool → ℕ → Input
  flushed : Flushed → Input

-- what ends an operation: its outcome, its buffer and the bytes there, and the cause with which the store is poisoned, if any
pub record End : Type 0 where
  pub outcome : Outcome
  pub buffer : Buffer
  pub bytes : List ℕ
  pub cause : Option FirstCause

pub data Fate : Type 0 where
  -- turned away: nothing changes
  away : Refusal → Fate
  -- it awaits its next piece or its flush; the bytes of its buffer
  awaits : Awaits → List ℕ → Fate
  -- it is complete
  ends : End → Fate
  -- its first piece is refused, with an OS error or none: its buffer and the bytes there
  rejected : StdOption ℕ → Buffer → List ℕ → Fate

-- the buffer "if it came back", at a length
unfoldable pub buffer_as : Bool → ℕ → ℕ → Buffer
buffer_as true b length = Back (record { buffer = b; len = length })
buffer_as false b length = Lost

-- the OS error of an answer, "if there was one"
unfoldable pub error_of : Answer → StdOption ℕ
error_of (Answer.Count n) = StdOption.None
error_of (Answer.Error e media) = StdOption.Some e
error_of Answer.Refused = StdOption.None
error_of (Answer.RefusedWith e media) = StdOption.Some e

-- ---- the end of a piece after which none is issued: the last, or an earlier one that was short, lost, refused or failed

-- "the buffer, if it came back, is turned back to its first arrangement .. (a lost one keeps its bytes as they lie)"
unfoldable pub turned_back : Bool → Split → List ℕ → List ℕ
turned_back true s bytes = turned s.total (left_of s) bytes
turned_back false s bytes = bytes

-- "A write is written only if the count is the whole length and the buffer came back"; "the count is bytes done + this count"
unfoldable pub is_written : Split → Answer → Bool → Bool
is_written s (Answer.Count n) back = eqb (s.done + n) s.total && back
is_written s (Answer.Error e media) back = false
is_written s Answer.Refused back = false
is_written s (Answer.RefusedWith e media) back = false

-- "the cause write and that error"
unfoldable pub cause_of : Answer → FirstCause
cause_of a = record { op = Op.Write; raw = error_of a }

-- "A media error: Corruption. Another error: Io."
unfoldable pub failed_read : Range → ℕ → Bool → Outcome
failed_read r e media = pick media (Outcome.Corruption r) (Outcome.Io r Op.Read e)

-- "A read ends with its count .. A count without buffer: Interrupted."; "Later piece refused .. with an error, as that error. Without one, a read
-- ends QueueFull"
unfoldable pub read_outcome : Range → Split → Answer → Bool → Outcome
read_outcome r s (Answer.Count n) back = pick back (Outcome.Read (s.done + n)) (Outcome.Interrupted r)
read_outcome r s (Answer.Error e media) back = failed_read r e media
read_outcome r s Answer.Refused back = Outcome.QueueFull r
read_outcome r s (Answer.RefusedWith e media) back = failed_read r e media

-- ".. and the buffer's length becomes it"; of another end the buffer has "its whole length"
unfoldable pub read_length : Split → Answer → ℕ
read_length s (Answer.Count n) = s.done + n
read_length s (Answer.Error e media) = s.total
read_length s Answer.Refused = s.total
read_length s (Answer.RefusedWith e media) = s.total

-- io.rs's `ticket`: "the ticket's need is the flush count plus one, wrapping at 2^64"
unfoldable pub ticket_of : Opening → Plan → Kind → ℕ → WriteTicket
ticket_of o g k flushes =
    record {
      volume = o.volume;
      region = g.id;
      generation = g.generation;
      start = first_of k;
      end = last_of k;
      need = need_after flushes;
      epoch = o.epoch;
    }

-- "Durable without either ends Poisoned if the store is poisoned, else with a receipt of need 2^64 − 1."
unfoldable pub unflushed : Opening → StdOption FirstCause → WriteTicket → Outcome
unflushed o StdOption.None t = Outcome.Receipt t (receipt_made o t (2 ^ 64 - 1))
unflushed o (StdOption.Some cause) t = Outcome.Poisoned cause

-- "Plain ends there. Durable, with the flush policy or a forced region, keeps the row"
unfoldable pub written_as : Opening → Bool → StdOption FirstCause → Bool → WriteTicket → Buffer → List ℕ → Fate
written_as o forced first durable t b bytes =
    pick durable
    (pick (o.flush || forced) (awaits (Awaits.Flush t) bytes) (ends (record {
      outcome = unflushed o first t;
      buffer = b;
      bytes = bytes;
      cause = none;
    })))
    (ends (record { outcome = Outcome.Written t; buffer = b; bytes = bytes; cause = none }))

-- the end of such a piece, by the operation's kind
unfoldable pub last_piece : Opening → Plan → Bool → StdOption FirstCause → Row → Kind → Split → List ℕ → Answer → Bool → ℕ → Fate
last_piece o g forced first r (Kind.Read a b) s bytes answer back flushes =
    ends
    (record {
      outcome = read_outcome (range_of g (Kind.Read a b)) s answer back;
      buffer = buffer_as back r.buffer (read_length s answer);
      bytes = turned_back back s bytes;
      cause = none;
    })
last_piece o g forced first r (Kind.Page a b) s bytes answer back flushes =
    pick (is_written s answer back)
    (written_as o forced first r.durable (ticket_of o g (Kind.Page a b) flushes) (buffer_as back r.buffer s.total) (turned_back back s bytes))
    (ends
    (record {
      outcome = Outcome.Unknown (range_of g (Kind.Page a b)) (cause_of answer);
      buffer = buffer_as back r.buffer s.total;
      bytes = turned_back back s bytes;
      cause = some (cause_of answer);
    }))

-- ---- a piece's answer

-- "Is the count at most the piece?"
unfoldable pub above_piece : ℕ → Answer → Bool
above_piece piece (Answer.Count n) = ltb piece n
above_piece piece (Answer.Error e media) = false
above_piece piece Answer.Refused = false
above_piece piece (Answer.RefusedWith e media) = false

-- "First piece refused"
unfoldable pub is_refusal : Answer → Bool
is_refusal (Answer.Count n) = false
is_refusal (Answer.Error e media) = false
is_refusal Answer.Refused = true
is_refusal (Answer.RefusedWith e media) = true

unfoldable pub first_refused : Split → Answer → Bool
first_refused s answer = eqb s.done 0 && is_refusal answer

-- "Whole with its buffer, bytes left"
unfoldable pub is_whole : ℕ → Answer → Bool
is_whole piece (Answer.Count n) = eqb n piece
is_whole piece (Answer.Error e media) = false
is_whole piece Answer.Refused = false
is_whole piece (Answer.RefusedWith e media) = false

unfoldable pub goes_on : ℕ → Split → Answer → Bool → Bool
goes_on piece s answer back = is_whole piece answer && (back && ltb (s.done + piece) s.total)

-- the split of the next piece
unfoldable pub split_after : ℕ → Split → Split
split_after piece s = record { total = s.total; done = s.done + piece }

-- the answer of a piece of some length: "the operation's bytes at the front of the buffer turn left by the piece, and the next piece is the reply"
unfoldable pub piece_answered : Opening → Plan → Bool → StdOption FirstCause → Row → Kind → Split → ℕ → List ℕ → Answer → Bool → ℕ → Fate
piece_answered o g forced first r k s piece bytes answer back flushes =
    pick (above_piece piece answer) (away Refusal.AbovePiece)
    (pick (first_refused s answer) (rejected (error_of answer) (buffer_as back r.buffer s.total) bytes)
    (pick (goes_on piece s answer back) (awaits (Awaits.Piece k (split_after piece s)) (turned s.total piece bytes))
    (last_piece o g forced first r k s bytes answer back flushes)))

-- ---- a flush result

-- "a receipt with the result's need ..; or the failure, where DurabilityUnknown gets the ticket's region and range"
unfoldable pub flush_outcome : Opening → WriteTicket → Flushed → Outcome
flush_outcome o t (Flushed.Need n) = Outcome.Receipt t (receipt_made o t n)
flush_outcome o t (Flushed.Unknown cause) = Outcome.Unknown (record { region = t.region; start = t.start; end = t.end }) cause
flush_outcome o t (Flushed.Poisoned cause) = Outcome.Poisoned cause

-- "A flush failure poisons nothing here"; the buffer, which came back, has its whole length
unfoldable pub flush_ends : Opening → Row → WriteTicket → List ℕ → Flushed → Fate
flush_ends o r t bytes result =
    ends (record { outcome = flush_outcome o t result; buffer = Back (record { buffer = r.buffer; len = (t.end.0 - t.start.0) }); bytes = bytes; cause = none })

-- ---- the rules

-- "Does the row await a piece (for a flush result: a flush)? No: 15."
unfoldable pub answer_rules : Opening → Plan → Bool → StdOption FirstCause → Row → List ℕ → Answer → Bool → ℕ → Awaits → Fate
answer_rules o g forced first r bytes answer back flushes Awaits.Nothing = away Refusal.NotAwaited
answer_rules o g forced first r bytes answer back flushes (Awaits.Piece k s) =
    piece_answered o g forced first r k s (piece_length g k s) bytes answer back flushes
answer_rules o g forced first r bytes answer back flushes (Awaits.Flush t) = away Refusal.NotAwaited

unfoldable pub flush_rules : Opening → Row → List ℕ → Flushed → Awaits → Fate
flush_rules o r bytes result Awaits.Nothing = away Refusal.NotAwaited
flush_rules o r bytes result (Awaits.Piece k s) = away Refusal.NotAwaited
flush_rules o r bytes result (Awaits.Flush t) = flush_ends o r t bytes result

-- what becomes of the operation in a row: of the opening's settings, its region as the opening was given it, the forced mark last set, the first
-- cause so far, and the bytes of its buffer as the input arrives
unfoldable pub rules : Opening → Plan → Bool → StdOption FirstCause → Row → List ℕ → Input → Fate
rules o g forced first r bytes (answered answer back flushes) = answer_rules o g forced first r bytes answer back flushes r.awaits
rules o g forced first r bytes (flushed result) = flush_rules o r bytes result r.awaits
