-- Demand 3 is not empty: an opened table, a history and two lists of which its suppositions hold, and what each operation gets. The opening is
-- document 01's figures' but for depth 6, six buffers of 1,024, capacity and data 4,096 with a third run, and "flush policy" on. Six operations are
-- open, under the queue tags 0 to 5: 0  a write of two pieces; 1  a read answered short, with bytes left past the count; 2  a read whose buffer does
-- not come back; 3  a durable write, with its flush; 4  a read of two pieces, the second ended by an OS error, with bytes left before the error; 5  a
-- durable write whose flush result is a failure. The first list, by its items: 1 and 3 are 0's pieces; 2 is 3's flush result, before its piece is
-- answered (15); 4 takes 0's completion, and before 5, 3's piece, the host writes to the buffer that it got back; 6 is a lookup; 7 is 3's flush
-- result in other lengths (13), 9 the same in the opening's; 8 is 1's short count; 10 and 14 are 4's pieces; 12 loses 2's buffer; 13 is 5's piece and
-- 15 its failed flush; 11 and 16 to 19 are takings. They complete in the order 0, 1, 3, 2, 4, 5. The second: 1 loses 2's buffer, 12 answers under its
-- tag, which is over (14); 2 is 5's piece and 13 its failed flush; 3 is 3's piece, 4 the same answer again (15), 7 its flush; 5 and 14 are 4's
-- pieces; 6 is a taking in other lengths (13); 8 is a lookup; 9 and 10 take, and before 11, 0's first piece, the host writes to 3's buffer; 15 is 1's
-- short count; 16 is a count above 0's second piece (16), 17 that piece; 18 to 21 are takings. They complete in the order 2, 3, 5, 4, 1, 0.
use Rattle.std.specs.Prelude.{◌≡◌, Bool, true, false, List, [], ◌∷◌, ◌++◌, ℕ, length, get_or, take, replicate}
use Rattle.regionmap.specs.Words.{position_of, offset_of}
use Rattle.posix.specs.Posix.{Card}
use Rattle.domain.specs.declared.Op.TheVariants as Op
use Rattle.std.specs.declared.option.Option.{Option}
use Rattle.domain.specs.declared.FirstCause.{FirstCause}
use Rattle.platform.specs.declared.Answer.TheVariants as Answer
use Rattle.platform.specs.declared.Flushed.TheVariants as Flushed
use Rattle.completion.specs.declared.{WriteTicket.WriteTicket, Range.Range, DurableReceipt.DurableReceipt, Completion.Completion, Reply.Reply}
use Rattle.completion.specs.declared.Outcome.TheVariants as Outcome
use Rattle.std.specs.declared.option.Option.TheVariants.{Some as Back, None as Lost}
use Rattle.completion.specs.declared.Refusal.TheVariants as Refusal
use Rattle.model.specs.declared.{Opening.Opening, Lengths.Lengths, Request.Request}
use Rattle.model.specs.declared.Call.TheVariants as Call
use Rattle.model.specs.declared.Lookup.TheVariants as Lookup
use Rattle.model.specs.State.{State}
use Rattle.model.specs.Opening.{opened, plans_in, opens}
use Rattle.step.specs.Step.{row_at}
use Rattle.step.specs.Run.{Made, Made.calls, Made.looks, Event, run, Start}
use Rattle.step.specs.Lists.{Completed, gets, Hosted, tag_at}
use Rattle.step.specs.Demand3.{Supposed, Agreed}
use Rattle.step.specs.Figures.{opening_with}
use Rattle.examples.specs.Acts.{Act, Act.makes, Act.writes, Act.arrives, Act.lends, events_of, replies}

-- ---- the opening

unfoldable pub opening : Opening
opening = opening_with 6 1000 6 1024 true

-- the one region in the words of a plan: id, generation, first offset, capacity, data length, two further runs
unfoldable pub plan : List ℕ
plan = 7 ∷ 3 ∷ 1024 ∷ 4096 ∷ 4096 ∷ 2 ∷ 1024 ∷ 8192 ∷ 3072 ∷ 12288 ∷ replicate 60 0

unfoldable pub lengths : Lengths
lengths = record { rows = 6; store = 118; free = 6; ready = 97; owners = 6; pool = 6144 }

abbrev pub pool : List ℕ
pool = replicate 6144 0

unfoldable pub table : State
table = opened opening (plans_in 1 plan) lengths pool

-- the pool a byte short, and a row too many
unfoldable pub a_byte_short : Lengths
a_byte_short = record { rows = 6; store = 118; free = 6; ready = 97; owners = 6; pool = 6143 }

unfoldable pub a_row_more : Lengths
a_row_more = record { rows = 7; store = 118; free = 6; ready = 97; owners = 6; pool = 6144 }

-- ---- the history: the host fills the writes' buffers, and submits

abbrev pub asked : ℕ → ℕ → ℕ → Bool → ℕ → Request
asked buffer offset length durable tag =
    record {
      handle = 0;
      volume = 1;
      region = 7;
      generation = 3;
      offset = position_of offset;
      buffer = buffer;
      length = length;
      durable = durable;
      tag = tag;
    }

abbrev pub submissions : List Act
submissions =
    writes 0 (replicate 512 5 ++ replicate 512 6) (calls (Call.Write (asked 0 512 1024 false 70)))
    ∷ makes (calls (Call.ReadPage (asked 1 1536 512 false 71)))
    ∷ makes (calls (Call.ReadPage (asked 2 2048 512 false 72)))
    ∷ writes 3 (replicate 512 8) (calls (Call.Write (asked 3 0 512 true 73)))
    ∷ makes (calls (Call.ReadPage (asked 4 2560 1024 false 74)))
    ∷ writes 5 (replicate 512 10) (calls (Call.Write (asked 5 3584 512 true 75)))
    ∷ []

abbrev pub history : List Event
history = events_of table submissions

unfoldable pub s : State
s = run table history

-- ---- the two lists

-- 0: a piece of the write of two, taken whole
abbrev pub whole : Made
whole = calls (Call.Answer 0 (Answer.Count 512) true 0)

-- 1: 100 bytes of the 512, past which the host leaves others
abbrev pub short : Act
short = arrives 1 (replicate 100 9 ++ replicate 412 1) (calls (Call.Answer 1 (Answer.Count 100) true 0))

-- 2: a count without the buffer
abbrev pub lost : Made
lost = calls (Call.Answer 2 (Answer.Count 512) false 0)

abbrev pub losing : Act
losing = arrives 2 (replicate 512 4) lost

-- 3: the durable write's piece, at flush count 4, and its flush
abbrev pub durable : Made
durable = calls (Call.Answer 3 (Answer.Count 512) true 4)

abbrev pub flushed : Made
flushed = calls (Call.Flushed 3 (Flushed.Need 5))

-- 4: the first piece whole, and the second, of which 30 bytes came before the OS error 5, which is not of the media
abbrev pub reading : Act
reading = arrives 4 (replicate 512 2) (calls (Call.Answer 4 (Answer.Count 512) true 0))

abbrev pub failing : Act
failing = arrives 4 (replicate 30 3 ++ replicate 482 1) (calls (Call.Answer 4 (Answer.Error 5 false) true 0))

-- 5: the durable write's piece, at flush count 6, and its flush, which failed with the OS error 28
abbrev pub by_flush : FirstCause
by_flush = record { op = Op.Flush; raw = Option.Some 28 }

abbrev pub written : Made
written = calls (Call.Answer 5 (Answer.Count 512) true 6)

abbrev pub unflushed : Made
unflushed = calls (Call.Flushed 5 (Flushed.Unknown by_flush))

abbrev pub takes : Act
takes = makes (calls Call.Take)

abbrev pub first : List Act
first =
    makes whole
    ∷ makes flushed
    ∷ makes whole
    ∷ takes
    ∷ writes 0 (replicate 512 7) durable
    ∷ makes (looks Lookup.Mark)
    ∷ lends a_byte_short flushed
    ∷ short
    ∷ makes flushed
    ∷ reading
    ∷ takes
    ∷ losing
    ∷ makes written
    ∷ failing
    ∷ makes unflushed
    ∷ takes
    ∷ takes
    ∷ takes
    ∷ takes
    ∷ []

abbrev pub second : List Act
second =
    losing
    ∷ makes written
    ∷ makes durable
    ∷ makes durable
    ∷ reading
    ∷ lends a_row_more (calls Call.Take)
    ∷ makes flushed
    ∷ makes (looks Lookup.WritesLive)
    ∷ takes
    ∷ takes
    ∷ writes 3 (replicate 512 7) whole
    ∷ makes lost
    ∷ makes unflushed
    ∷ failing
    ∷ short
    ∷ makes (calls (Call.Answer 0 (Answer.Count 513) true 0))
    ∷ makes whole
    ∷ takes
    ∷ takes
    ∷ takes
    ∷ takes
    ∷ []

abbrev pub l₁ : List Event
l₁ = events_of s first

abbrev pub l₂ : List Event
l₂ = events_of s second

-- ---- what each operation gets

abbrev pub ticket : ℕ → ℕ → ℕ → WriteTicket
ticket from to need = record { volume = 1; region = 7; generation = 3; start = position_of from; end = position_of to; need = need; epoch = 0 }

abbrev pub range : ℕ → ℕ → Range
range from to = record { region = 7; start = position_of from; end = position_of to }

abbrev pub in_two : Completion
in_two = record { tag = 70; outcome = Outcome.Written (ticket 512 1536 1); buf = Back (record { buffer = 0; len = 1024 }) }

abbrev pub read_short : Completion
read_short = record { tag = 71; outcome = Outcome.Read 100; buf = Back (record { buffer = 1; len = 100 }) }

abbrev pub read_lost : Completion
read_lost = record { tag = 72; outcome = Outcome.Interrupted (range 2048 2560); buf = Lost }

abbrev pub receipt_there : DurableReceipt
receipt_there =
    record {
      volume = 1;
      region = 7;
      generation = 3;
      class = 0;
      label = 0;
      start = position_of 0;
      through = position_of 512;
      untorn = false;
      need = 5;
      prefix = false;
      synced = true;
      epoch = 0;
    }

abbrev pub synced : Completion
synced =
    record {
      tag = 73;
      outcome = Outcome.Receipt (ticket 0 512 5) receipt_there;
      buf = Back (record { buffer = 3; len = 512 });
    }

abbrev pub read_failed : Completion
read_failed = record { tag = 74; outcome = Outcome.Io (range 2560 3584) Op.Read 5; buf = Back (record { buffer = 4; len = 1024 }) }

abbrev pub flush_failed : Completion
flush_failed = record { tag = 75; outcome = Outcome.Unknown (range 3584 4096) by_flush; buf = Back (record { buffer = 5; len = 512 }) }

-- the operation in row r gets one completion in both lists, and its buffer so
pub record Gets (r : ℕ) (what : Completed) : Type 0 where
  pub in_first : gets s l₁ (tag_at s r) (row_at s r).buffer ≡ what ∷ []
  pub in_second : gets s l₂ (tag_at s r) (row_at s r).buffer ≡ what ∷ []

-- ---- what the table replies, item by item

abbrev pub replies₁ : List Reply
replies₁ =
    Reply.Piece 0 (offset_of 8192) 512 0
    ∷ Reply.No Refusal.NotAwaited
    ∷ Reply.Done 0
    ∷ Reply.Took in_two
    ∷ Reply.Flush 3 5
    ∷ Reply.Mark 3
    ∷ Reply.No Refusal.Unfit
    ∷ Reply.Done 1
    ∷ Reply.Done 3
    ∷ Reply.Piece 4 (offset_of 12288) 512 4
    ∷ Reply.Took read_short
    ∷ Reply.Done 2
    ∷ Reply.Flush 5 7
    ∷ Reply.Done 4
    ∷ Reply.Done 5
    ∷ Reply.Took synced
    ∷ Reply.Took read_lost
    ∷ Reply.Took read_failed
    ∷ Reply.Took flush_failed
    ∷ []

abbrev pub replies₂ : List Reply
replies₂ =
    Reply.Done 2
    ∷ Reply.Flush 5 7
    ∷ Reply.Flush 3 5
    ∷ Reply.No Refusal.NotAwaited
    ∷ Reply.Piece 4 (offset_of 12288) 512 4
    ∷ Reply.No Refusal.Unfit
    ∷ Reply.Done 3
    ∷ Reply.Writes true
    ∷ Reply.Took read_lost
    ∷ Reply.Took synced
    ∷ Reply.Piece 0 (offset_of 8192) 512 0
    ∷ Reply.No Refusal.UnknownTag
    ∷ Reply.Done 5
    ∷ Reply.Done 4
    ∷ Reply.Done 1
    ∷ Reply.No Refusal.AbovePiece
    ∷ Reply.Done 0
    ∷ Reply.Took flush_failed
    ∷ Reply.Took read_failed
    ∷ Reply.Took read_short
    ∷ Reply.Took in_two
    ∷ []

-- ---- the claim

abbrev pub start : opens opening plan lengths ≡ true → length pool ≡ lengths.pool → Start
start admitted whole = record { opening = opening; plan = plan; lengths = lengths; pool = pool; admitted = admitted; whole = whole }

-- proved in proofs/Demand3Example.antt (demand3-example)
pub record Demand3Example : Type 0 where
  -- the opening is admitted, and the host keeps to its buffers in the history
  pub admitted : opens opening plan lengths ≡ true
  pub whole_pool : length pool ≡ lengths.pool
  pub hosted : Hosted table history
  -- demand 3's suppositions
  pub supposed : Supposed s l₁ l₂
  pub replied₁ : replies s l₁ ≡ replies₁
  pub replied₂ : replies s l₂ ≡ replies₂
  -- the host's writes after a taking: the first byte of the buffer before and after
  pub wrote₁ : (get_or (run s (take 4 l₁)).pool 0 0 ≡ 5) × (get_or (run s (take 5 l₁)).pool 0 0 ≡ 7)
  pub wrote₂ : (get_or (run s (take 10 l₂)).pool 3072 0 ≡ 8) × (get_or (run s (take 11 l₂)).pool 3072 0 ≡ 7)
  -- what each operation gets: a read that is short or fails has the bytes left in its pieces, a lost buffer keeps its own
  pub gets_0 : Gets 0 (in_two, replicate 512 5 ++ replicate 512 6)
  pub gets_1 : Gets 1 (read_short, replicate 100 9 ++ replicate 412 1 ++ replicate 512 0)
  pub gets_2 : Gets 2 (read_lost, replicate 512 4 ++ replicate 512 0)
  pub gets_3 : Gets 3 (synced, replicate 512 8 ++ replicate 512 0)
  pub gets_4 : Gets 4 (read_failed, replicate 512 2 ++ replicate 30 3 ++ replicate 482 1)
  pub gets_5 : Gets 5 (flush_failed, replicate 512 10 ++ replicate 512 0)
  -- so, by demand 3, the two lists agree, whatever is on the card
  pub agreed : (card : Card) → Agreed (start admitted whole_pool) history card l₁ l₂
