-- Document 01, "Figures": the starred ones, as one table, of the definitions, of tables reached by calls; the table whose row 0 has its last
-- generation has the longest lifetime, since no lifetime of 1,000 reaches it. "Opening: volume 1, region 7, generation 3, block 512, card 16,384;
-- first offset 1,024, one further run (1,024, 8,192), capacity and data 2,048; depth 2, three buffers of 2,048, lifetime 1,000, store writable, no
-- flush policy, flush count 0."
use Rattle.std.specs.Prelude.{◌≡◌, Bool, true, false, List, [], ◌∷◌, ℕ, zero, suc, ◌-◌, ◌%◌, ◌^◌, ◌≤◌, replicate}
use Rattle.std.proofs.Math.Option.{Option, none, some}
use Rattle.regionmap.specs.declared.FoundPiece.{FoundPiece}
use Rattle.regionmap.specs.Words.{position_of, offset_of}
use Rattle.domain.specs.declared.Op.TheVariants as Op
use Rattle.std.specs.declared.option.Option.{Option as StdOption}
use Rattle.domain.specs.declared.FirstCause.{FirstCause}
use Rattle.platform.specs.declared.Answer.TheVariants as Answer
use Rattle.platform.specs.declared.Flushed.TheVariants as Flushed
use Rattle.completion.specs.declared.{WriteTicket.WriteTicket, Range.Range, Outcome.Outcome, Completion.Completion, Refusal.Refusal, Reply.Reply}
use Rattle.std.specs.declared.option.Option.TheVariants.{Some as Back, None as Lost}
use Rattle.completion.specs.Numbers.{number, Values, Values.nothing, Values.region, Values.range, values}
use Rattle.model.specs.declared.{Opening.Opening, Lengths.Lengths, Request.Request, Call.Call}
use Rattle.model.specs.State.{State}
use Rattle.model.specs.Opening.{opened, plans_in, opens}
use Rattle.step.specs.Questions.{region_at}
use Rattle.step.specs.Step.{step, begun, row_at, queue_tag}
use Rattle.step.specs.Laws.{issued_up_to}
use Rattle.step.specs.Lists.{view_of}

-- the figures' volume, block and card with one region, at a depth, a lifetime, so many buffers of a capacity, and a flush policy
abbrev pub opening_with : ℕ → ℕ → ℕ → ℕ → Bool → Opening
opening_with depth lifetime buffers capacity flush =
    record {
      block = 512;
      depth = depth;
      lifetime = lifetime;
      card = 16384;
      buffers = buffers;
      capacity = capacity;
      read_only = false;
      flush = flush;
      volume = 1;
      class = 0;
      label = 0;
      epoch = 0;
      regions = 1;
    }

unfoldable pub figures_opening : Opening
figures_opening = opening_with 2 1000 3 2048 false

-- the one region in the words of a plan: id, generation, first offset, capacity, data length, one further run
unfoldable pub figures_plan : List ℕ
figures_plan = 7 ∷ 3 ∷ 1024 ∷ 2048 ∷ 2048 ∷ 1 ∷ 1024 ∷ 8192 ∷ replicate 62 0

unfoldable pub figures_lengths : Lengths
figures_lengths = record { rows = 2; store = 118; free = 2; ready = 33; owners = 3; pool = 6144 }

unfoldable pub figures_table : State
figures_table = opened figures_opening (plans_in 1 figures_plan) figures_lengths (replicate 6144 0)

-- a plain request for buffer 0 of the opening's volume, region and generation
unfoldable pub asking : ℕ → ℕ → Request
asking offset length =
    record { handle = 0; volume = 1; region = 7; generation = 3; offset = position_of offset; buffer = 0; length = length; durable = false; tag = 70 }

-- the table after calls, and the reply to one more
unfoldable pub table_after : State → List Call → State
table_after s [] = s
table_after s (c ∷ cs) = table_after (step s figures_lengths c).0 cs

unfoldable pub reply_after : List Call → Call → Reply
reply_after cs c = (step (table_after figures_table cs) figures_lengths c).1

abbrev pub reply_at_first : Call → Reply
reply_at_first c = reply_after [] c

-- `a QTAG COUNT`: the buffer is back, the flush count is 0
abbrev pub answers : ℕ → ℕ → Call
answers t n = Call.Answer t (Answer.Count n) true 0

-- the same request, durable
unfoldable pub durably : Request → Request
durably q =
    record {
      handle = q.handle;
      volume = q.volume;
      region = q.region;
      generation = q.generation;
      offset = q.offset;
      buffer = q.buffer;
      length = q.length;
      durable = true;
      tag = q.tag;
    }

-- the same, of another buffer
unfoldable pub in_buffer : ℕ → Request → Request
in_buffer b q =
    record {
      handle = q.handle;
      volume = q.volume;
      region = q.region;
      generation = q.generation;
      offset = q.offset;
      buffer = b;
      length = q.length;
      durable = q.durable;
      tag = q.tag;
    }

-- the ticket of 512 to 1,536 with a need
unfoldable pub ticket_there : ℕ → WriteTicket
ticket_there need = record { volume = 1; region = 7; generation = 3; start = position_of 512; end = position_of 1536; need = need; epoch = 0 }

-- its range
unfoldable pub range_there : Range
range_there = record { region = 7; start = position_of 512; end = position_of 1536 }

-- the cause write, with no error
unfoldable pub by_write : FirstCause
by_write = record { op = Op.Write; raw = StdOption.None }

-- the same opening with the longest lifetime: "1 to 2^62 submissions."
unfoldable pub long_opening : Opening
long_opening = opening_with 2 (2 ^ 62) 3 2048 false

unfoldable pub long_table : State
long_table = opened long_opening (plans_in 1 figures_plan) figures_lengths (replicate 6144 0)

-- round n, from 0: a write of one piece, its whole answer and the taking; the write's row is row 0
unfoldable pub round : ℕ → List Call
round n = Call.Write (asking 512 512) ∷ answers (queue_tag 0 (n % 2 ^ 32)) 512 ∷ Call.Take ∷ []

-- the table after so many rounds
unfoldable pub rounds : ℕ → State
rounds zero = long_table
rounds (suc n) = table_after (rounds n) (round n)

-- what the receipt of a completion that is taken says of the flush
unfoldable pub receipt_synced : Outcome → Option Bool
receipt_synced (Outcome.Written x) = none
receipt_synced (Outcome.Receipt x r) = some r.synced
receipt_synced (Outcome.Read n) = none
receipt_synced (Outcome.Unknown r c) = none
receipt_synced (Outcome.Interrupted r) = none
receipt_synced (Outcome.Corruption r) = none
receipt_synced (Outcome.Io r o e) = none
receipt_synced (Outcome.QueueFull r) = none
receipt_synced (Outcome.Poisoned c) = none

abbrev pub synced_in : List Completion → Option Bool
synced_in [] = none
synced_in (c ∷ more) = receipt_synced c.outcome

unfoldable pub synced : Reply → Option Bool
synced r = synced_in (view_of r).hands

-- a piece on the card
abbrev pub found : ℕ → ℕ → FoundPiece
found offset count = record { offset = offset_of offset; count = count }

-- document 01's number of a reply that turns away
abbrev pub number_in : Option Refusal → Option ℕ
number_in none = none
number_in (some f) = some (number f)

unfoldable pub number_of : Reply → Option ℕ
number_of r = number_in (view_of r).refusal

-- and its values
abbrev pub values_in : Option Refusal → Values
values_in none = nothing
values_in (some f) = values f

unfoldable pub values_of : Reply → Values
values_of r = values_in (view_of r).refusal

pub record Figures : Type 0 where
  -- the opening is admitted
  pub opens_them : opens figures_opening figures_plan figures_lengths ≡ true
  -- "*Write 512, length 1,024: tag 0, piece (1,536, 512)."
  pub write_512 : reply_at_first (Call.Write (asking 512 1024)) ≡ Reply.Piece 0 (offset_of 1536) 512 0
  pub two_pieces : issued_up_to 1024 (region_at figures_table 0).map 512 (begun 1024) ≡ found 1536 512 ∷ found 8192 512 ∷ []
  -- "*Answer 512: piece (8,192, 512)."
  pub answer_512 : reply_after (Call.Write (asking 512 1024) ∷ []) (answers 0 512) ≡ Reply.Piece 0 (offset_of 8192) 512 0
  -- "*Answer 512: written 512 to 1,536, need 1."
  pub done_then : reply_after (Call.Write (asking 512 1024) ∷ answers 0 512 ∷ []) (answers 0 512) ≡ Reply.Done 0
  pub written : reply_after (Call.Write (asking 512 1024) ∷ answers 0 512 ∷ answers 0 512 ∷ []) Call.Take
      ≡ Reply.Took (record { tag = 70; outcome = Outcome.Written (ticket_there 1); buf = Back (record { buffer = 0; len = 1024 }) })
  -- "*Row 0 then gives tag 4,294,967,296."
  pub next_tag : reply_after (Call.Write (asking 512 1024) ∷ answers 0 512 ∷ answers 0 512 ∷ Call.Take ∷ []) (Call.Write (asking 512 1024))
      ≡ Reply.Piece 4294967296 (offset_of 1536) 512 0
  -- "*Length 512 at 1,536: one piece, offset 8,704."
  pub at_1536 : reply_at_first (Call.Write (asking 1536 512)) ≡ Reply.Piece 0 (offset_of 8704) 512 0
  pub one_piece : issued_up_to 512 (region_at figures_table 0).map 1536 (begun 512) ≡ found 8704 512 ∷ []
  -- "*Length 1,024 there: 10. *Offset 2^64 − 512, length 512: 10."
  pub too_long : number_of (reply_at_first (Call.Write (asking 1536 1024))) ≡ some 10
  pub far_out : number_of (reply_at_first (Call.Write (asking (2 ^ 64 - 512) 512))) ≡ some 10
  -- "*Read of 512 at 256: 9. *Write of 512 at 256: offset 1,280." Of the write document 02, P6: "The write at 256 among document 01's figures now
  -- gets 9."
  pub read_256 : number_of (reply_at_first (Call.ReadPage (asking 256 512))) ≡ some 9
  pub write_256 : number_of (reply_at_first (Call.Write (asking 256 512))) ≡ some 9
  -- (ours: the context of each 9: "the region's id", of the read also "the range")
  pub read_256_values : values_of (reply_at_first (Call.ReadPage (asking 256 512))) ≡ range 7 (position_of 256) (position_of 768)
  pub write_256_values : values_of (reply_at_first (Call.Write (asking 256 512))) ≡ region 7
  -- (ours: 8 is asked before 9, and 9 before 10, of a write whose offset is off the block)
  pub write_256_empty : number_of (reply_at_first (Call.Write (asking 256 0))) ≡ some 8
  pub write_1537 : number_of (reply_at_first (Call.Write (asking 1537 1024))) ≡ some 9
  pub write_last : number_of (reply_at_first (Call.Write (asking (2 ^ 64 - 1) 512))) ≡ some 9
  -- "*Length 0: 8."
  pub empty : number_of (reply_at_first (Call.Write (asking 512 0))) ≡ some 8
  -- "*One live, one ready: 3."
  pub live_and_ready : number_of (reply_after (Call.Write (asking 512 512) ∷ answers 0 512 ∷ Call.Write (in_buffer 1 (asking 512 512)) ∷ [])
      (Call.Write (in_buffer 2 (asking 512 512)))) ≡ some 3
  -- "Two pieces of 512, second answered 100: *the read ends 612"
  pub read_612 : reply_after (Call.ReadPage (asking 512 1024) ∷ answers 0 512 ∷ answers 0 100 ∷ []) Call.Take
      ≡ Reply.Took (record { tag = 70; outcome = Outcome.Read 612; buf = Back (record { buffer = 0; len = 612 }) })
  -- "*the write poisons"
  pub write_unknown : reply_after (Call.Write (asking 512 1024) ∷ answers 0 512 ∷ answers 0 100 ∷ []) Call.Take
      ≡ Reply.Took (record { tag = 70; outcome = Outcome.Unknown range_there by_write; buf = Back (record { buffer = 0; len = 1024 }) })
  pub poisons : reply_after (Call.Write (asking 512 1024) ∷ answers 0 512 ∷ answers 0 100 ∷ []) (Call.Write (in_buffer 1 (asking 512 512)))
      ≡ Reply.No (Refusal.Poisoned by_write)
  -- "*Generation 4,294,967,295 released: 0." (and ours: the generation after any number of rounds that the lifetime allows)
  pub opens_long : opens long_opening figures_plan figures_lengths ≡ true
  pub generation_after : (n : ℕ) → n ≤ 2 ^ 62 → (row_at (rounds n) 0).generation ≡ n % 2 ^ 32
  pub reaches_the_last : (row_at (rounds 4294967295) 0).generation ≡ 4294967295
  pub last_generation : (row_at (rounds 4294967296) 0).generation ≡ 0
  -- "*Flush result 0: not synced." (and ours: another is)
  pub not_synced : synced (reply_after (Call.SetForced 0 true ∷ Call.Write (durably (asking 512 512)) ∷ answers 0 512
      ∷ Call.Flushed 0 (Flushed.Need 0) ∷ []) Call.Take) ≡ some false
  pub synced_7 : synced (reply_after (Call.SetForced 0 true ∷ Call.Write (durably (asking 512 512)) ∷ answers 0 512 ∷ Call.Flushed 0 (Flushed.Need 7)
      ∷ []) Call.Take) ≡ some true
  -- ours: the flush that a durable write asks for, by its tag and the flush count plus one
  pub asks_flush : reply_after (Call.SetForced 0 true ∷ Call.Write (durably (asking 512 512)) ∷ []) (Call.Answer 0 (Answer.Count 512) true 6)
      ≡ Reply.Flush 0 7
  -- ours: a first piece refused keeps the generation and poisons nothing, a lost buffer is never accepted again
  pub refused_first : reply_after (Call.Write (asking 512 512) ∷ Call.Answer 0 Answer.Refused true 0 ∷ []) (Call.Write (asking 512 512))
      ≡ Reply.Piece 0 (offset_of 1536) 512 0
  pub lost_buffer : number_of (reply_after (Call.ReadPage (asking 512 512) ∷ Call.Answer 0 (Answer.Count 512) false 0 ∷ Call.Take ∷ [])
      (Call.ReadPage (asking 512 512))) ≡ some 11
  -- ours: 14, 15 and 16, in this order
  pub unknown_tag : number_of (reply_after [] (answers 0 5000)) ≡ some 14
  pub not_awaited : number_of (reply_after (Call.Write (asking 512 512) ∷ []) (Call.Flushed 0 (Flushed.Need 1))) ≡ some 15
  pub above_the_piece : number_of (reply_after (Call.Write (asking 512 1024) ∷ []) (answers 0 513)) ≡ some 16
