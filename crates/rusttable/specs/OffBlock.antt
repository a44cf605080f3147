-- A write off the block: the smallest input of docs/DIFFERENCES.md, and why the domain asks the offset of every write of a history. Document 02, P6:
-- "The Rust's `check` lets such a write pass". On the figures' opening a write of 512 at 256, then one of buffer 1 at 512. Here the first gets 9 and
-- changes nothing, and the second has row 0. In the Rust the first has row 0 and its piece is issued, and the second has row 1. The second call by
-- itself is in the domain; the history is not, and must not be: behind the two calls the tables differ. Proved in proofs/OffBlock.antt (off-block).
use Rattle.std.specs.Prelude.{◌≡◌, true, false, List, [], ◌∷◌, map, ℕ}
use Rattle.std.proofs.Math.Option.{Option, none, some}
use Rattle.regionmap.specs.Words.{offset_of}
use Rattle.completion.specs.declared.Context.TheVariants as Context
use Rattle.completion.specs.declared.Refusal.TheVariants as Refusal
use Rattle.completion.specs.declared.Reply.TheVariants as Reply
use Rattle.model.specs.declared.Call.{Call}
use Rattle.model.specs.Opening.{plans_in}
use Rattle.step.specs.Run.{Made.calls, Event, next, reply_to, run}
use Rattle.step.specs.Step.{step}
use Rattle.step.specs.Figures.{figures_opening, figures_plan, figures_lengths, figures_table, asking, in_buffer}
use Rattle.rusttable.specs.Table.{Submitter, Req, Req.WriteAt, Req.ReadAt, Issued, Issued.Submit, Issued.Reject}
use Rattle.rusttable.specs.Domain.{compared, known_handle, at_once, unjoined, InDomain}
use Rattle.rusttable.specs.Histories.{HandedBack, HandedBack.submits, HandedBack.finishes, HandedBack.takes}
use Rattle.rusttable.specs.Histories.{rust_opened, rust_run, handed, HistoryIn}
use Rattle.rusttable.specs.AsStep.{submitter_of}

-- the two calls; the host leaves the pool as it is
abbrev pub off_block : Call
off_block = Call.Write (asking 256 512)

abbrev pub then_on : Call
then_on = Call.Write (in_buffer 1 (asking 512 512))

abbrev pub quietly : Call → Event
quietly c = record { leaves = figures_table.pool; lengths = figures_lengths; made = calls c }

abbrev pub both : List Event
both = quietly off_block ∷ quietly then_on ∷ []

-- what the Rust does with them
unfoldable pub in_rust : Submitter × List HandedBack
in_rust = rust_run (rust_opened figures_opening (plans_in 1 figures_plan)) (handed false figures_table both)

-- a first piece that the Rust hands its queue: queue tag, card offset, length
unfoldable pub req_at : ℕ → Req → ℕ × ℕ × ℕ
req_at t (WriteAt offset buf) = (t, offset, buf.len)
req_at t (ReadAt offset buf) = (t, offset, buf.len)

unfoldable pub issued_at : Issued → Option (ℕ × ℕ × ℕ)
issued_at (Submit t req) = some (req_at t req)
issued_at (Reject r) = none

unfoldable pub first_piece_in : HandedBack → Option (ℕ × ℕ × ℕ)
first_piece_in (submits i) = issued_at i
first_piece_in (finishes f) = none
first_piece_in (takes c) = none

pub record OffBlock : Type 0 where
  -- here: 9 with the region's id, and nothing changes; then tag 0
  pub nine : reply_to figures_table (quietly off_block) ≡ Reply.No (Refusal.Misaligned (Context.Region 7))
  pub unchanged : next figures_table (quietly off_block) ≡ figures_table
  pub then_tag_0 : reply_to figures_table (quietly then_on) ≡ Reply.Piece 0 (offset_of 1536) 512 1
  -- the Rust: both are issued
  pub issued : map first_piece_in in_rust.1 ≡ some (0, 1280, 512) ∷ some (1, 1536, 512) ∷ []
  -- the first call has all that InDomain asks of a call but `blocks`; the second has all of it
  pub but_for_the_block : (compared (step figures_table figures_lengths off_block).1 ≡ true) × (known_handle figures_table off_block ≡ true)
      × (at_once none off_block ≡ true) × (unjoined figures_table.regions ≡ true)
  pub call_at_hand : InDomain none figures_table figures_lengths then_on
  -- so the history is not in the domain; and behind it the Rust's table is not the table's, whatever flush count it has
  pub outside : HistoryIn none figures_table both → ⊥
  pub differ : (flushes : ℕ) → in_rust.0 ≡ submitter_of (run figures_table both) flushes → ⊥
  -- no more is left out than that: a write whose length alone is off the block is in the domain, and so is a read off it (both get 9, AsStep)
  pub length_off_the_block : InDomain none figures_table figures_lengths (Call.Write (asking 512 100))
  pub read_off_the_block : InDomain none figures_table figures_lengths (Call.ReadPage (asking 256 512))
