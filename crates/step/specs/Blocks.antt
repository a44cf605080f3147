-- Document 02, P6: "Cards now in use accept only whole blocks at block offsets." Such is every piece that a table issues, of a write or of a read,
-- first or later: its offset on the card and its count are multiples of the opening's block. After any admitted opening and any history, whatever the
-- card answered and whatever the host wrote. Proved in proofs/Blocks.antt (whole-blocks).
use Rattle.std.specs.Prelude.{◌≡◌, true, List, ℕ}
use Rattle.layout.specs.Block.{on_block}
use Rattle.regionmap.specs.declared.Offset.{Offset}
use Rattle.completion.specs.declared.Reply.TheVariants as Reply
use Rattle.step.specs.Run.{Event, reply_to, Start, after}

abbrev pub WholeBlocks : Type 0
WholeBlocks = (x : Start) (h : List Event) (e : Event) (t : ℕ) (offset : Offset) (count b : ℕ) → reply_to (after x h) e ≡ Reply.Piece t offset count b
    → (on_block x.opening.block offset.0 ≡ true) × (on_block x.opening.block count ≡ true)
