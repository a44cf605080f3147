-- "The domain of the comparison: histories without numbers 11 to 16 and without an unknown handle, in which a piece that the queue refuses is refused
-- before any other call."; and document 02, P6: "equality covers writes whose offset is a multiple of the block". Here: whether a call on a state is
-- in it, given the reply to the call before; a history is in it where every call is (Histories, HistoryIn). One premise goes beyond these sentences:
-- `unjoined`, that no further run of a map continues the run before it on the card.
use Rattle.std.specs.Prelude.{◌≡◌, Bool, true, false, not, ◌&&◌, List, [], ◌∷◌, ℕ, ◌+◌, ◌-◌, ltb, eqb}
use Rattle.std.proofs.Math.Option.{Option, none, some}
use Rattle.layout.specs.Pick.{pick}
use Rattle.layout.specs.Block.{on_block}
use Rattle.regionmap.specs.Map.{Run, first_run}
use Rattle.completion.specs.declared.Reply.{Reply}
use Rattle.completion.specs.Numbers.{number}
use Rattle.model.specs.declared.{Lengths.Lengths, Call.Call}
use Rattle.model.specs.State.{Region, State}
use Rattle.step.specs.Rules.{is_refusal}
use Rattle.step.specs.Step.{step}

-- "without numbers 11 to 16": the reply is not turned away, or by a number up to 10. A count above the piece is 16, an answer or a flush result that
-- the row does not await 15, one for no live row 14, another length 13, a lifetime that is spent 12, a buffer that the host does not hold 11: the
-- Rust has none of them.
unfoldable pub compared : Reply → Bool
compared (Reply.Piece qtag offset count buffer) = true
compared (Reply.No f) = ltb (number f) 11
compared (Reply.Rejected range op raw buf) = true
compared (Reply.Done qtag) = true
compared (Reply.Flush qtag need) = true
compared (Reply.Took c) = true
compared Reply.None = true
compared Reply.Ok = true
compared (Reply.Writes b) = true
compared (Reply.Mark n) = true

-- "without an unknown handle"
unfoldable pub known_handle : State → Call → Bool
known_handle s (Call.Write q) = ltb q.handle s.settings.regions
known_handle s (Call.ReadPage q) = ltb q.handle s.settings.regions
known_handle s (Call.Answer qtag a back flushes) = true
known_handle s (Call.Flushed qtag result) = true
known_handle s Call.Take = true
known_handle s (Call.SetGate h x) = ltb h s.settings.regions
known_handle s (Call.SetReadOnly h x) = ltb h s.settings.regions
known_handle s (Call.SetForced h x) = ltb h s.settings.regions
known_handle s (Call.ReportPoison cause) = true

unfoldable pub is_tag : Option ℕ → ℕ → Bool
is_tag none t = false
is_tag (some u) t = eqb u t

-- "a piece that the queue refuses is refused before any other call": the call before issued it
unfoldable pub at_once : Option ℕ → Call → Bool
at_once before (Call.Write q) = true
at_once before (Call.ReadPage q) = true
at_once before (Call.Answer qtag a back flushes) = pick (is_refusal a) (is_tag before qtag) true
at_once before (Call.Flushed qtag result) = true
at_once before Call.Take = true
at_once before (Call.SetGate h x) = true
at_once before (Call.SetReadOnly h x) = true
at_once before (Call.SetForced h x) = true
at_once before (Call.ReportPoison cause) = true

-- "The Rust's `check` lets such a write pass, which goes into the record of differences; equality covers writes whose offset is a multiple of the
-- block." (P6): of every write, also of one that another question turns away
unfoldable pub write_offset_on_block : State → Call → Bool
write_offset_on_block s (Call.Write q) = on_block s.settings.block q.offset.0
write_offset_on_block s (Call.ReadPage q) = true
write_offset_on_block s (Call.Answer qtag a back flushes) = true
write_offset_on_block s (Call.Flushed qtag result) = true
write_offset_on_block s Call.Take = true
write_offset_on_block s (Call.SetGate h x) = true
write_offset_on_block s (Call.SetReadOnly h x) = true
write_offset_on_block s (Call.SetForced h x) = true
write_offset_on_block s (Call.ReportPoison cause) = true

-- No further run of a map continues the run before it on the card. The Rust has no other maps: `RegionMap::from_extents` and `extend` join such runs,
-- and then one piece is issued where document 01's map issues two (docs/DIFFERENCES.md). Smallest input: the figures' opening with the further run
-- (1,024, 2,048), and `w 0 512 1024 0 70`.
unfoldable pub unjoined_from : Run → List Run → Bool
unjoined_from r [] = true
unjoined_from r (x ∷ xs) = not (eqb x.offset (r.offset + (x.start - r.start))) && unjoined_from x xs

unfoldable pub unjoined : List Region → Bool
unjoined [] = true
unjoined (g ∷ gs) = unjoined_from (first_run g.map) g.map.more && unjoined gs

-- a call is in the domain, where the reply to the call before issued a piece under the tag `before`, or none
pub record InDomain (before : Option ℕ) (s : State) (l : Lengths) (c : Call) : Type 0 where
  pub numbers : compared (step s l c).1 ≡ true
  pub handle : known_handle s c ≡ true
  pub refusal : at_once before c ≡ true
  pub maps : unjoined s.regions ≡ true
  pub blocks : write_offset_on_block s c ≡ true
