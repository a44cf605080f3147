-- Of an operation that goes on: what is asked of the host next is what the step asks.
use Rattle.std.proofs.Common.{◌≡◌, ℕ, ◌^◌, ◌<◌, true, List, ◌∙◌, subst, mod-eq_of_lt, arith}
use Rattle.regionmap.specs.Found.{wrap64}
use Rattle.completion.specs.declared.Reply.{Reply}
use Rattle.completion.specs.declared.Reply.TheVariants.{Piece as piece}
use Rattle.model.specs.declared.Counts.{Counts}
use Rattle.model.specs.declared.Kind.{Kind}
use Rattle.model.specs.declared.Kind.TheVariants.{Page, Read}
use Rattle.model.specs.declared.Split.{Split}
use Rattle.model.specs.declared.Awaits.{Awaits}
use Rattle.model.specs.declared.Awaits.TheVariants.{Nothing, Piece, Flush}
use Rattle.model.specs.declared.Row.{Row}
use Rattle.model.specs.State.{State}
use Rattle.model.specs.Memory.{lengths_of, same_lengths, settings_in, state_in}
use Rattle.step.specs.Questions.{byte_at, region_at}
use Rattle.step.specs.Rules.{left_of, first_of, piece_of, piece_length, range_end}
use Rattle.step.specs.Step.{plan_of, asks_for}
use Rattle.step.specs.Sound.{Sound, InTable, SplitFits}
use Rattle.step.proofs.Fates.{Onward}
use Rattle.optable.specs.Called.{lent_of}
use Rattle.memory.specs.Piece.{PieceIn}
use Rattle.memory.proofs.Found.{piece_there}
use Rattle.arrival.specs.Carried.{AsksPiece, AsksFor}

-- where the next piece starts there are bytes left of the range
pub starts_inside : (k : Kind) (s : Split) → SplitFits (Piece k s) → byte_at (first_of k).0 s.done < range_end (Piece k s)
unfolding SplitFits range_end first_of
starts_inside (Page a b) s f = let e = f.0 in let lt = f.1 in omega (arith, e, lt)
starts_inside (Read a b) s f = let e = f.0 in let lt = f.1 in omega (arith, e, lt)

module _ (c : Counts) (rows : List Row) (store free ready owners pool : List ℕ) (i : Sound (state_in c (lent_of rows store free ready owners pool)))
    (same : same_lengths (lengths_of (lent_of rows store free ready owners pool)) store ≡ true) (t : ℕ) (row : Row) where
  abbrev s : State
  s = state_in c (lent_of rows store free ready owners pool)

  module _ (in_table : InTable s row) (small : range_end row.awaits < 2 ^ 64) where
    region : row.handle < (settings_in store).regions
    unfolding state_in
    region = in_table.region

    module _ (k : Kind) (sp : Split) (on : Onward s.settings (region_at s row.handle) row.awaits (Piece k sp)) where
      abbrev p : ℕ
      p = byte_at (first_of k).0 sp.done

      far : p < range_end row.awaits
      far = let inside = starts_inside k sp (on.split in_table.split) in let end = on.end in omega (arith, inside, end)

      on_map : p < (region_at s row.handle).map.capacity
      on_map =
          let near = far in
          let behind = in_table.in_data_lem in
          let within = (i.each row.handle in_table.region).lawful.within in
          omega (arith, near, behind, within)

      wraps : wrap64 p ≡ p
      unfolding wrap64
      wraps = let near = far in mod-eq_of_lt (omega (arith, near, small))

      piece_asked : (reply : Reply) → AsksPiece store row t k sp reply → reply ≡ asks_for (plan_of (region_at s row.handle)) t row.buffer (Piece k sp)
      unfolding asks_for piece_length piece_of plan_of
      piece_asked reply asks =
          let is = subst (λ (x : ℕ). PieceIn store row.handle x (left_of sp) asks.found) wraps asks.is in
          let e = piece_there c (lent_of rows store free ready owners pool) i same row.handle region p (left_of sp) on_map asks.found is in
          asks.reply ∙ (λ j. piece t (e j).offset (e j).count row.buffer)

    pub asked : (a : Awaits) → Onward s.settings (region_at s row.handle) row.awaits a → (reply : Reply) → AsksFor store row t a reply
        → reply ≡ asks_for (plan_of (region_at s row.handle)) t row.buffer a
    unfolding AsksFor asks_for
    asked Nothing on reply asks = asks
    asked (Piece k sp) on reply asks = piece_asked k sp on reply asks
    asked (Flush ticket) on reply asks = asks
