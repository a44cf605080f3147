-- Of a sound table: the piece under way that the code finds is the map's, and what is done with it a number of 64 bits.
use Rattle.std.proofs.Common.{◌≡◌, ℕ, ◌+◌, ◌^◌, ◌<◌, ◌≤◌, true, List, ap, ◌∙◌, subst, mod-eq_of_lt, arith}
use Rattle.regionmap.specs.declared.FoundPiece.{FoundPiece}
use Rattle.regionmap.specs.Map.{Map}
use Rattle.regionmap.specs.Found.{wrap64}
use Rattle.regionmap.proofs.Laws.{map_laws}
use Rattle.model.specs.declared.Counts.{Counts}
use Rattle.model.specs.declared.Kind.{Kind}
use Rattle.model.specs.declared.Kind.TheVariants.{Page, Read}
use Rattle.model.specs.declared.Split.{Split}
use Rattle.model.specs.declared.Awaits.{Awaits}
use Rattle.model.specs.declared.Awaits.TheVariants.{Nothing, Piece, Flush}
use Rattle.model.specs.declared.Row.{Row}
use Rattle.model.specs.State.{State}
use Rattle.model.specs.Memory.{lengths_of, same_lengths, settings_in, state_in}
use Rattle.step.specs.Questions.{byte_at, region_at}
use Rattle.step.specs.Rules.{left_of, first_of, piece_of, piece_length, range_end}
use Rattle.step.specs.Sound.{Sound, SplitFits}
use Rattle.optable.specs.Called.{lent_of}
use Rattle.memory.specs.declared.liveregion.LiveRegion.{LiveRegion}
use Rattle.memory.specs.Piece.{PieceIn}
use Rattle.memory.proofs.Found.{piece_there}
use Rattle.settle.specs.Finished.{plan_with, PieceFits}
use Rattle.arrival.specs.UnderWay.{PieceUnderWay, UnderWay}
use Rattle.arrival.proofs.Replies.{starts_inside}

-- bytes are left, and the total is within the range's end
split_left : (k : Kind) (s : Split) → SplitFits (Piece k s) → s.done < s.total
unfolding SplitFits
split_left (Page a b) s f = f.1
split_left (Read a b) s f = f.1

split_end : (k : Kind) (s : Split) → SplitFits (Piece k s) → s.total ≤ range_end (Piece k s)
unfolding SplitFits range_end
split_end (Page a b) s f = let e = f.0 in omega (arith, e)
split_end (Read a b) s f = let e = f.0 in omega (arith, e)

module _ (c : Counts) (rows : List Row) (store free ready owners pool : List ℕ) (i : Sound (state_in c (lent_of rows store free ready owners pool)))
    (same : same_lengths (lengths_of (lent_of rows store free ready owners pool)) store ≡ true) (h : ℕ) where
  abbrev s : State
  s = state_in c (lent_of rows store free ready owners pool)

  abbrev m : Map
  m = (region_at s h).map

  module _ (region : h < (settings_in store).regions) (among : h < s.settings.regions) (g : LiveRegion) (n : ℕ) where
    piece_fits : (k : Kind) (sp : Split) → SplitFits (Piece k sp) → range_end (Piece k sp) ≤ m.data_length → range_end (Piece k sp) < 2 ^ 64 → PieceUnderWay store h k sp n
        → g.generation < 2 ^ 32
        → (n ≡ piece_length (plan_with g m) k sp) × (sp.done + n < 2 ^ 64) × (g.generation < 2 ^ 32)
    unfolding piece_length piece_of plan_with wrap64
    piece_fits k sp split in_data_lem small u short =
        let p = byte_at (first_of k).0 sp.done in
        let left = left_of sp in
        let lawful = (i.each h among).lawful in
        let within = lawful.within in
        let inside = starts_inside k sp split in
        let some = split_left k sp split in
        let end = split_end k sp split in
        let on_data : p < m.data_length = omega (arith, inside, in_data_lem) in
        let wraps : wrap64 p ≡ p = mod-eq_of_lt (omega (arith, inside, small)) in
        let is = subst (λ (x : ℕ). PieceIn store h x left u.found) wraps u.is in
        let e = u.length ∙ ap (λ (x : FoundPiece). x.count) (piece_there c (lent_of rows store free ready owners pool) i same h region p left (omega (arith, on_data, within)) u.found is) in
        let most = (map_laws.one_piece m lawful p left (omega (arith, some)) on_data).most in
        (e, omega (arith, e, most, some, end, small), short)

    pub under_way_fits : (a : Awaits) → SplitFits a → range_end a ≤ m.data_length → range_end a < 2 ^ 64 → UnderWay store h a n → g.generation < 2 ^ 32 → PieceFits g m n a
    unfolding UnderWay PieceFits
    under_way_fits Nothing split in_data_lem small u short = tt
    under_way_fits (Piece k sp) split in_data_lem small u short = piece_fits k sp split in_data_lem small u short
    under_way_fits (Flush t) split in_data_lem small u short = tt
