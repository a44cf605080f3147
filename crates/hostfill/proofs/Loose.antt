-- Of an open table: what the code finds of a row and of a buffer's owner is the state's.
use mathlib.Core.Path.{◌≡◌, refl, sym, ap, ◌∙◌, subst}
use mathlib.Core.Bool.{Bool, true, false, ◌&&◌}
use mathlib.Core.List.{List}
use Prim.Native.Nat.{ℕ, ◌≤◌, ◌<◌, ◌^◌}
use lib.ListN.{get_or}
use lib.Dec.{leb, eqb}
use borrow.Author.Tests.{eq-eqb, ne_eqb}
use Rattle.model.specs.declared.Counts.{Counts}
use Rattle.model.specs.declared.Kind.{Kind}
use Rattle.model.specs.declared.Kind.TheVariants.{Page, Read}
use Rattle.model.specs.declared.Split.{Split}
use Rattle.model.specs.declared.Awaits.{Awaits}
use Rattle.model.specs.declared.Awaits.TheVariants.{Nothing, Piece, Flush}
use Rattle.model.specs.declared.Row.{Row}
use Rattle.model.specs.State.{State, freed, awaiting}
use Rattle.model.specs.Memory.{Lent, settings_in, state_in}
use Rattle.step.specs.Questions.{byte_at, region_at}
use Rattle.step.specs.Rules.{left_of, piece_length, first_of, range_end}
use Rattle.step.specs.Step.{row_at, plan_of}
use Rattle.step.specs.Sound.{InTable, SplitFits}
use Rattle.step.specs.Lists.{loose, plan_at}
use Rattle.optable.specs.Called.{lent_of}
use Rattle.memory.specs.Live.{live_of}
use Rattle.settle.specs.Finished.{plan_with, PieceFits}
use Rattle.arrival.specs.UnderWay.{PieceUnderWay, UnderWay}
use Rattle.arrival.proofs.Turned.{row_at_lem}
use Rattle.arrival.proofs.Fitting.{under_way_fits}
use Rattle.regionmap.specs.declared.Position.{Position}
use Rattle.regionmap.specs.declared.FoundPiece.{FoundPiece}
use Rattle.regionmap.specs.Found.{wrap64}
use Rattle.memory.specs.Piece.{PieceIn}
use Rattle.hostfill.specs.MayFill.{reads, loose_row, Open, Covers}

-- a row in another buffer, or one that awaits no read's piece
pub other_buffer : (s : State) (b end : ℕ) (row : Row) → (row.buffer ≡ b → ⊥) → false ≡ loose_row s b end row
unfolding loose_row
other_buffer s b end row ne = sym (ap (λ (t : Bool). t && (reads row.awaits && leb end (loose (plan_at s row) row.awaits))) (ne_eqb row.buffer b ne))

and_false : (a : Bool) → (a && false) ≡ false
and_false true = refl
and_false false = refl

pub no_read : (s : State) (b end : ℕ) (row : Row) → reads row.awaits ≡ false → false ≡ loose_row s b end row
unfolding loose_row
no_read s b end row e = sym (ap (λ (t : Bool). eqb row.buffer b && (t && leb end (loose (plan_at s row) row.awaits))) e ∙ and_false (eqb row.buffer b))

-- what awaits no piece awaits none of a read
pub no_piece : (a : Awaits) → ((k : Kind) (s : Split) → a ≡ Piece k s → ⊥) → reads a ≡ false
unfolding reads
no_piece Nothing w = refl
no_piece (Piece k s) w = absurd (w k s refl)
no_piece (Flush t) w = refl

-- what the piece found covers
module _ (store : List ℕ) (h : ℕ) (k : Kind) (sp : Split) (end : ℕ) where
  pub page_covers : (a z : Position) → k ≡ Page a z → Covers store h k sp end false
  unfolding Covers
  page_covers a z e = subst (λ (x : Kind). Covers store h x sp end false) (sym e) refl

  pub read_covers : (a z : Position) → k ≡ Read a z → (found : FoundPiece) → PieceIn store h (wrap64 (byte_at (first_of k).0 sp.done)) (left_of sp) found → Covers store h k sp end (leb end found.count)
  unfolding Covers
  read_covers a z e found is =
      subst (λ (x : Kind). Covers store h x sp end (leb end found.count)) (sym e)
      (record { piece = found.count; under_way = subst (λ (x : Kind). PieceUnderWay store h x sp found.count) e (record { found = found; is = is; length = refl }); covers = refl })

module _ (c : Counts) (rows : List Row) (store free ready owners pool : List ℕ) (is_open : Open c (lent_of rows store free ready owners pool)) (i : ℕ) (below : i < (settings_in store).depth)
    (row : Row) (found : row ≡ get_or rows i (freed 0)) where
  abbrev l : Lent
  l = lent_of rows store free ready owners pool

  abbrev s : State
  s = state_in c l

  at : row ≡ row_at s i
  at = found ∙ row_at_lem c l i below

  below_depth : i < s.settings.depth
  unfolding state_in
  below_depth = below

  module _ (k : Kind) (sp : Split) (e : row.awaits ≡ Piece k sp) where
    there : InTable s row
    unfolding awaiting
    there = subst (InTable s) (sym at) (is_open.sound.in_table i below_depth (ap (λ (x : Row). awaiting x.awaits) (sym at) ∙ ap awaiting e))

    among : row.handle < (settings_in store).regions
    unfolding state_in
    among = there.region

    -- the piece found is the one under way
    piece_is : range_end row.awaits < 2 ^ 64 → (n : ℕ) → PieceUnderWay store row.handle k sp n → n ≡ piece_length (plan_at s row) k sp
    unfolding PieceFits UnderWay piece_length plan_with plan_at plan_of live_of
    piece_is small n u =
        (under_way_fits c rows store free ready owners pool is_open.sound is_open.lengths row.handle among there.region (live_of (region_at s row.handle)) n (Piece k sp)
        (subst SplitFits e there.split) (subst (λ (a : Awaits). range_end a ≤ (region_at s row.handle).map.data_length) e there.in_data_lem) (subst (λ (a : Awaits). range_end a < 2 ^ 64) e small)
        u (is_open.sound.each row.handle there.region).generation).0

    by_kind : (k' : Kind) → k ≡ k' → (b end : ℕ) → row.buffer ≡ b → range_end row.awaits < 2 ^ 64 → (r : Bool) → Covers store row.handle k' sp end r → r ≡ loose_row s b end row
    unfolding Covers loose_row reads loose
    by_kind (Page a z) p b end same small r covers =
        covers ∙ no_read s b end row (ap reads (e ∙ ap (λ (x : Kind). Piece x sp) p))
    by_kind (Read a z) p b end same small r covers =
        let is : row.awaits ≡ Piece (Read a z) sp = e ∙ ap (λ (x : Kind). Piece x sp) p in
        let u : PieceUnderWay store row.handle k sp covers.piece = subst (λ (x : Kind). PieceUnderWay store row.handle x sp covers.piece) (sym p) covers.under_way in
        let n-is = piece_is small covers.piece u in
        covers.covers ∙ ap (leb end) (n-is ∙ ap (λ (x : Kind). piece_length (plan_at s row) x sp) p)
        ∙ sym (ap (λ (x : Awaits). reads x && leb end (loose (plan_at s row) x)) is)
        ∙ sym (ap (λ (t : Bool). t && (reads row.awaits && leb end (loose (plan_at s row) row.awaits))) (eq-eqb row.buffer b same))

    pub piece_row : (b end : ℕ) → row.buffer ≡ b → range_end row.awaits < 2 ^ 64 → (r : Bool) → Covers store row.handle k sp end r → r ≡ loose_row s b end row
    piece_row = by_kind k refl
