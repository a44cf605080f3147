-- One byte of the card under one call: a write's piece changes only bytes that its operation's range is mapped to, and what it writes there are the bytes of
-- the operation alone.
use mathlib.Core.Path.{◌≡◌, refl, sym, ap, ◌∙◌, subst}
use mathlib.Core.Bool.{Bool, true, false}
use mathlib.Core.Option.{Option, none}
use mathlib.Core.List.{List}
use Prim.Native.Nat.{ℕ, ◌+◌, ◌≤◌, ◌<◌}
use native.Mathlib.Nat.{add_assoc}
use native.Mathlib.Omega.{arith}
use lib.ListN.{take, drop, length-take}
use Rattle.layout.specs.Pick.{pick}
use Rattle.regionmap.specs.declared.Position.{Position}
use Rattle.regionmap.specs.Map.{Map, place, piece_size}
use Rattle.regionmap.specs.Laws.{OnePiece}
use Rattle.regionmap.proofs.Laws.{map_laws}
use Rattle.posix.specs.Posix.{Card, pwrite}
use Rattle.posix.proofs.Laws.{transfer_laws}
use Rattle.model.specs.declared.Kind.TheVariants.{Page, Read}
use Rattle.model.specs.declared.Split.{Split}
use Rattle.model.specs.declared.Awaits.{Awaits}
use Rattle.model.specs.declared.Awaits.TheVariants.{Nothing, Piece, Flush}
use Rattle.model.specs.declared.Row.{Row}
use Rattle.model.specs.State.{State}
use Rattle.model.specs.Opening.{Plan}
use Rattle.step.specs.Questions.{byte_at, region_at}
use Rattle.step.specs.Rules.{left_of, Input, first_of, piece_of, piece_length, range_start, range_end}
use Rattle.step.specs.Step.{row_at, is_live, plan_of}
use Rattle.step.specs.Sound.{SplitFits, InTable, Sound}
use Rattle.step.specs.Lists.{loose, plan_at, takes_whole, wrote_by}
use Rattle.step.specs.Demand3.{Mapped, is_write}
use Rattle.step.specs.Demand2.{InPiece, BeingWritten}
use Rattle.step.proofs.Picked.{by_pick}
use Rattle.step.proofs.ProjectionHost.{live_in_table}

-- ---- of what else a byte follows

-- of the card's byte there, and of no other
pub wrote_byte : (g : Plan) (a : Awaits) (bytes : List ℕ) (i : Option Input) (card : Card) (y : ℕ) → wrote_by g a bytes i card y ≡ wrote_by g a bytes i (λ z. card y) y
unfolding wrote_by pwrite pick
wrote_byte g Nothing bytes i card y = refl
wrote_byte g (Piece (Page a b) s) bytes i card y = by_test (takes_whole (piece_length g (Page a b) s) i)
  where
    by_test : (t : Bool)
        → pick t (pwrite card (place g.map (byte_at a.0 s.done)) (take (piece_length g (Page a b) s) bytes)) card y
        ≡ pick {A = Card} t (pwrite (λ z. card y) (place g.map (byte_at a.0 s.done)) (take (piece_length g (Page a b) s) bytes)) (λ z. card y) y
    by_test true = refl
    by_test false = refl
wrote_byte g (Piece (Read a b) s) bytes i card y = refl
wrote_byte g (Flush t) bytes i card y = refl

-- of a write's bytes, which the host may not change
pub wrote_alike : (g : Plan) (a : Awaits) (bytes bytes' : List ℕ) (i : Option Input) (card : Card) → drop (loose g a) bytes ≡ drop (loose g a) bytes' → wrote_by g a bytes i card ≡ wrote_by g a bytes' i card
unfolding wrote_by loose
wrote_alike g Nothing bytes bytes' i card e = refl
wrote_alike g (Piece (Page a b) s) bytes bytes' i card e =
    ap (λ (bs : List ℕ). pick (takes_whole (piece_length g (Page a b) s) i) (pwrite card (place g.map (byte_at a.0 s.done)) (take (piece_length g (Page a b) s) bs)) card) e
wrote_alike g (Piece (Read a b) s) bytes bytes' i card e = refl
wrote_alike g (Flush t) bytes bytes' i card e = refl

-- of an answer
pub wrote_none : (g : Plan) (a : Awaits) (bytes : List ℕ) (card : Card) → wrote_by g a bytes none card ≡ card
unfolding wrote_by takes_whole pick
wrote_none g Nothing bytes card = refl
wrote_none g (Piece (Page a b) s) bytes card = refl
wrote_none g (Piece (Read a b) s) bytes card = refl
wrote_none g (Flush t) bytes card = refl

-- ---- a byte that an operation's range is not mapped to

-- what the range of a write's piece needs
module _ (s : State) (i : Sound s) (r : Row) (t : InTable s r) (a b : Position) (sp : Split) (at : r.awaits ≡ Piece (Page a b) sp) where
  abbrev m : Map
  m = (region_at s r.handle).map

  split : (a.0 + sp.total ≡ b.0) × (sp.done < sp.total)
  unfolding SplitFits
  split = subst SplitFits at t.split

  in_data_lem : b.0 ≤ m.data_length
  unfolding range_end
  in_data_lem = subst (λ (w : Awaits). range_end w ≤ m.data_length) at t.in_data_lem

  one_piece : OnePiece m (byte_at a.0 sp.done) (left_of sp)
  one_piece = map_laws.one_piece m (i.each r.handle t.region).lawful (byte_at a.0 sp.done) (left_of sp) (let z = split in omega arith) (let z = split in let d = in_data_lem in omega arith)

  -- a byte of the piece is one that its range is mapped to
  in_range_lem : (j : ℕ) → j < piece_size m (byte_at a.0 sp.done) (left_of sp) → (y : ℕ) → place m (byte_at a.0 sp.done) + j ≡ y → Mapped s r y
  unfolding range_start range_end
  in_range_lem j lt y e = record {
    i = sp.done + j;
    inside =
        subst (λ (w : Awaits). range_start w + (sp.done + j) < range_end w) (sym at) (let z = split in let p = one_piece.most in omega (arith, z, p, lt));
    at =
        subst (λ (w : Awaits). place m (range_start w + (sp.done + j)) ≡ y) (sym at)
        (ap (place m) (sym (add_assoc a.0 sp.done j)) ∙ one_piece.consecutive j lt ∙ e);
  }

-- ---- a byte beside the piece under way

pub wrote_beside : (g : Plan) (w : Awaits) (bytes : List ℕ) (i : Option Input) (card : Card) (y : ℕ) → (BeingWritten g w y → ⊥) → wrote_by g w bytes i card y ≡ card y
unfolding wrote_by BeingWritten first_of
wrote_beside g Nothing bytes i card y n = refl
wrote_beside g (Piece (Page a b) sp) bytes i card y n =
    let size = piece_length g (Page a b) sp in
    by_pick (takes_whole size i) (λ (after : Card). after y ≡ card y)
    (λ taken. transfer_laws.others card (place g.map (byte_at a.0 sp.done)) (take size bytes) y (λ j lt e. n (record { j = j; inside = omega (arith, lt, length-take size bytes); at = e })))
    (λ not. refl)
wrote_beside g (Piece (Read a b) sp) bytes i card y n = refl
wrote_beside g (Flush t) bytes i card y n = refl

-- so is a byte that the operation's range is not mapped to
pub wrote_away : (s : State) → Sound s → (k : ℕ) (bytes : List ℕ) (i : Option Input) (card : Card) (y : ℕ) → (is_write (row_at s k).awaits ≡ true → Mapped s (row_at s k) y → ⊥)
    → wrote_by (plan_at s (row_at s k)) (row_at s k).awaits bytes i card y ≡ card y
wrote_away s sound k bytes i card y n = wrote_beside (plan_at s (row_at s k)) (row_at s k).awaits bytes i card y (by_awaits (row_at s k).awaits refl)
  where
    by_awaits : (w : Awaits) → (row_at s k).awaits ≡ w → BeingWritten (plan_at s (row_at s k)) w y → ⊥
    by_awaits Nothing e z = unfold BeingWritten in z
    by_awaits (Piece (Page a b) sp) e z =
        let it : InPiece (plan_at s (row_at s k)) (Page a b) sp y = unfold BeingWritten in z in
        n (unfold is_write in ap is_write e)
        (unfold piece_length piece_of plan_at plan_of first_of in in_range_lem s sound (row_at s k) (live_in_table s sound k (unfold is_live in ap is_live e)) a b sp e it.j it.inside y it.at)
    by_awaits (Piece (Read a b) sp) e z = unfold BeingWritten in z
    by_awaits (Flush t) e z = unfold BeingWritten in z
