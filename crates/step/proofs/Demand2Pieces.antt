-- The pieces of a range are its first and those of the rest: the map's list of them asks only that it may be as long as the bytes left, since each piece takes a byte
-- at least.
use mathlib.Core.Path.{◌≡◌, refl, sym, ap, ◌∙◌}
use mathlib.Core.List.{List, [], ◌∷◌}
use Prim.Native.Nat.{ℕ, zero, suc, ◌+◌, ◌-◌, ◌≤◌, ◌<◌}
use native.Mathlib.Omega.{arith}
use Rattle.regionmap.specs.Map.{Map, piece_size, Piece, pieces_up_to, pieces}
use Rattle.regionmap.specs.Laws.{Lawful, OnePiece}
use Rattle.regionmap.proofs.Laws.{map_laws}

none_left : (m : Map) (k p : ℕ) → pieces_up_to k m p 0 ≡ []
unfolding pieces_up_to
none_left m zero p = refl
none_left m (suc k) p = refl

pub no_piece : (m : Map) (p n : ℕ) → n ≡ 0 → pieces m p n ≡ []
unfolding pieces
no_piece m p n none = ap (pieces m p) none ∙ none_left m 0 p

module _ (m : Map) (law : Lawful m) where
  enough : (j k p left : ℕ) → left ≤ j → left ≤ k → p + left ≤ m.data_length → pieces_up_to j m p left ≡ pieces_up_to k m p left
  unfolding pieces_up_to
  enough zero k p zero a b within = sym (none_left m k p)
  enough zero k p (suc l) a b within = absurd (omega (arith, a))
  enough (suc j) zero p zero a b within = refl
  enough (suc j) zero p (suc l) a b within = absurd (omega (arith, b))
  enough (suc j) (suc k) p zero a b within = refl
  enough (suc j) (suc k) p (suc l) a b within =
      let c = piece_size m p (suc l) in
      let one : OnePiece m p (suc l) = map_laws.one_piece m law p (suc l) (omega arith) (omega (arith, within)) in
      ap (λ (more : List Piece). record { position = p; count = c } ∷ more)
      (enough j k (p + c) (suc l - c) (omega (arith, a, one.some)) (omega (arith, b, one.some)) (omega (arith, within, one.most)))

  pub first_piece : (p n : ℕ) → 0 < n → p + n ≤ m.data_length → pieces m p n ≡ record { position = p; count = piece_size m p n } ∷ pieces m (p + piece_size m p n) (n - piece_size m p n)
  unfolding pieces pieces_up_to
  first_piece p zero lt within = absurd (omega (arith, lt))
  first_piece p (suc l) lt within =
      let c = piece_size m p (suc l) in
      let one : OnePiece m p (suc l) = map_laws.one_piece m law p (suc l) lt (omega (arith, within)) in
      ap (λ (more : List Piece). record { position = p; count = c } ∷ more) (enough l (suc l - c) (p + c) (suc l - c) (omega (arith, one.some)) (omega arith) (omega (arith, within, one.most)))
