-- What a row awaits, by the arm that the code takes.
use Rattle.std.proofs.Common.{◌≡◌, ℕ, Bool, ◌&&◌, List, sym, refl, subst}
use Rattle.regionmap.specs.declared.FoundPiece.{FoundPiece}
use Rattle.regionmap.specs.Found.{wrap64}
use Rattle.model.specs.declared.Kind.{Kind}
use Rattle.model.specs.declared.Split.{Split}
use Rattle.model.specs.declared.Awaits.{Awaits}
use Rattle.model.specs.declared.Awaits.TheVariants.{Nothing, Piece, Flush}
use Rattle.step.specs.Rules.{left_of, first_of}
use Rattle.step.specs.Step.{is_live}
use Rattle.memory.specs.Piece.{PieceIn}
use Rattle.arrival.specs.UnderWay.{UnderWay}
use Rattle.step.specs.Questions.{byte_at}

-- a row that awaits something is live: a test beside it decides
pub awaited : (a : Awaits) (current : Bool) → (a ≡ Nothing → ⊥) → current ≡ (is_live a && current)
unfolding is_live
awaited Nothing current w = absurd (w refl)
awaited (Piece k s) current w = refl
awaited (Flush t) current w = refl

module _ (store : List ℕ) (h : ℕ) where
  -- the piece that was found is the one under way
  pub piece_under_way : (a : Awaits) (k : Kind) (s : Split) → a ≡ Piece k s → (found : FoundPiece) → PieceIn store h (wrap64 (byte_at (first_of k).0 s.done)) (left_of s) found
      → UnderWay store h a found.count
  unfolding UnderWay
  piece_under_way a k s e found is = subst (λ (x : Awaits). UnderWay store h x found.count) (sym e) (record { found = found; is = is; length = refl })

  -- where no piece is awaited its length is 0
  pub none_under_way : (a : Awaits) → ((k : Kind) (s : Split) → a ≡ Piece k s → ⊥) → UnderWay store h a 0
  unfolding UnderWay
  none_under_way Nothing w = refl
  none_under_way (Piece k s) w = absurd (w k s refl)
  none_under_way (Flush t) w = refl
