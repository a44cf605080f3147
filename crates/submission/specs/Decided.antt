-- What the functions of a submission are promised to give, for tables whose parts lie in the words that they are lent.
use Rattle.std.specs.Prelude.{◌≡◌, ℕ, ◌+◌, true, List, slice_index}
use Rattle.regionmap.specs.declared.{FoundPiece.FoundPiece, Position.Position}
use Rattle.regionmap.specs.Words.{position_of}
use Rattle.regionmap.specs.Found.{wrap64}
use Rattle.model.specs.declared.{Counts.Counts, Request.Request, Row.Row, Kind.Kind}
use Rattle.step.specs.Step.{Verdict}
use Rattle.step.specs.Questions.{Asked}
use Rattle.std.specs.declared.result.Result.{Result}
use Rattle.model.specs.State.{State}
use Rattle.model.specs.Memory.{lengths_of, same_lengths, state_in}
use Rattle.step.specs.Sound.{Sound}
use Rattle.memory.specs.Piece.{PieceIn}
use Rattle.optable.specs.Called.{lent_of}

-- the map's piece for a request, of the region at its handle
abbrev pub FirstPiece : List ℕ → Request → FoundPiece → Type 0
FirstPiece store q r = PieceIn store q.handle q.offset.0 q.length r

-- where the range of a request ends, as a number of 64 bits
abbrev pub end_wrapped : Request → Position
end_wrapped q = position_of (wrap64 (q.offset.0 + q.length))

-- the verdict of the questions' answer, with the row on top of the free stack and the first piece
unfoldable pub verdict_with : Asked → ℕ → Kind → FoundPiece → Verdict
verdict_with (Result.Err f) row k p = Result.Err f
verdict_with (Result.Ok _) row k p = Result.Ok (record { row = row; kind = k; piece = p })

pub record DecidedBy (asked : Asked) (live : ℕ) (store free : List ℕ) (k : Kind) (q : Request) (v : Verdict) : Type 0 where
  pub first : FoundPiece
  pub found : asked ≡ Result.Ok tt → FirstPiece store q first
  pub verdict : v ≡ verdict_with asked (slice_index free live) k first

-- of every sound table whose parts lie in these words, once the lengths are found to be the opening's: what the definition says
abbrev pub Decides : (State → Request → Verdict) → Counts → List ℕ → List ℕ → List ℕ → Request → Verdict → Type 0
Decides verdict c store free owners q v =
    (rows : List Row) (ready pool : List ℕ) → same_lengths (lengths_of (lent_of rows store free ready owners pool)) store ≡ true
    → Sound (state_in c (lent_of rows store free ready owners pool))
    → v ≡ verdict (state_in c (lent_of rows store free ready owners pool)) q
