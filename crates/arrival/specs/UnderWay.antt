-- The length of the piece under way, found in the region's words, and what becomes of the operation with it.
use Rattle.std.specs.Prelude.{◌≡◌, ℕ, ◌+◌, ◌-◌, ◌≤◌, Bool, true, false, ◌&&◌, List, length, nat_lt}
use Rattle.regionmap.specs.declared.FoundPiece.{FoundPiece}
use Rattle.regionmap.specs.Map.{Map}
use Rattle.regionmap.specs.Found.{wrap64}
use Rattle.std.specs.declared.option.Option.{Option}
use Rattle.domain.specs.declared.FirstCause.{FirstCause}
use Rattle.platform.specs.declared.{Answer.Answer, Flushed.Flushed}
use Rattle.completion.specs.declared.Refusal.TheVariants as Refusal
use Rattle.model.specs.declared.{Opening.Opening, Kind.Kind, Split.Split, Awaits.Awaits, Row.Row}
use Rattle.model.specs.Opening.{Plan, HEAD}
use Rattle.model.specs.Memory.{poison_in}
use Rattle.step.specs.Rules.{Input.answered, Input.flushed, first_of, rules}
use Rattle.step.specs.Step.{row_of, names}
use Rattle.memory.specs.declared.liveregion.LiveRegion.{LiveRegion}
use Rattle.memory.specs.Piece.{PieceIn}
use Rattle.settle.specs.declared.Finished.{Finished}
use Rattle.settle.specs.Finished.{plan_with, PieceFits, Tells}

pub record PieceUnderWay (store : List ℕ) (h : ℕ) (k : Kind) (s : Split) (n : ℕ) : Type 0 where
  pub found : FoundPiece
  pub is : PieceIn store h (wrap64 ((first_of k).0 + s.done)) (s.total - s.done) found
  pub length : n ≡ found.count

unfoldable pub UnderWay : List ℕ → ℕ → Awaits → ℕ → Type 0
UnderWay store h Awaits.Nothing n = n ≡ 0
UnderWay store h (Awaits.Piece k s) n = PieceUnderWay store h k s n
UnderWay store h (Awaits.Flush t) n = n ≡ 0

-- a tag that names a row of the table: one within the depth, live, with the tag's generation
unfoldable pub known_as : Opening → Row → ℕ → Bool
known_as o row t = nat_lt (row_of t) o.depth && names row t

-- where a tag names the row: the first cause and the length of the piece under way are those that the words hold, and with them the values tell
-- what the rules say
pub record AnswerIn (o : Opening) (g : LiveRegion) (row : Row) (answer : Answer) (back : Bool) (flushes : ℕ)
    (store : List ℕ) (f : Finished) : Type 0 where
  pub first : Option FirstCause
  pub first_is : HEAD ≤ length store → first ≡ poison_in store
  pub piece : ℕ
  pub under_way : UnderWay store row.handle row.awaits piece
  pub tells : (m : Map) → PieceFits g m piece row.awaits
      → Tells f (λ bytes. rules o (plan_with g m) g.forced first row bytes (answered answer back flushes))

abbrev pub FinishedIn : ℕ → Opening → LiveRegion → Row → Answer → Bool → ℕ → List ℕ → Finished → Type 0
FinishedIn t o g row answer back flushes store f =
    (known_as o row t ≡ false → f ≡ Finished.Away Refusal.UnknownTag) × (known_as o row t ≡ true → AnswerIn o g row answer back flushes store f)

-- .. and of a flush result
abbrev pub FlushedIn : ℕ → Opening → Row → Flushed → Finished → Type 0
FlushedIn t o row result f =
    (known_as o row t ≡ false → f ≡ Finished.Away Refusal.UnknownTag)
    × (known_as o row t ≡ true → (g : Plan) (forced : Bool) (first : Option FirstCause) → Tells f (λ bytes. rules o g forced first row bytes (flushed result)))
