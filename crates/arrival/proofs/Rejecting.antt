-- Only an operation that awaits a piece is rejected.
use Rattle.std.proofs.Common.{◌≡◌, refl}
use Rattle.std.specs.declared.option.Option.{Option}
use Prim.Native.Nat.{ℕ}
use Rattle.completion.specs.Buffers.{Buffer}
use Rattle.completion.specs.declared.Refusal.TheVariants.{NotAwaited}
use Rattle.completion.specs.declared.Reply.{Reply}
use Rattle.completion.specs.declared.Reply.TheVariants.{No}
use Rattle.model.specs.declared.Awaits.{Awaits}
use Rattle.model.specs.declared.Awaits.TheVariants.{Nothing, Piece, Flush}
use Rattle.model.specs.declared.Kind.{Kind}
use Rattle.model.specs.declared.Split.{Split}
use Rattle.model.specs.Opening.{Plan}
use Rattle.step.specs.Step.{rejection}

-- only an operation that awaits a piece is rejected
pub not_piece : (g : Plan) (a : Awaits) (e : Option ℕ) (b : Buffer) → ((k : Kind) (s : Split) → a ≡ Piece k s → ⊥) → ◌≡◌ {A = Reply} (No NotAwaited) (rejection g a e b)
unfolding rejection
not_piece g Nothing e b w = refl
not_piece g (Piece k s) e b w = absurd (w k s refl)
not_piece g (Flush t) e b w = refl
