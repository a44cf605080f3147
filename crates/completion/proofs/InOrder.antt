-- The refusals in the order of document 01's numbers have the numbers 1 to 16, each once: by computing.
use mathlib.Core.Path.{◌≡◌, refl}
use mathlib.Core.List.{List, [], ◌∷◌, map}
use Rattle.domain.specs.declared.FirstCause.{FirstCause}
use Rattle.completion.specs.declared.Context.{Context}
use Rattle.completion.specs.declared.Refusal.{Refusal}
use Rattle.completion.specs.declared.Refusal.TheVariants.{ForeignPosition, ForeignBuffer, QueueFull, StaleGeneration, NotReady, ReadOnly, Poisoned, Empty, Misaligned, OutOfBounds, NotHeld, LifetimeSpent, Unfit, UnknownTag, NotAwaited, AbovePiece}
use Rattle.completion.specs.Numbers.{number}

-- questions 1 to 14 of a submission by the numbers they give, the two that document 01 adds, 13, and the three of an answer
abbrev pub in_order : Context → FirstCause → List Refusal
in_order c f =
    ForeignPosition c
    ∷ ForeignBuffer c
    ∷ QueueFull c
    ∷ StaleGeneration c
    ∷ NotReady c
    ∷ ReadOnly c
    ∷ Poisoned f
    ∷ Empty c
    ∷ Misaligned c
    ∷ OutOfBounds c
    ∷ NotHeld c
    ∷ LifetimeSpent c
    ∷ Unfit
    ∷ UnknownTag
    ∷ NotAwaited
    ∷ AbovePiece
    ∷ []

pub numbered : (c : Context) (f : FirstCause) → map number (in_order c f) ≡ 1 ∷ 2 ∷ 3 ∷ 4 ∷ 5 ∷ 6 ∷ 7 ∷ 8 ∷ 9 ∷ 10 ∷ 11 ∷ 12 ∷ 13 ∷ 14 ∷ 15 ∷ 16 ∷ []
unfolding number
numbered c f = refl
