-- "Where an answer is an enum, a definition lists this paper's number and values for each case."
-- The numbers stand in document 01 under "A submission, question by question", "Opening" and "An answer arrives".
use Rattle.std.specs.Prelude.{ℕ}
use Rattle.regionmap.specs.declared.Position.{Position}
use Rattle.domain.specs.declared.FirstCause.{FirstCause}
use Rattle.completion.specs.declared.{Context.Context, Refusal.Refusal}

-- the number of each refusal
unfoldable pub number : Refusal → ℕ
number (Refusal.ForeignPosition c) = 1
number (Refusal.ForeignBuffer c) = 2
number (Refusal.QueueFull c) = 3
number (Refusal.StaleGeneration c) = 4
number (Refusal.NotReady c) = 5
number (Refusal.ReadOnly c) = 6
number (Refusal.Poisoned f) = 7
number (Refusal.Empty c) = 8
number (Refusal.Misaligned c) = 9
number (Refusal.OutOfBounds c) = 10
number (Refusal.NotHeld c) = 11
number (Refusal.LifetimeSpent c) = 12
number Refusal.Unfit = 13
number Refusal.UnknownTag = 14
number Refusal.NotAwaited = 15
number Refusal.AbovePiece = 16

-- its values: the region's id, the region's id with a range, the first cause, or none
pub data Values : Type 0 where
  nothing : Values
  region : ℕ → Values
  range : ℕ → Position → Position → Values
  cause : FirstCause → Values

unfoldable pub context_values : Context → Values
context_values Context.None = nothing
context_values (Context.Region id) = region id
context_values (Context.Range r) = range r.region r.start r.end

unfoldable pub values : Refusal → Values
values (Refusal.ForeignPosition c) = context_values c
values (Refusal.ForeignBuffer c) = context_values c
values (Refusal.QueueFull c) = context_values c
values (Refusal.StaleGeneration c) = context_values c
values (Refusal.NotReady c) = context_values c
values (Refusal.ReadOnly c) = context_values c
values (Refusal.Poisoned f) = cause f
values (Refusal.Empty c) = context_values c
values (Refusal.Misaligned c) = context_values c
values (Refusal.OutOfBounds c) = context_values c
values (Refusal.NotHeld c) = context_values c
values (Refusal.LifetimeSpent c) = context_values c
values Refusal.Unfit = nothing
values Refusal.UnknownTag = nothing
values Refusal.NotAwaited = nothing
values Refusal.AbovePiece = nothing
