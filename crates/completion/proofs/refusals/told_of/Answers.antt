-- `refusals::told_of` meets its contract: each arm knows which it is, and there the definition computes.
use Rattle.completion.specs.Numbers.{context_values, values}
use Rattle.completion.specs.Told.{told_values}
use Rattle.completion.proofs.refusals.told_of.Goals as goal

pub returns-in-ForeignPosition : goal.returns-in-ForeignPosition
unfolding told_values values
returns-in-ForeignPosition c = rw c.in-ForeignPosition.is

pub returns-in-ForeignBuffer : goal.returns-in-ForeignBuffer
unfolding told_values values
returns-in-ForeignBuffer c = rw c.in-ForeignBuffer.is

pub returns-in-QueueFull : goal.returns-in-QueueFull
unfolding told_values values
returns-in-QueueFull c = rw c.in-QueueFull.is

pub returns-in-StaleGeneration : goal.returns-in-StaleGeneration
unfolding told_values values
returns-in-StaleGeneration c = rw c.in-StaleGeneration.is

pub returns-in-NotReady : goal.returns-in-NotReady
unfolding told_values values
returns-in-NotReady c = rw c.in-NotReady.is

pub returns-in-ReadOnly : goal.returns-in-ReadOnly
unfolding told_values values
returns-in-ReadOnly c = rw c.in-ReadOnly.is

pub returns-in-Poisoned : goal.returns-in-Poisoned
unfolding told_values values
returns-in-Poisoned c = rw c.in-Poisoned.is

pub returns-in-Empty : goal.returns-in-Empty
unfolding told_values values
returns-in-Empty c = rw c.in-Empty.is

pub returns-in-Misaligned : goal.returns-in-Misaligned
unfolding told_values values
returns-in-Misaligned c = rw c.in-Misaligned.is

pub returns-in-OutOfBounds : goal.returns-in-OutOfBounds
unfolding told_values values
returns-in-OutOfBounds c = rw c.in-OutOfBounds.is

pub returns-in-NotHeld : goal.returns-in-NotHeld
unfolding told_values values
returns-in-NotHeld c = rw c.in-NotHeld.is

pub returns-in-LifetimeSpent : goal.returns-in-LifetimeSpent
unfolding told_values values
returns-in-LifetimeSpent c = rw c.in-LifetimeSpent.is

pub returns-in-Unfit : goal.returns-in-Unfit
unfolding told_values values context_values
returns-in-Unfit c = rw c.in-Unfit.is

pub returns-in-UnknownTag : goal.returns-in-UnknownTag
unfolding told_values values context_values
returns-in-UnknownTag c = rw c.in-UnknownTag.is

pub returns-in-NotAwaited : goal.returns-in-NotAwaited
unfolding told_values values context_values
returns-in-NotAwaited c = rw c.in-NotAwaited.is

pub returns-in-AbovePiece : goal.returns-in-AbovePiece
unfolding told_values values context_values
returns-in-AbovePiece c = rw c.in-AbovePiece.is
