-- `refusals::number_of` meets its contract: each arm knows which refusal it is, and there the definition computes.
use Rattle.completion.specs.Numbers.{number}
use Rattle.completion.proofs.refusals.number_of.Goals as goal

pub returns-in-ForeignPosition : goal.returns-in-ForeignPosition
unfolding number
returns-in-ForeignPosition c = rw c.in-ForeignPosition.is

pub returns-in-ForeignBuffer : goal.returns-in-ForeignBuffer
unfolding number
returns-in-ForeignBuffer c = rw c.in-ForeignBuffer.is

pub returns-in-QueueFull : goal.returns-in-QueueFull
unfolding number
returns-in-QueueFull c = rw c.in-QueueFull.is

pub returns-in-StaleGeneration : goal.returns-in-StaleGeneration
unfolding number
returns-in-StaleGeneration c = rw c.in-StaleGeneration.is

pub returns-in-NotReady : goal.returns-in-NotReady
unfolding number
returns-in-NotReady c = rw c.in-NotReady.is

pub returns-in-ReadOnly : goal.returns-in-ReadOnly
unfolding number
returns-in-ReadOnly c = rw c.in-ReadOnly.is

pub returns-in-Poisoned : goal.returns-in-Poisoned
unfolding number
returns-in-Poisoned c = rw c.in-Poisoned.is

pub returns-in-Empty : goal.returns-in-Empty
unfolding number
returns-in-Empty c = rw c.in-Empty.is

pub returns-in-Misaligned : goal.returns-in-Misaligned
unfolding number
returns-in-Misaligned c = rw c.in-Misaligned.is

pub returns-in-OutOfBounds : goal.returns-in-OutOfBounds
unfolding number
returns-in-OutOfBounds c = rw c.in-OutOfBounds.is

pub returns-in-NotHeld : goal.returns-in-NotHeld
unfolding number
returns-in-NotHeld c = rw c.in-NotHeld.is

pub returns-in-LifetimeSpent : goal.returns-in-LifetimeSpent
unfolding number
returns-in-LifetimeSpent c = rw c.in-LifetimeSpent.is

pub returns-in-Unfit : goal.returns-in-Unfit
unfolding number
returns-in-Unfit c = rw c.in-Unfit.is

pub returns-in-UnknownTag : goal.returns-in-UnknownTag
unfolding number
returns-in-UnknownTag c = rw c.in-UnknownTag.is

pub returns-in-NotAwaited : goal.returns-in-NotAwaited
unfolding number
returns-in-NotAwaited c = rw c.in-NotAwaited.is

pub returns-in-AbovePiece : goal.returns-in-AbovePiece
unfolding number
returns-in-AbovePiece c = rw c.in-AbovePiece.is
