-- `arrival::call_of` meets its contract, by what arrives.
use Rattle.arrival.specs.Arrived.{arrived_call}
use Rattle.arrival.proofs.call_of.Goals as goal

pub returns-in-Answer : goal.returns-in-Answer
unfolding arrived_call
returns-in-Answer c = rw c.in-Answer.is

pub returns-in-Flushed : goal.returns-in-Flushed
unfolding arrived_call
returns-in-Flushed c = rw c.in-Flushed.is
