-- `arrival::becomes` meets its contract, by what arrives.
use Rattle.arrival.specs.Arrived.{BecomesIn}
use Rattle.arrival.proofs.becomes.Goals as goal

pub returns-in-Answer : goal.returns-in-Answer
unfolding BecomesIn
returns-in-Answer c = rw c.in-Answer.is c.finished.ensures

pub returns-in-Flushed : goal.returns-in-Flushed
unfolding BecomesIn
returns-in-Flushed c = rw c.in-Flushed.is c.flush_finished.ensures
