-- `release::owner_word` meets its contract: each arm knows whether the buffer came back.
use Rattle.arrival.specs.Carried.{owner_word}
use Rattle.arrival.proofs.release.owner_word.Goals as goal

pub returns-in-Some : goal.returns-in-Some
unfolding owner_word
returns-in-Some c = rw c.in-Some.is

pub returns-in-None : goal.returns-in-None
unfolding owner_word
returns-in-None c = rw c.in-None.is
