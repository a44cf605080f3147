-- `ready::ask` meets its contract: each branch knows the test, and there the definition computes.
use Rattle.step.specs.Questions.{ask}
use Rattle.region.proofs.ready.ask.Goals as goal

pub returns-then-test : goal.returns-then-test
unfolding ask
returns-then-test c = rw c.if-test.true

pub returns-else-test : goal.returns-else-test
unfolding ask
returns-else-test c = rw c.if-test.false
