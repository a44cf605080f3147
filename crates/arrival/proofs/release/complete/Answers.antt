-- `release::complete` meets its contract: what is published is the row's completion.
use Rattle.step.specs.Step.{completion_of}
use Rattle.arrival.proofs.release.complete.Goals as goal

pub returns-clause-ready : goal.returns-clause-ready
unfolding completion_of
returns-clause-ready c = c.publish.ensures
