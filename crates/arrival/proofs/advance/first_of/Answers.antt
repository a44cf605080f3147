-- `advance::first_of` meets its contract: each arm knows the kind.
use Rattle.step.specs.Rules.{first_of}
use Rattle.arrival.proofs.advance.first_of.Goals as goal

pub returns-in-Page : goal.returns-in-Page
unfolding first_of
returns-in-Page c = rw c.in-Page.is

pub returns-in-Read : goal.returns-in-Read
unfolding first_of
returns-in-Read c = rw c.in-Read.is
