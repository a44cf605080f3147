-- `abort::reject` meets its contract: each arm knows the kind.
use Rattle.step.specs.Rules.{first_of, last_of, range_of, op_of}
use Rattle.arrival.proofs.abort.reject.Goals as goal

pub returns-in-Page : goal.returns-in-Page
unfolding range_of op_of first_of last_of
returns-in-Page c = λ g is. rw (c.in-Page.is, is)

pub returns-in-Read : goal.returns-in-Read
unfolding range_of op_of first_of last_of
returns-in-Read c = λ g is. rw (c.in-Read.is, is)
