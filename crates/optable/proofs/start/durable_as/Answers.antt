-- `start::durable_as` meets its contract: each arm knows which kind it is, and there the definition computes.
use Rattle.std.proofs.Common.{sym, ap}
use Rattle.model.specs.declared.Kind.{Kind}
use Rattle.step.specs.Step.{durable_as}
use Rattle.optable.proofs.start.durable_as.Goals as goal

pub returns-in-Page : goal.returns-in-Page
unfolding durable_as
returns-in-Page c = sym (ap (λ (k : Kind). durable_as k c.args.durable) c.in-Page.is)

pub returns-in-Read : goal.returns-in-Read
unfolding durable_as
returns-in-Read c = sym (ap (λ (k : Kind). durable_as k c.args.durable) c.in-Read.is)
