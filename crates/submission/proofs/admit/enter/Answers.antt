-- `admit::enter` meets its contract: each arm knows which gate it is, and there the definition computes.
use Rattle.std.proofs.Common.{sym, ap}
use Rattle.model.specs.declared.Gate.{Gate}
use Rattle.step.specs.Questions.{gate_open}
use Rattle.submission.proofs.admit.enter.Goals as goal

pub returns-in-Open : goal.returns-in-Open
unfolding gate_open
returns-in-Open c = sym (ap (λ (g : Gate). gate_open g c.args.c) c.in-Open.is)

pub returns-in-Recycled : goal.returns-in-Recycled
unfolding gate_open
returns-in-Recycled c = sym (ap (λ (g : Gate). gate_open g c.args.c) c.in-Recycled.is)

pub returns-in-Released : goal.returns-in-Released
unfolding gate_open
returns-in-Released c = sym (ap (λ (g : Gate). gate_open g c.args.c) c.in-Released.is)
