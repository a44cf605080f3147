-- `underway::named` meets its contract: each arm knows whether the row awaits something.
use Rattle.step.specs.Step.{is_live, names, generation_of}
use Rattle.arrival.proofs.Naming.{awaited}
use Rattle.std.proofs.Common.{rules}
use Rattle.arrival.proofs.underway.named.Goals as goal

pub returns-in-Nothing : goal.returns-in-Nothing
unfolding names is_live
returns-in-Nothing c = search rules

pub returns-in_default : goal.returns-in_default
unfolding names generation_of
returns-in_default c = awaited c.args.row.awaits _ c.in_default.not-Nothing
