-- `flushed::flushed` meets its contract: each arm knows whether the row awaits a flush.
use Rattle.step.specs.Rules.{rules}
use Rattle.settle.proofs.Finishing.{awaits_flush_lem, no_flush}
use Rattle.settle.proofs.flushed.flushed.Goals as goal

pub returns-in-Flush : goal.returns-in-Flush
unfolding rules
returns-in-Flush c =
    let a = c.args in
    λ g forced first. awaits_flush_lem a.o a.row a.res _ _ _ a.row.awaits c.in-Flush.is c.flush_outcome.ensures c.ticket_length.ensures

pub returns-in_default : goal.returns-in_default
unfolding rules
returns-in_default c = let a = c.args in λ g forced first. no_flush a.o a.row a.res a.row.awaits c.in_default.not-Flush
