-- `preamble::start::counts_after` meets its contract: by what became of the opening (StartLines).
use mathlib.Core.Path.{◌∙◌}
use Rattle.session.proofs.StartLines.{opened_counts_lem, other_counts}
use Rattle.session.proofs.preamble.start.counts_after.Goals as goal

pub returns-in-Table : goal.returns-in-Table
returns-in-Table c = λ o s e. c.fresh.ensures ∙ opened_counts_lem _ o s c.in-Table.is

pub returns-in_default : goal.returns-in_default
returns-in_default c = λ o s e. other_counts _ c.in_default.not-Table o s _ e
