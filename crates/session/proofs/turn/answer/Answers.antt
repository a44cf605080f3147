-- `turn::answer` meets its contract: the line is one step of the trace.
use mathlib.Core.Path.{refl}
use Rattle.session.proofs.turn.answer.Goals as goal

pub returns-clause-answers : goal.returns-clause-answers
returns-clause-answers c = (refl, λ bytes k. record { text = _; line = c.line-f.ensures.by_index bytes k })
