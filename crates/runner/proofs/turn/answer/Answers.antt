-- `turn::answer` meets its contract: the line is answered.
use mathlib.Core.Path.{refl}
use Rattle.runner.proofs.turn.answer.Goals as goal

pub returns-clause-answers : goal.returns-clause-answers
returns-clause-answers c = (refl, λ bytes k. record { text = _; line = c.line-n.ensures.by_index bytes k })
