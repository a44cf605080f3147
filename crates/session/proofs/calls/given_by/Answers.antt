-- `calls::given_by` meets its contract: of the calls only an answer gives a flush count.
use mathlib.Core.Path.{sym, ap}
use Rattle.model.specs.declared.Call.{Call}
use Rattle.session.specs.Asking.{given_by}
use Rattle.session.proofs.Doing.{none_given}
use Rattle.session.proofs.calls.given_by.Goals as goal

pub returns-in-Answer : goal.returns-in-Answer
unfolding given_by
returns-in-Answer c = let a = c.args in sym (ap (λ (x : Call). given_by x a.flushes) c.in-Answer.is)

pub returns-in_default : goal.returns-in_default
returns-in_default c = let a = c.args in none_given a.call a.flushes c.in_default.not-Answer
