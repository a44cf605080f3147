-- `lookup::answer` meets its contract, case by case.
use Rattle.std.proofs.Common.{rules}
use Rattle.optable.specs.Looked.{answer_of}
use Rattle.optable.proofs.lookup.answer.Goals as goal

pub returns-in-Some : goal.returns-in-Some
unfolding answer_of
returns-in-Some c = search rules

pub returns-in-None : goal.returns-in-None
unfolding answer_of
returns-in-None c = search rules
