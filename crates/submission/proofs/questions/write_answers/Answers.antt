-- `questions::write_answers` meets its contract: the groups, put together, are the list (Asking).
use Rattle.std.proofs.Common.{rules}
use Rattle.step.specs.Questions.{buffer_in_pool, first_no}
use Rattle.submission.proofs.Asking.{write_groups}
use Rattle.submission.proofs.questions.write_answers.Goals as goal

pub returns-in_err-admit : goal.returns-in_err-admit
unfolding buffer_in_pool first_no
returns-in_err-admit c = let a = c.args in let g = write_groups a.o a.counts a.g a.poison a.held a.q in search (rules, g)

pub returns-in_err-ready_for : goal.returns-in_err-ready_for
unfolding buffer_in_pool first_no
returns-in_err-ready_for c = let a = c.args in let g = write_groups a.o a.counts a.g a.poison a.held a.q in search (rules, g)

pub returns-in_err-names : goal.returns-in_err-names
unfolding buffer_in_pool first_no
returns-in_err-names c = let a = c.args in let g = write_groups a.o a.counts a.g a.poison a.held a.q in search (rules, g)

pub returns : goal.returns
unfolding buffer_in_pool first_no
returns c = let a = c.args in let g = write_groups a.o a.counts a.g a.poison a.held a.q in search (rules, g)
