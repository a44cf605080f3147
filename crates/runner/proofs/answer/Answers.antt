-- `runner::answer` meets its contract: each arm knows what the line asks for (Lines).
use Rattle.runner.proofs.Lines.{passed_over, is_bad, is_call}
use Rattle.runner.proofs.answer.Goals as goal

pub returns-in-Nothing-clause-answers : goal.returns-in-Nothing-clause-answers
returns-in-Nothing-clause-answers c =
    let a = c.args in
    passed_over a.asks a.number a.host.now.counts _ c.in-Nothing.is

pub returns-in-Other-clause-answers : goal.returns-in-Other-clause-answers
returns-in-Other-clause-answers c =
    let a = c.args in
    is_bad a.asks a.number a.host.now.counts _ c.in-Other.is _ c.bad_text.ensures.1

pub returns-in-Call-clause-answers : goal.returns-in-Call-clause-answers
returns-in-Call-clause-answers c =
    let a = c.args in
    is_call a.asks a.number a.host.now.counts _ _ c.in-Call.is _ _ _ c.run.ensures.ran
