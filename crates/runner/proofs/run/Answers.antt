-- `runner::run` meets its contract: the call is made, and its reply printed.
use Rattle.runner.proofs.run.Goals as goal

pub returns-clause-ran : goal.returns-clause-ran
returns-clause-ran c = record { reply = c.call-reply.result; called = c.call-reply.ensures.calls; prints = c.short_text.ensures.1 }
