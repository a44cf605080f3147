-- `calls::run` meets its contract: the call is made, and its reply printed.
use Rattle.session.proofs.calls.run.Goals as goal

pub returns-clause-ran : goal.returns-clause-ran
returns-clause-ran c =
    record { reply = c.call-reply.result; called = c.call-reply.ensures.calls; flushes = c.given_by-host.ensures; prints = c.say_reply.ensures.1 }
