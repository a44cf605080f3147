-- `preamble::start::started_line` meets its contract: by what became of the opening (StartLines).
use Rattle.session.proofs.StartLines.{opened_goes, broken_goes, large_goes}
use Rattle.session.proofs.preamble.start.started_line.Goals as goal

pub returns-in-Table : goal.returns-in-Table
returns-in-Table c =
    let b = c.bytes_for.ensures in
    let a = c.args in
    (c.say_reply.ensures.0, λ s e. opened_goes _ a.o s c.in-Table.is a.pool.now _ b.0 b.1 e _ c.say_reply.ensures.1)

pub returns-in-Refused : goal.returns-in-Refused
returns-in-Refused c =
    let a = c.args in
    (c.say_no.ensures.0, λ s e. broken_goes _ a.o s c.in-Refused.is _ c.say_no.ensures.1)

pub returns-in-TooLarge : goal.returns-in-TooLarge
returns-in-TooLarge c =
    let a = c.args in
    (c.say_limit.ensures.0, λ s e. large_goes _ a.o s c.in-TooLarge.is _ c.say_limit.ensures.1)
