-- `calls::ask` meets its contract: each arm knows what the line asks for (Doing).
use Rattle.session.specs.Lent.{held_in}
use Rattle.session.proofs.Doing.{nothing_asked, other_asked, call_asked}
use Rattle.session.proofs.calls.ask.Goals as goal

pub returns-in-Nothing-clause-asked : goal.returns-in-Nothing-clause-asked
returns-in-Nothing-clause-asked c =
    let a = c.args in
    nothing_asked a.number (held_in a.host.now a.words.now a.pool.now) a.asks c.in-Nothing.is

pub returns-in-Other-clause-asked : goal.returns-in-Other-clause-asked
returns-in-Other-clause-asked c =
    let a = c.args in
    other_asked a.number (held_in a.host.now a.words.now a.pool.now) a.asks c.in-Other.is _ c.say_bad.ensures.1

pub returns-in-Call-clause-asked : goal.returns-in-Call-clause-asked
returns-in-Call-clause-asked c =
    let a = c.args in
    call_asked a.number (held_in a.host.now a.words.now a.pool.now) a.asks _ c.in-Call.is _ _ c.run.ensures.ran
