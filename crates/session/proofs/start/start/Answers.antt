-- `start::start` meets its contract: from what the opening replies (Starting).
use Rattle.session.proofs.Starting.{is_table, is_none}
use Rattle.session.proofs.start.start.Goals as goal

pub returns-in-Ok-clause-starts : goal.returns-in-Ok-clause-starts
returns-in-Ok-clause-starts c =
    let a = c.args in
    let w = a.words.now in
    is_table a.o a.plan.now a.rows.now w.store.now w.free.now w.ready.now w.owners.now a.pool.now c.bytes_for-n.result c.bytes_for-n.ensures.1
    c.open.result _ _ _ _ _ c.open.ensures.opens _ c.in-Ok.is

pub returns-in-Err-clause-starts : goal.returns-in-Err-clause-starts
returns-in-Err-clause-starts c =
    let a = c.args in
    let w = a.words.now in
    is_none a.o a.plan.now a.rows.now w.store.now w.free.now w.ready.now w.owners.now a.pool.now c.bytes_for-n.result c.bytes_for-n.ensures.1
    c.open.result _ _ _ _ _ c.open.ensures.opens _ c.in-Err.is c.not_opened.result c.not_opened.ensures
