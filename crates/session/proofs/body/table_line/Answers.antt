-- `body::table_line` meets its contract: the part lent is the first bytes of the pool (Parts).
use Rattle.session.proofs.Parts.{part_answered}
use Rattle.session.proofs.body.table_line.Goals as goal

pub returns-clause-by_index : goal.returns-clause-by_index
returns-clause-by_index c =
    let a = c.args in
    let h = a.host.now in
    let w = a.words.now in
    λ bytes k plan. part_answered a.n _ _ _ (c.finish-said.ensures bytes k) a.number h.flushes h.counts h.rows w.store.now w.free.now w.ready.now w.owners.now a.pool.now plan c.min-k.ensures _ _ _ _ _ _ _ _ _ c.answer.ensures.answers
