-- `table::len_line` meets its contract: the free stack without its last word.
use Rattle.session.proofs.Lines.{looks_shorter}
use Rattle.session.proofs.table.len_line.Goals as goal

pub returns : goal.returns
returns c =
    let a = c.args in
    let h = a.host.now in
    let w = a.words.now in
    (c.look.ensures.0, looks_shorter h.counts h.rows w.store.now w.free.now w.ready.now w.owners.now a.pool.now _ _ c.saturating_sub.ensures c.look.ensures.1)
