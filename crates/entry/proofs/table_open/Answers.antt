-- `entry::table_open` meets its contract, by the reply of the opening (Opening).
use mathlib.Core.Path.{refl}
use borrow.Author.Rules.{rules}
use Rattle.entry.proofs.EntryOpening.{is_table, is_refused_lem}
use Rattle.entry.proofs.table_open.Goals as goal

pub returns-in-Ok : goal.returns-in-Ok
returns-in-Ok c =
    let a = c.args in
    let z = is_table _ _ c.opening_of-o.ensures a.plan.now a.counts.now a.rows.now a.store.now a.free.now a.ready.now a.owners.now a.pool.now c.open_whole-opened.result _ _ _ _ _ c.open_whole-opened.ensures.opens _ c.in-Ok.is _ _ refl c.put_whole.ensures in
    search rules

pub returns-in-Err : goal.returns-in-Err
returns-in-Err c =
    let a = c.args in
    let z = is_refused_lem _ _ c.opening_of-o.ensures a.plan.now a.counts.now a.rows.now a.store.now a.free.now a.ready.now a.owners.now a.pool.now c.open_whole-opened.result _ _ _ _ _ c.open_whole-opened.ensures.opens _ c.in-Err.is _ c.put_whole-in-Err.ensures in
    search rules
