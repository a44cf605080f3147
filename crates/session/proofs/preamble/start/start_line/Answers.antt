-- `preamble::start::start_line` meets its contract: from what `start` leaves (StartLines).
use mathlib.Core.Path.{refl}
use Rattle.session.proofs.StartLines.{tells}
use Rattle.session.proofs.preamble.start.start_line.Goals as goal

pub returns-clause-tells : goal.returns-clause-tells
returns-clause-tells c =
    let a = c.args in
    let h = a.host.now in
    let w = a.words.now in
    tells a.o a.plan.now h.flushes h.counts h.rows w.store.now w.free.now w.ready.now w.owners.now a.pool.now _ _ _ _ _ _ c.start-started.ensures.starts _ _ (c.started_line.ensures.1 _ refl) _ (c.counts_after-host.ensures a.o _ refl)
