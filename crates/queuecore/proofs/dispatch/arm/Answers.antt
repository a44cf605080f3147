-- `dispatch::arm` meets its contract: each arm is what its function ensures.
use Rattle.queuecore.proofs.Touching.{as_known}
use Rattle.arrival.specs.Arrived.{arrived_call}
use Rattle.queuecore.proofs.dispatch.arm.Goals as goal

pub returns-in-Write-clause-arm : goal.returns-in-Write-clause-arm
returns-in-Write-clause-arm c =
    let a = c.args in
    let p = a.words.now in
    let did = c.write in
    as_known a.call _ c.in-Write.is a.row a.counts a.rows p.store.now p.free.now p.ready.now p.owners.now a.pool.now did.result _ _ _ _ _ (did.ensures p.ready.now a.pool.now)

pub returns-in-ReadPage-clause-arm : goal.returns-in-ReadPage-clause-arm
returns-in-ReadPage-clause-arm c =
    let a = c.args in
    let p = a.words.now in
    let did = c.read_page in
    as_known a.call _ c.in-ReadPage.is a.row a.counts a.rows p.store.now p.free.now p.ready.now p.owners.now a.pool.now did.result _ _ _ _ _ (did.ensures p.ready.now a.pool.now)

pub returns-in-Answer-clause-arm : goal.returns-in-Answer-clause-arm
unfolding arrived_call
returns-in-Answer-clause-arm c =
    let a = c.args in
    let p = a.words.now in
    let did = c.arrive in
    as_known a.call _ c.in-Answer.is a.row a.counts a.rows p.store.now p.free.now p.ready.now p.owners.now a.pool.now did.result _ _ _ _ _ did.ensures.arm

pub returns-in-Flushed-clause-arm : goal.returns-in-Flushed-clause-arm
unfolding arrived_call
returns-in-Flushed-clause-arm c =
    let a = c.args in
    let p = a.words.now in
    let did = c.arrive-in-Flushed in
    as_known a.call _ c.in-Flushed.is a.row a.counts a.rows p.store.now p.free.now p.ready.now p.owners.now a.pool.now did.result _ _ _ _ _ did.ensures.arm

pub returns-in-Take-clause-arm : goal.returns-in-Take-clause-arm
returns-in-Take-clause-arm c =
    let a = c.args in
    let p = a.words.now in
    let did = c.take in
    as_known a.call _ c.in-Take.is a.row a.counts a.rows p.store.now p.free.now p.ready.now p.owners.now a.pool.now did.result _ _ _ _ _ (did.ensures.takes_to a.rows p.free.now a.pool.now)

pub returns-in-SetGate-clause-arm : goal.returns-in-SetGate-clause-arm
returns-in-SetGate-clause-arm c =
    let a = c.args in
    let p = a.words.now in
    let did = c.set_gate in
    as_known a.call _ c.in-SetGate.is a.row a.counts a.rows p.store.now p.free.now p.ready.now p.owners.now a.pool.now did.result _ _ _ _ _ (did.ensures a.counts a.rows p.free.now p.ready.now p.owners.now a.pool.now)

pub returns-in-SetReadOnly-clause-arm : goal.returns-in-SetReadOnly-clause-arm
returns-in-SetReadOnly-clause-arm c =
    let a = c.args in
    let p = a.words.now in
    let did = c.set_read_only in
    as_known a.call _ c.in-SetReadOnly.is a.row a.counts a.rows p.store.now p.free.now p.ready.now p.owners.now a.pool.now did.result _ _ _ _ _ (did.ensures a.counts a.rows p.free.now p.ready.now p.owners.now a.pool.now)

pub returns-in-SetForced-clause-arm : goal.returns-in-SetForced-clause-arm
returns-in-SetForced-clause-arm c =
    let a = c.args in
    let p = a.words.now in
    let did = c.set_forced in
    as_known a.call _ c.in-SetForced.is a.row a.counts a.rows p.store.now p.free.now p.ready.now p.owners.now a.pool.now did.result _ _ _ _ _ (did.ensures a.counts a.rows p.free.now p.ready.now p.owners.now a.pool.now)

pub returns-in-ReportPoison-clause-arm : goal.returns-in-ReportPoison-clause-arm
returns-in-ReportPoison-clause-arm c =
    let a = c.args in
    let p = a.words.now in
    let did = c.report_poison in
    as_known a.call _ c.in-ReportPoison.is a.row a.counts a.rows p.store.now p.free.now p.ready.now p.owners.now a.pool.now did.result _ _ _ _ _ (did.ensures a.counts a.rows p.free.now p.ready.now p.owners.now a.pool.now)
