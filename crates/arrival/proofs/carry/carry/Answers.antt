-- `carry::carry` meets its contract: each arm knows what becomes of the operation (Carrying).
use Rattle.arrival.proofs.Carrying.{known_carried, away_carried, next_carried, rejected_carried}
use Rattle.arrival.proofs.carry.carry.Goals as goal

pub returns-in-Away-clause-carried : goal.returns-in-Away-clause-carried
returns-in-Away-clause-carried c =
    let a = c.args in
    let p = a.words.now in
    away_carried a.f _ c.in-Away.is a.qtag a.row a.o a.g a.counts p.store.now p.free.now p.ready.now p.owners.now a.pool.now c.away.result c.away.ensures

pub returns-in-Next-clause-carried : goal.returns-in-Next-clause-carried
returns-in-Next-clause-carried c =
    let a = c.args in
    let p = a.words.now in
    let r = c.go_on in
    next_carried a.f _ _ c.in-Next.is a.qtag a.row a.o a.g a.counts p.store.now p.free.now p.ready.now p.owners.now a.pool.now r.result _ (r.ensures.0 a.g) r.ensures.1

pub returns-in-Ended-clause-carried : goal.returns-in-Ended-clause-carried
returns-in-Ended-clause-carried c =
    let a = c.args in
    let p = a.words.now in
    let r = c.release in
    known_carried a.f _ c.in-Ended.is a.qtag a.row a.o a.g a.counts p.store.now p.free.now p.ready.now p.owners.now a.pool.now r.result _ _ _ _ _ (r.ensures.carried a.g)

pub returns-in-Rejected-clause-carried : goal.returns-in-Rejected-clause-carried
returns-in-Rejected-clause-carried c =
    let a = c.args in
    let p = a.words.now in
    let r = c.abort in
    rejected_carried a.f _ _ c.in-Rejected.is a.qtag a.row a.o a.g a.counts p.store.now p.free.now p.ready.now p.owners.now a.pool.now r.result _ _ (r.ensures.0 p.store.now) r.ensures.1 r.ensures.2
