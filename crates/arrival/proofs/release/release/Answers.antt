-- `release::release` meets its contract: each part is what a callee ensures.
use Rattle.std.proofs.Common.{ap, ◌∙◌}
use Rattle.model.specs.State.{freed}
use Rattle.step.specs.Step.{row_of}
use Rattle.arrival.proofs.Releasing.{ended_carried}
use Rattle.arrival.proofs.release.release.Goals as goal

pub returns-clause-carried : goal.returns-clause-carried
unfolding row_of
returns-clause-carried c =
    let a = c.args in
    let p = a.words.now in
    let done = c.complete.ensures in
    λ g.
    ended_carried a.end a.qtag a.row a.o g a.counts p.store.now p.free.now p.ready.now p.owners.now a.pool.now c.freed_row.result _ _ _ _ _
    (c.freed_row.ensures ∙ ap freed c.next_generation.ensures) done.store (done.free ∙ c.push.ensures) done.ready done.owners c.turn.ensures
