-- `turn::turn` meets its contract: by whether the line is whole (input Turns.antt).
use mathlib.Core.Path.{refl}
use Rattle.input.proofs.Turns.{answered, unanswered}
use Rattle.session.specs.Replayed.{Leaves}
use Rattle.session.proofs.Turns.{same}
use Rattle.session.proofs.turn.turn.Goals as goal

pub returns-then-from-clause-turned : goal.returns-then-from-clause-turned
returns-then-from-clause-turned c =
    let a = c.args in
    let w = a.words.now in
    let to = c.moved-now in
    answered Leaves _ _ _ _ _ _ c.next-from.ensures _ _ (same a.r to.result a.plan.now w.store.now w.free.now w.ready.now w.owners.now a.pool.now to.ensures.1) _ _ to.ensures.0 c.answer.ensures.answers.0 c.if-from.true _ c.answer.ensures.answers.1

pub returns-clause-turned : goal.returns-clause-turned
returns-clause-turned c =
    let a = c.args in
    let w = a.words.now in
    let to = c.moved-now in
    unanswered Leaves _ _ _ _ _ _ c.next-from.ensures _ _ (same a.r to.result a.plan.now w.store.now w.free.now w.ready.now w.owners.now a.pool.now to.ensures.1) _ _ to.ensures.0 refl c.if-from.false
