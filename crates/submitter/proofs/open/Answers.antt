-- `open` meets its contract, by those of what prepares the words, of the rows and of the reply.
use Rattle.std.proofs.Common.{◌≡◌, sym, ap, ◌∙◌}
use Rattle.opening.proofs.Opens.{opens_to, rows_by, none_by}
use Rattle.opening.specs.Opened.{opened_with}
use Rattle.submitter.proofs.open.Goals as goal
use Rattle.submitter.proofs.open.Goals.{in-Some, in_default}

pub returns-clause-opens : goal.returns-clause-opens
returns-clause-opens c =
    let a = c.args in
    let w = a.words.now in
    let p = c.prepare-depth in
    let by = rows_by a.o a.plan.now a.rows.now w.store.now w.free.now w.ready.now w.owners.now a.pool.now in
    let freed : c.match-depth.rows ≡ by p.result =
    elim c.match-depth.branch [ in-Some d ↦ d.rows-is ∙ d.new.ensures ∙ sym (ap by d.in-Some.is) | in_default d ↦ d.rows-is ∙ none_by a.o a.plan.now a.rows.now w.store.now w.free.now w.ready.now w.owners.now a.pool.now p.result d.in_default.not-Some ] in
    let same : c.match-depth.depth ≡ p.result = elim c.match-depth.branch [ in-Some d ↦ d.depth-is ∙ sym d.in-Some.is | in_default d ↦ d.depth-is ] in
    opens_to a.o a.plan.now a.rows.now w.store.now w.free.now w.ready.now w.owners.now a.pool.now p.result c.reply.result c.match-depth.rows _ _ _ _
    p.ensures.prepared freed (c.reply.ensures ∙ ap opened_with same)
