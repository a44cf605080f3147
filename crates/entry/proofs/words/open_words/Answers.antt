-- `words::open_words` meets its contract, from what its parts ensure (Opening).
use Rattle.std.proofs.Common.{◌≡◌, sym, ap, ◌∙◌}
use Rattle.opening.specs.Opened.{opened_with}
use Rattle.opening.proofs.Opens.{rows_by, none_by}
use Rattle.abi.specs.RowWords.{rows_in}
use Rattle.entry.proofs.Opening.{opens_words, words_by, none_cleared}
use Rattle.entry.proofs.words.open_words.Goals as goal
use Rattle.entry.proofs.words.open_words.Goals.{in-Some, in_default}

pub returns-clause-opens : goal.returns-clause-opens
returns-clause-opens c =
    let a = c.args in
    let p = c.prepare-depth in
    let by = rows_by a.o a.plan.now (rows_in a.rows.now) a.words.now.store.now a.words.now.free.now a.words.now.ready.now a.words.now.owners.now a.pool.now in
    let freed : rows_in c.match-depth.rows ≡ by p.result =
    elim c.match-depth.branch [ in-Some w ↦ ap rows_in w.rows-is ∙ w.clear.ensures.0 ∙ sym (ap by w.in-Some.is) | in_default w ↦ ap rows_in w.rows-is ∙ none_by a.o a.plan.now (rows_in a.rows.now) a.words.now.store.now a.words.now.free.now a.words.now.ready.now a.words.now.owners.now a.pool.now p.result w.in_default.not-Some ] in
    let cleared : c.match-depth.rows ≡ words_by a.rows.now p.result =
    elim c.match-depth.branch [ in-Some w ↦ w.rows-is ∙ w.clear.ensures.1 ∙ sym (ap (words_by a.rows.now) w.in-Some.is) | in_default w ↦ w.rows-is ∙ none_cleared a.rows.now p.result w.in_default.not-Some ] in
    let same : c.match-depth.depth ≡ p.result = elim c.match-depth.branch [ in-Some w ↦ w.depth-is ∙ sym w.in-Some.is | in_default w ↦ w.depth-is ] in
    opens_words a.o a.plan.now a.rows.now a.words.now.store.now a.words.now.free.now a.words.now.ready.now a.words.now.owners.now a.pool.now p.result c.reply.result _ _ _ _ _
    p.ensures.prepared freed cleared (c.reply.ensures ∙ ap opened_with same)
