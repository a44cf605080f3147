-- `words::lookup_words` meets its contract, from what its parts ensure (optable's Looking).
use mathlib.Core.Path.{refl, sym, ap, ◌∙◌, subst}
use Prim.Native.Nat.{◌/◌}
use lib.ListN.{length}
use Rattle.std.specs.declared.option.Option.TheVariants.{None, Some}
use Rattle.model.specs.declared.Counts.{Counts}
use Rattle.optable.specs.Called.{LooksTo}
use Rattle.optable.proofs.Looking.{looks_as}
use Rattle.abi.specs.RowWords.{rows_in}
use Rattle.abi.proofs.Laws.{count}
use Rattle.entry.specs.WordCalls.{lent_in}
use Rattle.entry.proofs.words.lookup_words.Goals as goal

pub returns-in-Some : goal.returns-in-Some
returns-in-Some c =
    let a = c.args in
    let counts = c.counts_of-c in
    subst (λ (d : Counts). LooksTo a.x d (lent_in a.rows.now a.words.now.store.now a.words.now.free.now a.words.now.ready.now a.words.now.owners.now a.pool.now) c.answer.result) counts.ensures.value
    (looks_as a.x counts.result (rows_in a.rows.now) a.words.now.store.now a.words.now.free.now a.words.now.ready.now a.words.now.owners.now a.pool.now (length a.rows.now / 16) (count a.rows.now) _ _ _
    (sym c.in-Some.is ∙ c.fitted.ensures) (ap Some c.look-l.ensures) c.answer.ensures)

pub returns-in-None : goal.returns-in-None
returns-in-None c =
    let a = c.args in
    let counts = c.counts_of-c in
    subst (λ (d : Counts). LooksTo a.x d (lent_in a.rows.now a.words.now.store.now a.words.now.free.now a.words.now.ready.now a.words.now.owners.now a.pool.now) c.answer-in-None.result) counts.ensures.value
    (looks_as a.x counts.result (rows_in a.rows.now) a.words.now.store.now a.words.now.free.now a.words.now.ready.now a.words.now.owners.now a.pool.now (length a.rows.now / 16) (count a.rows.now) None None _
    (sym c.in-None.is ∙ c.fitted.ensures) refl c.answer-in-None.ensures)
