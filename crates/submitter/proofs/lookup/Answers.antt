-- `lookup` meets its contract: what its callees find is what a lookup finds (optable's Looking).
use Rattle.std.proofs.Common.{refl, length, sym, ap, ◌∙◌}
use Rattle.std.specs.declared.option.Option.TheVariants.{None, Some}
use Rattle.optable.proofs.Looking.{looks_as}
use Rattle.submitter.proofs.lookup.Goals as goal

pub returns-in-Some : goal.returns-in-Some
returns-in-Some c =
    let a = c.args in
    looks_as a.x a.counts a.rows.now a.words.now.store.now a.words.now.free.now a.words.now.ready.now a.words.now.owners.now a.pool.now (length a.rows.now) refl _ _ _ (sym c.in-Some.is ∙ c.fitted.ensures) (ap Some c.look-l.ensures) c.answer.ensures

pub returns-in-None : goal.returns-in-None
returns-in-None c =
    let a = c.args in
    looks_as a.x a.counts a.rows.now a.words.now.store.now a.words.now.free.now a.words.now.ready.now a.words.now.owners.now a.pool.now (length a.rows.now) refl None None _ (sym c.in-None.is ∙ c.fitted.ensures) refl c.answer-in-None.ensures
