-- `calls::take` meets its contract: it touches no row (Each).
use mathlib.Core.Path.{refl}
use Prim.Native.Nat.{◌/◌}
use lib.ListN.{length}
use Rattle.model.specs.declared.Call.TheVariants.{Take}
use Rattle.optable.specs.Called.{place_of}
use Rattle.entry.proofs.Each.{unlike, carried_without}
use Rattle.entry.proofs.calls.take.Goals as goal

pub returns-then-not-fits_words-clause-calls : goal.returns-then-not-fits_words-clause-calls
returns-then-not-fits_words-clause-calls c = unlike c.fits_words.ensures (c.if-not-fits_words.true)

pub returns-clause-calls : goal.returns-clause-calls
unfolding place_of
returns-clause-calls c =
    let a = c.args in
    carried_without Take a.counts.now a.rows.now a.words.now.store.now a.words.now.free.now a.words.now.ready.now a.words.now.owners.now a.pool.now c.take-t.result _ _ _ _ _ c.fits_words.result c.fits_words.ensures (c.if-not-fits_words.false)
    c.counts_of-c.result c.counts_of-c.ensures.value 0 refl c.row_at-row.result c.row_at-row.ensures (c.take-t.ensures.takes_to (length a.rows.now / 16) a.words.now.free.now a.pool.now) _ _ c.counts_of-c.ensures.three c.take-t.ensures.no_row c.put_counted.ensures
