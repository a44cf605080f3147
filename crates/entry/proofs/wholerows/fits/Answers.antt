-- `wholerows::fits` meets its contract.
use Rattle.entry.proofs.Fitting.{whole_fits, cut_unfit}
use Rattle.entry.proofs.wholerows.fits.Goals as goal

pub returns-then-rows-eq0 : goal.returns-then-rows-eq0
returns-then-rows-eq0 c =
    let a = c.args in
    whole_fits a.rows.now a.words.now.store.now a.words.now.free.now a.words.now.ready.now a.words.now.owners.now a.pool.now c.if-rows-eq0.true c.fits.result c.fits.ensures

pub returns : goal.returns
returns c =
    let a = c.args in
    cut_unfit a.rows.now a.words.now.store.now a.words.now.free.now a.words.now.ready.now a.words.now.owners.now a.pool.now c.if-rows-eq0.false
