-- `settings::set` meets its contract: the call is its arm's (Each).
use Rattle.entry.proofs.Each.{unlike, marked, not_set, no_place}
use Rattle.entry.proofs.settings.set.Goals as goal

pub returns-then-not-fits_words-clause-calls : goal.returns-then-not-fits_words-clause-calls
returns-then-not-fits_words-clause-calls c = unlike c.fits_words.ensures (c.if-not-fits_words.true)

pub returns-clause-calls : goal.returns-clause-calls
returns-clause-calls c =
    let a = c.args in
    marked c.fits_words.ensures (c.if-not-fits_words.false) c.counts_of-c.ensures.value (no_place a.what c.counts_of-c.result a.words.now.free.now) c.row_at-row.ensures (not_set a.what) c.mark-t.ensures c.put_touched.ensures
