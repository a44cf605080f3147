-- `calls::arrive` meets its contract: the call is its arm's (Each).
use mathlib.Core.Path.{ap, ◌∙◌}
use Rattle.model.specs.declared.Call.{Call}
use Rattle.optable.specs.Called.{place_of}
use Rattle.entry.proofs.Each.{unlike, armed, not_arrived}
use Rattle.entry.proofs.calls.arrive.Goals as goal

pub returns-then-not-fits_words-clause-calls : goal.returns-then-not-fits_words-clause-calls
returns-then-not-fits_words-clause-calls c = unlike c.fits_words.ensures (c.if-not-fits_words.true)

pub returns-clause-calls : goal.returns-clause-calls
returns-clause-calls c =
    let a = c.args in
    let at-is = c.place-at.ensures ∙ ap (place_of c.call_of.result c.counts_of-c.result) c.view.ensures.1 ∙ ap (λ (x : Call). place_of x c.counts_of-c.result a.words.now.free.now) c.call_of.ensures in
    armed c.fits_words.ensures c.if-not-fits_words.false c.counts_of-c.ensures.value at-is c.row_at-row.ensures (not_arrived a.qtag a.what) c.arrive-t.ensures.arm c.put_touched.ensures
