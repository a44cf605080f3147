-- `calls::write` meets its contract: the call is its arm's (Each).
use mathlib.Core.Path.{◌≡◌, ap, ◌∙◌}
use Prim.Native.Nat.{ℕ}
use native.Mathlib.Omega.{arith}
use Rattle.model.specs.declared.Call.TheVariants.{Write}
use Rattle.optable.specs.Called.{place_of}
use Rattle.entry.proofs.Each.{unlike, armed}
use Rattle.entry.proofs.calls.write.Goals as goal

pub returns-then-not-fits_words-clause-calls : goal.returns-then-not-fits_words-clause-calls
returns-then-not-fits_words-clause-calls c = unlike c.fits_words.ensures (c.if-not-fits_words.true)

pub returns-clause-calls : goal.returns-clause-calls
returns-clause-calls c =
    armed c.fits_words.ensures (c.if-not-fits_words.false) c.counts_of-c.ensures.value (c.place-at.ensures ∙ ap (place_of (Write c.args.q) c.counts_of-c.result) c.view.ensures.1) c.row_at-row.ensures (λ e. let z : ◌≡◌ {A = ℕ} 0 1 = cc in omega arith) (c.write-t.ensures _ _) c.put_touched.ensures
