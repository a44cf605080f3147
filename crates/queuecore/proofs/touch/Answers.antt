-- `queuecore::touch` meets its contract: another length is turned away; else the call is its arm's.
use mathlib.Core.Path.{sym, ap, ◌∙◌}
use Prim.Native.Nat.{ℕ}
use lib.ListN.{length}
use Rattle.model.specs.Memory.{lengths_of, same_lengths}
use Rattle.memory.specs.Words.{lengths_lent}
use Rattle.queuecore.proofs.QueuecoreTouching.{unfit}
use Rattle.queuecore.proofs.touch.Goals as goal

pub returns-then-not-fits-clause-touches : goal.returns-then-not-fits-clause-touches
unfolding lengths_of
returns-then-not-fits-clause-touches c =
    let a = c.args in
    let p = a.words.now in
    unfit a.call a.row a.counts a.rows p.store.now p.free.now p.ready.now p.owners.now a.pool.now c.away.result c.away.ensures
    (λ rows len. (ap (λ (k : ℕ). same_lengths (lengths_lent k p (length a.pool.now)) p.store.now) len ∙ sym c.fits.ensures ∙ c.if-not-fits.true))

pub returns-clause-touches : goal.returns-clause-touches
unfolding lengths_of
returns-clause-touches c =
    let a = c.args in
    let p = a.words.now in
    λ rows len found. c.arm.ensures.arm rows len found
    (ap (λ (k : ℕ). same_lengths (lengths_lent k p (length a.pool.now)) p.store.now) len ∙ sym c.fits.ensures ∙ c.if-not-fits.false)
