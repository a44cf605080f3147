-- `call` meets its contract: `touch` ensures it of any rows among which the row found is the one to touch, and the lent ones are such rows. Then the
-- rows, claimed and released, and the counts, accepted and released, are put in place.
use Rattle.std.proofs.Common.{◌≡◌, ℕ, List, sym, refl, ap, ◌∙◌, subst, set, slice_index_or}
use Rattle.model.specs.declared.Counts.{Counts}
use Rattle.model.specs.declared.Row.{Row}
use Rattle.model.specs.State.{freed}
use Rattle.optable.specs.Counted.{accepted_if, released_by}
use Rattle.optable.specs.Claimed.{released_in}
use Rattle.optable.specs.Called.{lent_of, place_of, CallsTo}
use Rattle.optable.proofs.Claims.{claimed_released}
use Rattle.submitter.proofs.call.Goals as goal

pub returns-clause-calls : goal.returns-clause-calls
returns-clause-calls c =
    let a = c.args in
    let rows = a.rows.now in
    let t = c.touch-t.result in
    let w = a.words.now in
    let new = c.touch-t.new.words in
    let pool = c.touch-t.new.pool in
    let place = place_of a.call a.counts.now w.free.now in
    let at_is : c.place-at.result ≡ place = c.place-at.ensures ∙ ap (place_of a.call a.counts.now) c.view.ensures.1 in
    let l = lent_of rows w.store.now w.free.now w.ready.now w.owners.now a.pool.now in
    let found : c.find-row.result ≡ slice_index_or rows place (freed 0) =
    c.find-row.ensures ∙ ap (λ (at : ℕ). slice_index_or rows at (freed 0)) at_is in
    let rows_are : c.release.new.rows ≡ set rows place t.row =
    c.release.ensures ∙ ap (released_in t.frees c.place-at.result t.row) c.claim.ensures ∙ claimed_released t.frees c.place-at.result t.row rows
    ∙ ap (λ (at : ℕ). set rows at t.row) at_is in
    let counts_are : c.release-2.new.counts ≡ released_by t.frees (accepted_if t.accepts a.counts.now) =
    c.release-2.ensures ∙ ap (released_by t.frees) c.accept.ensures in
    subst (λ (d : Counts). CallsTo a.call a.counts.now l t.reply d (lent_of c.release.new.rows new.store.now new.free.now new.ready.now new.owners.now pool)) (sym counts_are)
    (subst (λ (ys : List Row). CallsTo a.call a.counts.now l t.reply (released_by t.frees (accepted_if t.accepts a.counts.now)) (lent_of ys new.store.now new.free.now new.ready.now new.owners.now pool)) (sym rows_are)
    (c.touch-t.ensures.touches rows refl found))
