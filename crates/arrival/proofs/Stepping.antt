-- What becomes of the operation that a tag names, carried into what is lent, is the step's: by cases of what becomes of it.
use Rattle.std.proofs.Common.{◌≡◌, ℕ, ◌^◌, ◌<◌, true, List, get_or, set, sym, ap, ◌∙◌}
use lib.Seq.{set-get_or}
use Rattle.layout.specs.Pick.{pick}
use Rattle.std.specs.declared.option.Option.{Option}
use Rattle.std.specs.declared.option.Option.TheVariants.{None, Some}
use Rattle.domain.specs.declared.FirstCause.{FirstCause}
use Rattle.completion.specs.declared.Outcome.{Outcome}
use Rattle.completion.specs.Buffers.{Buffer}
use Rattle.completion.specs.declared.Reply.{Reply}
use Rattle.completion.specs.declared.Reply.TheVariants.{No as turnedAway, Done}
use Rattle.model.specs.declared.Counts.{Counts}
use Rattle.model.specs.declared.Opening.{Opening}
use Rattle.model.specs.declared.Row.{Row}
use Rattle.model.specs.State.{State, freed}
use Rattle.model.specs.Memory.{Lent, OutcomeFits, CompletionFits, lengths_of, same_lengths, settings_in, state_in}
use Rattle.step.specs.Questions.{region_at}
use Rattle.step.specs.Step.{row_of, names, bytes_at, plan_of, settled, rejection, completion_of}
use Rattle.step.specs.Sound.{Sound}
use Rattle.step.specs.Rules.{range_end}
use Rattle.step.proofs.Fates.{Fitting, FateFits}
use Rattle.optable.specs.Counted.{accepted_if, released_by}
use Rattle.optable.specs.declared.touched.Touched.{Touched}
use Rattle.optable.specs.Called.{lent_of, away_with}
use Rattle.memory.specs.declared.liveregion.LiveRegion.{LiveRegion}
use Rattle.memory.specs.Live.{live_of}
use Rattle.settle.specs.declared.Finished.{Finished}
use Rattle.settle.specs.declared.Finished.TheVariants.{Away, Next, Ended, Rejected}
use Rattle.settle.specs.Finished.{cause_is, fate_by, plan_with}
use Rattle.arrival.specs.Carried.{store_by, free_by, ready_by, owners_by, pool_by, TouchedBy, Carried}
use Rattle.arrival.proofs.Parts.{CauseFits}
use Rattle.arrival.proofs.Settling.{going_in, rejected_in, ended_in}
use Rattle.arrival.proofs.Holding.{held, in_table}
use Rattle.arrival.proofs.Wording.{SomeFits, FateWords}
use Rattle.arrival.proofs.Replies.{asked}

cause_is_lem : (p : Option FirstCause) → SomeFits (cause_is p) → CauseFits p
unfolding SomeFits cause_is CauseFits
cause_is_lem None fits = tt
cause_is_lem (Some cause) fits = fits

completes : (o : Opening) (row : Row) (x : Outcome) (b : Buffer) → OutcomeFits o x → CompletionFits o (completion_of row x b)
unfolding completion_of
completes o row x b w = record { outcome = w }

module _ (c : Counts) (rows : List Row) (store free ready owners pool : List ℕ) (i : Sound (state_in c (lent_of rows store free ready owners pool)))
    (same : same_lengths (lengths_of (lent_of rows store free ready owners pool)) store ≡ true) (t : ℕ) (row : Row) (found : row ≡ get_or rows (row_of t) (freed 0))
    (below : row_of t < (settings_in store).depth) (named : names row t ≡ true) (small : range_end row.awaits < 2 ^ 64) where
  abbrev l : Lent
  l = lent_of rows store free ready owners pool

  abbrev s : State
  s = state_in c l

  -- what is lent after, by what becomes of the operation, and the state and the reply
  abbrev after : Finished → Touched → Lent
  after f x = lent_of (set rows (row_of t) x.row) (store_by f store) (free_by f c.live (row_of t) free) (ready_by f (settings_in store).depth c.ready row ready) (owners_by f row owners) (pool_by f (settings_in store).capacity row pool)

  abbrev result : Finished → Touched → State × Reply
  result f x = (state_in (released_by x.frees (accepted_if x.accepts c)) (after f x), x.reply)

  module _ (g : LiveRegion) (g-is : g ≡ live_of (region_at s row.handle)) where
    pub plan_is : plan_with g (region_at s row.handle).map ≡ plan_of (region_at s row.handle)
    unfolding plan_with plan_of live_of
    plan_is = ap (λ (x : LiveRegion). plan_with x (region_at s row.handle).map) g-is

    by_fate : (f : Finished) (r : Touched) → TouchedBy f t row g store r → FateWords (settings_in store) (fate_by f (bytes_at s row.buffer)) → FateFits s row (fate_by f (bytes_at s row.buffer))
        → settled s t row (fate_by f (bytes_at s row.buffer)) ≡ result f r
    unfolding settled fate_by store_by free_by ready_by owners_by pool_by TouchedBy FateWords Fitting released_by accepted_if pick away_with
    by_fate (Away f) r e words fits =
        (λ j. (state_in c (lent_of (sym (ap (set rows (row_of t)) found ∙ set-get_or rows (row_of t) (freed 0)) j) store free ready owners pool), turnedAway f))
        ∙ ap (result (Away f)) (sym e)
    by_fate (Next a turn) r e words fits =
        (λ j. (
          sym (going_in c rows store free ready owners pool (row_of t) row (held c rows store free ready owners pool i same t row found below named) a turn) j,
          sym (asked c rows store free ready owners pool i same t row (in_table c rows store free ready owners pool i same t row found below named) small a fits.0 r.reply e.0) j,
        ))
        ∙ ap (result (Next a turn)) (sym e.1)
    by_fate (Ended end) r e words fits =
        (λ j. (sym (ended_in c rows store free ready owners pool (row_of t) row (held c rows store free ready owners pool i same t row found below named) end.outcome end.buf end.turn end.cause (completes (settings_in store) row end.outcome end.buf words.0) (cause_is_lem end.cause words.1)) j, Done t))
        ∙ ap (result (Ended end)) (sym e)
    by_fate (Rejected e b) r is words fits =
        (λ j. (
          sym (rejected_in c rows store free ready owners pool (row_of t) row (held c rows store free ready owners pool i same t row found below named) b) j,
          rejection (sym plan_is j) row.awaits e b,
        ))
        ∙ ap (result (Rejected e b)) (sym (is (region_at s row.handle).map))

    -- with the parts of what is lent as the code leaves them
    pub carried : (f : Finished) (r : Touched) (store' free' ready' owners' pool' : List ℕ) → Carried f t row (settings_in store) g c store free ready owners pool r store' free' ready' owners' pool'
        → FateWords (settings_in store) (fate_by f (bytes_at s row.buffer)) → FateFits s row (fate_by f (bytes_at s row.buffer))
        → settled s t row (fate_by f (bytes_at s row.buffer)) ≡ (state_in (released_by r.frees (accepted_if r.accepts c)) (lent_of (set rows (row_of t) r.row) store' free' ready' owners' pool'), r.reply)
    carried f r store' free' ready' owners' pool' k words fits =
        by_fate f r k.touched_is words fits
        ∙ (λ j. (state_in (released_by r.frees (accepted_if r.accepts c)) (lent_of (set rows (row_of t) r.row) (sym k.store_is j) (sym k.free_is j) (sym k.ready_is j) (sym k.owners_is j) (sym k.pool_is j)), r.reply))
