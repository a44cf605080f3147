-- A live row is freed: it goes on top of the free stack, at a generation, with a completion or none, and its buffer goes to the completion or to the host, or is
-- lost. The table stays sound.
use mathlib.Core.Path.{◌≡◌, refl, ◌∙◌}
use mathlib.Core.Logic.{◌≢◌}
use mathlib.Core.Option.{Option}
use mathlib.Core.List.{List, [], ◌∷◌, ◌++◌}
use Prim.Native.Nat.{ℕ, ◌+◌, ◌≤◌, ◌<◌, ◌^◌}
use native.Mathlib.Omega.{arith}
use lib.ListN.{length, get_or, set, length-set, length-append}
use Rattle.domain.specs.declared.FirstCause.{FirstCause}
use Rattle.completion.specs.declared.Outcome.{Outcome}
use Rattle.completion.specs.Buffers.{Buffer}
use Rattle.std.specs.declared.option.Option.TheVariants.{Some as Back, None as Lost}
use Rattle.completion.specs.declared.Completion.{Completion}
use Rattle.model.specs.declared.Row.{Row}
use Rattle.model.specs.State.{Owner, Owner.host, Owner.table, Owner.lost, State, freed, awaiting}
use Rattle.step.specs.Step.{row_at, bytes_at, one_less, kept_by, poison_with, freeing, completion_of}
use Rattle.step.specs.Sound.{row_holds, holds, ready_hold, table_has, Sound}
use Rattle.step.proofs.Places.{by_place}
use Rattle.step.proofs.Counts.{times_same, times_other, holds_none, holds_own, holds_other, ready_join, back_holds_own, back_holds_other, has_most}
use Rattle.step.proofs.Fates.{Own}
use Rattle.step.proofs.Buffers.{filled_pool}
use Rattle.step.proofs.Marked.{keeps_besides}
use Rattle.step.proofs.Replaced.{Change, changed, Fits, live_replaced, hold_replaced, keeps_changed}

-- where the buffer b goes: to one completion, if the table keeps it, or to none
pub record Goes (b : ℕ) (more : List Completion) (who : Owner) : Type 0 where
  pub few : length more ≤ 1
  pub own : ready_hold b more ≡ table_has who
  pub other : (k : ℕ) → k ≢ b → ready_hold k more ≡ 0

-- an operation that ends keeps its buffer in its completion
pub goes_completed : (b : ℕ) (r : Row) (o : Outcome) (buf : Buffer) → Own b buf → Goes b (completion_of r o buf ∷ []) (kept_by table buf)
unfolding Own kept_by completion_of ready_hold table_has holds
goes_completed b r o (Back h) e = record {
  few = omega arith;
  own = rw e (omega (arith, back_holds_own b h.len));
  other = λ j ne. omega (arith, back_holds_other j h.buffer h.len (λ same. ne (same ∙ e)));
}
goes_completed b r o Lost e = record { few = omega arith; own = omega arith; other = λ j ne. omega arith }

-- one that is rejected gives it to the host
pub goes_back : (b : ℕ) (buf : Buffer) → Goes b [] (kept_by host buf)
unfolding kept_by ready_hold table_has
goes_back b (Back h) = record { few = omega arith; own = refl; other = λ j ne. refl }
goes_back b Lost = record { few = omega arith; own = refl; other = λ j ne. refl }

freed_none : (g : ℕ) → awaiting (freed g).awaits ≡ 0
unfolding freed awaiting
freed_none g = refl

module _ (s : State) (i : Sound s) (r : ℕ) (below : r < s.settings.depth) (live : awaiting (row_at s r).awaits ≡ 1) where
  abbrev row : Row
  row = row_at s r

  pub some_live : 1 ≤ s.counts.live
  some_live = omega (arith, live_replaced s i r below (freed 0), freed_none 0, i.live)

  -- the table has the buffer of a live row
  pub had : table_has (get_or s.owners row.buffer lost) ≡ 1
  had = omega (arith, hold_replaced s i r below row.buffer (freed 0), holds_own row, holds_none row.buffer (freed 0) (freed_none 0), i.holders row.buffer, has_most (get_or s.owners row.buffer lost))

  module _ (g : ℕ) (small : g < 2 ^ 32) (more : List Completion) (who : Owner) (w : Goes row.buffer more who) where
    abbrev change : Change
    change = record { row = freed g; counts = one_less s.counts (length more); free = r ∷ s.free; ready = s.ready ++ more; owners = set s.owners row.buffer who }

    holders : (b : ℕ) → row_holds b (freed g) + ready_hold b (s.ready ++ more) + table_has (get_or s.owners b lost) ≡ row_holds b row + ready_hold b s.ready + table_has (get_or change.owners b lost)
    holders =
        by_place s.owners row.buffer who lost (rw i.owners (i.in_table r below live).buffer)
        (λ b x. row_holds b (freed g) + ready_hold b (s.ready ++ more) + table_has (get_or s.owners b lost) ≡ row_holds b row + ready_hold b s.ready + table_has x)
        (omega (arith, holds_none row.buffer (freed g) (freed_none g), ready_join row.buffer s.ready more, had, holds_own row, w.own))
        (λ b n. omega (arith, holds_none b (freed g) (freed_none g), ready_join b s.ready more, holds_other b row n, w.other b n))

    fits : Fits s r change
    unfolding one_less freed awaiting
    fits = record {
      below = below;
      live = omega (arith, some_live, live);
      ready = omega (arith, length-append s.ready more, i.ready);
      most = omega (arith, some_live, w.few, i.most);
      later = omega arith;
      submissions = i.submissions;
      stack = omega (arith, live);
      here = omega (arith, times_same r s.free, live);
      other = λ j n. times_other j r s.free n;
      owners = length-set s.owners row.buffer who;
      holders = holders;
      generation = small;
      in_table = λ one. absurd (omega arith);
      seq = λ one j n lt a. absurd (omega arith);
    }

    pub keeps_freeing : (bytes : List ℕ) (cause : Option FirstCause) → length bytes ≡ length (bytes_at s row.buffer) → Sound (freeing s r row g more who bytes cause)
    unfolding freeing
    keeps_freeing bytes cause e =
        keeps_besides (changed s r change) s.regions (poison_with s.poison cause) _ (keeps_changed s i r change fits) refl (filled_pool s i row.buffer (i.in_table r below live).buffer bytes e)
