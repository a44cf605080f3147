-- A call with another length of row memory or pool leaves all as it was.
use mathlib.Core.Path.{◌≡◌, refl, sym, ap, ◌∙◌, subst}
use mathlib.Core.Bool.{Bool, false}
use mathlib.Core.List.{List}
use Prim.Native.Nat.{ℕ}
use lib.ListN.{length, get_or, set}
use lib.Seq.{set-get_or}
use Rattle.layout.specs.Pick.{pick}
use Rattle.completion.specs.declared.Refusal.TheVariants.{Unfit}
use Rattle.completion.specs.declared.Reply.TheVariants.{No as turnedAway}
use Rattle.model.specs.declared.Counts.{Counts}
use Rattle.model.specs.declared.Row.{Row}
use Rattle.model.specs.declared.Call.{Call}
use Rattle.model.specs.State.{freed}
use Rattle.model.specs.Memory.{Lent, lengths_of, same_lengths, state_in}
use Rattle.step.specs.Step.{called, step}
use Rattle.step.specs.Sound.{Sound}
use Rattle.step.proofs.Memory.{lengths_same}
use Rattle.optable.specs.Counted.{accepted_if, released_by}
use Rattle.optable.specs.declared.touched.Touched.{Touched}
use Rattle.optable.specs.Called.{lent_of, away_with, place_of, CallsTo, TouchesTo}

-- a call that is turned away with 13 leaves the row, put back as it was found, and all else
module _ (call : Call) (row : Row) (c : Counts) (rows : List Row) (store free ready owners pool : List ℕ) (found : row ≡ get_or rows (place_of call c free) (freed 0))
    (other : same_lengths (lengths_of (lent_of rows store free ready owners pool)) store ≡ false) where
  abbrev lent : Lent
  lent = lent_of rows store free ready owners pool

  put_back : lent_of (set rows (place_of call c free) row) store free ready owners pool ≡ lent
  put_back = ap (λ (rs : List Row). lent_of rs store free ready owners pool) (ap (set rows (place_of call c free)) found ∙ set-get_or rows (place_of call c free) (freed 0))

  another_length_step : Sound (state_in c lent) → step (state_in c lent) (lengths_of lent) call ≡ (state_in c lent, turnedAway Unfit)
  unfolding step pick state_in
  another_length_step i = ap (λ (b : Bool). pick b (called (state_in c lent) call) (state_in c lent, turnedAway Unfit)) (sym (lengths_same c lent i) ∙ other)

  nothing_changed : CallsTo call c lent (turnedAway Unfit) c lent
  nothing_changed = record {
    another_length = λ _. refl;
    turned_away = λ f x. (refl, refl);
    none_ready = λ e x. (refl, refl);
    as_step = another_length_step;
    beyond = λ i. record { lengths = refl; rows = refl; store = refl; free = refl; ready = refl; owners = refl };
  }

  pub unfit_here : CallsTo call c lent (away_with row Unfit).reply (released_by (away_with row Unfit).frees (accepted_if (away_with row Unfit).accepts c)) (lent_of (set rows (place_of call c free) (away_with row Unfit).row) store free ready owners pool)
  unfolding away_with released_by accepted_if pick
  unfit_here = subst (CallsTo call c lent (turnedAway Unfit) c) (sym put_back) nothing_changed

pub unfit : (call : Call) (row : Row) (c : Counts) (n : ℕ) (store free ready owners pool : List ℕ) (o : Touched) → o ≡ away_with row Unfit
    → ((rows : List Row) → length rows ≡ n → same_lengths (lengths_of (lent_of rows store free ready owners pool)) store ≡ false)
    → TouchesTo call row c n store free ready owners pool o store free ready owners pool
unfit call row c n store free ready owners pool o e other rows len found =
    subst (λ (x : Touched). CallsTo call c (lent_of rows store free ready owners pool) x.reply (released_by x.frees (accepted_if x.accepts c)) (lent_of (set rows (place_of call c free) x.row) store free ready owners pool))
    (sym e) (unfit_here call row c rows store free ready owners pool found (other rows len))
