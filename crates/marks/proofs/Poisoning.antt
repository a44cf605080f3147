-- Poison reported: of the state it is the laws', and nothing past the store's first 48 words is written.
use mathlib.Core.Path.{◌≡◌, refl, sym, ap, ◌∙◌, subst}
use mathlib.Core.Bool.{true, false}
use mathlib.Core.List.{List}
use Prim.Native.Nat.{ℕ, ◌*◌}
use native.Mathlib.Omega.{arith}
use lib.ListN.{length, drop}
use lib.Seq.{drop-drop}
use Rattle.layout.proofs.Tests.{not_both}
use Rattle.domain.specs.declared.FirstCause.{FirstCause}
use Rattle.completion.specs.declared.Reply.TheVariants.{Ok}
use Rattle.model.specs.declared.Counts.{Counts}
use Rattle.model.specs.declared.Row.{Row}
use Rattle.model.specs.declared.Call.TheVariants.{ReportPoison}
use Rattle.model.specs.Memory.{Lent, lengths_of, same_lengths, settings_in, ErrorFits, state_in}
use Rattle.step.specs.Step.{called, step}
use Rattle.step.specs.Lists.{is_away}
use Rattle.step.specs.Sound.{Sound}
use Rattle.optable.specs.declared.Frees.TheVariants.{Nothing as none}
use Rattle.optable.specs.Called.{lent_of, Beyond, CallsTo}
use Rattle.marks.specs.Marks.{poisoned_in, with_store, MarksTo}
use Rattle.marks.proofs.Calling.{enough, stepped, not_away, put_back}
use Rattle.marks.proofs.Laws.{poison_laws}

module _ (cause : FirstCause) (fits : ErrorFits cause.raw) (c : Counts) (l : Lent) (same : same_lengths (lengths_of l) l.store ≡ true) where
  abbrev new : List ℕ
  new = poisoned_in cause l.store

  poisoned_step : Sound (state_in c l) → step (state_in c l) (lengths_of l) (ReportPoison cause) ≡ (state_in c (with_store l new), Ok)
  unfolding called state_in
  poisoned_step i =
      stepped (ReportPoison cause) c l same i ∙ (λ j. (sym (poison_laws.poisoned c l cause (enough (lengths_of l) l.store same) fits) j, Ok))

  poisoned_beyond : Beyond (settings_in l.store) l (with_store l new)
  unfolding lengths_of
  poisoned_beyond =
      let n = 70 * (settings_in l.store).regions in
      let is = poison_laws.beyond cause l.store in
      record {
        lengths = λ j. record { rows = length l.rows; store = is.0 j; free = length l.free; ready = length l.ready; owners = length l.owners; pool = length l.pool };
        rows = refl;
        store = sym (drop-drop n 48 new) ∙ ap (drop n) is.1 ∙ drop-drop n 48 l.store;
        free = refl;
        ready = refl;
        owners = refl;
      }

  poisoned_calls : CallsTo (ReportPoison cause) c l Ok c (with_store l new)
  unfolding is_away
  poisoned_calls = record {
    another_length = λ e. absurd (not_both same e);
    turned_away = λ f e. not_away Ok f refl e;
    none_ready = λ e is. let z : ◌≡◌ {A = ℕ} 0 1 = cc in absurd (omega arith);
    as_step = poisoned_step;
    beyond = λ i. poisoned_beyond;
  }

pub reports : (cause : FirstCause) → ErrorFits cause.raw → (row : Row) (store store' : List ℕ) → store' ≡ poisoned_in cause store
    → MarksTo (ReportPoison cause) row store (record { row = row; accepts = false; frees = none; reply = Ok }) store'
reports cause fits row store store' is c n free ready owners pool rows len found same =
    let l = lent_of rows store free ready owners pool in
    put_back (ReportPoison cause) row c rows free found l (λ rs. lent_of rs store' free ready owners pool) (record { row = row; accepts = false; frees = none; reply = Ok }) Ok refl
    (subst (λ (w : List ℕ). CallsTo (ReportPoison cause) c l Ok c (lent_of rows w free ready owners pool)) (sym is) (poisoned_calls cause fits c l same))
