-- From what an opening replies to what became of it.
use mathlib.Core.Path.{◌≡◌, refl, sym, ap, ◌∙◌, subst}
use mathlib.Core.Bool.{Bool, true, false}
use mathlib.Core.List.{List}
use Prim.Native.Nat.{ℕ, ◌*◌}
use native.Mathlib.Omega.{arith}
use lib.ListN.{take}
use Rattle.layout.specs.Pick.{pick}
use Rattle.std.specs.declared.result.Result.TheVariants.{Ok, Err}
use Rattle.completion.specs.declared.Refusal.{Refusal}
use Rattle.model.specs.declared.Opening.{Opening}
use Rattle.model.specs.declared.Counts.{Counts}
use Rattle.model.specs.declared.Row.{Row}
use Rattle.model.specs.State.{fresh}
use Rattle.model.specs.Memory.{Lent, lengths_of}
use Rattle.model.specs.Opening.{opens}
use Rattle.optable.specs.Called.{lent_of}
use Rattle.opening.specs.Opened.{refused, OpensTo, Opened}
use Rattle.session.specs.declared.start.Started.{Started}
use Rattle.session.specs.declared.start.Started.TheVariants.{Table, Refused, TooLarge}
use Rattle.session.specs.Start.{keeps, lent_for, opens_in, started_as, StartsTo}

opens_if : (t : Bool) (x : Counts) (r : Opened) → r ≡ Ok x → r ≡ pick t (Ok fresh) refused → t ≡ true
unfolding pick
opens_if true x r e f = refl
opens_if false x r e f = absurd (let z : ◌≡◌ {A = ℕ} 0 1 = cc in omega arith)

shut_if : (t : Bool) (x : Refusal) (r : Opened) → r ≡ Err x → r ≡ pick t (Ok fresh) refused → t ≡ false
unfolding pick
shut_if false x r e f = refl
shut_if true x r e f = absurd (let z : ◌≡◌ {A = ℕ} 0 1 = cc in omega arith)

module _ (o : Opening) (plan : List ℕ) (rows : List Row) (store free ready owners pool : List ℕ) (n : ℕ) (e : take n pool ≡ take (o.buffers * o.capacity) pool) (r : Opened)
    (rows' : List Row) (store' free' ready' owners' : List ℕ) (to : OpensTo o plan (lent_of rows store free ready owners (take n pool)) r rows' store' free' ready' owners') where
  abbrev l : Lent
  l = lent_of rows store free ready owners pool

  there : OpensTo o plan (lent_for o l) r rows' store' free' ready' owners'
  unfolding lent_for
  there = subst (λ (p : List ℕ). OpensTo o plan (lent_of rows store free ready owners p) r rows' store' free' ready' owners') e to

  starts : (s : Started) → s ≡ started_as o plan l → StartsTo o plan l s rows' store' free' ready' owners'
  starts s is = record {
    started = is;
    rows_are = there.rows_are;
    store_is = there.store_is;
    free_is = there.free_is;
    ready_is = there.ready_is;
    owners_are = there.owners_are;
  }

  pub is_table : (x : Counts) → r ≡ Ok x → StartsTo o plan l Table rows' store' free' ready' owners'
  unfolding started_as opens_in pick
  is_table x known = starts Table (sym (ap (λ (t : Bool). pick t Table (pick (keeps o plan) TooLarge Refused)) (opens_if (opens o plan (lengths_of (lent_for o l))) x r known there.reply)))

  pub is_none : (x : Refusal) → r ≡ Err x → (s : Started) → s ≡ pick (keeps o plan) TooLarge Refused → StartsTo o plan l s rows' store' free' ready' owners'
  unfolding started_as opens_in pick
  is_none x known s is = starts s (is ∙ sym (ap (λ (t : Bool). pick t Table (pick (keeps o plan) TooLarge Refused)) (shut_if (opens o plan (lengths_of (lent_for o l))) x r known there.reply)))
