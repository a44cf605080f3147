-- From what the parts of a host's opening ensure to what it ensures. An admitted opening has 1 row at least and no more than are lent, so all its rows are
-- freed and the reply is the table; of a refused one no row is, and the reply is 13. The other parts are prepare's.
use mathlib.Core.Path.{◌≡◌, refl, sym, ◌∙◌, ap}
use mathlib.Core.Logic.{◌⊎◌, inl, inr}
use mathlib.Core.Bool.{Bool, true, false}
use mathlib.Core.Option.{none, some}
use mathlib.Core.List.{List}
use Rattle.std.specs.declared.option.Option.{Option}
use Rattle.std.specs.declared.option.Option.TheVariants.{None, Some}
use Rattle.std.specs.declared.result.Result.TheVariants.{Ok}
use Prim.Native.Nat.{ℕ, min}
use native.Mathlib.Nat.{min-eq_left}
use lib.ListN.{length}
use Rattle.layout.specs.Pick.{pick}
use Rattle.layout.proofs.Tests.{true_or_false}
use Rattle.completion.specs.Numbers.{number}
use Rattle.model.specs.declared.Opening.{Opening}
use Rattle.model.specs.declared.Lengths.{Lengths}
use Rattle.model.specs.declared.Row.{Row}
use Rattle.model.specs.Memory.{Lent, lengths_of, rows_opened, opened_lent, lent_after}
use Rattle.model.specs.Opening.{opens}
use Rattle.model.proofs.Rules.{room_holds}
use Rattle.memory.specs.Lengths.{lengths_with}
use Rattle.opening.specs.Prepared.{Prepared}
use Rattle.model.specs.State.{fresh}
use Rattle.opening.specs.Opened.{Opened, refused, opened_with, opened_number, OpensTo}

-- a part of what is picked is picked of the parts
pick_part : {A B : Type 0} (f : A → B) (t : Bool) (a b : A) → pick t (f a) (f b) ≡ f (pick t a b)
unfolding pick
pick_part f true a b = refl
pick_part f false a b = refl

pick_yes : {A : Type 0} (t : Bool) (a b : A) → t ≡ true → pick t a b ≡ a
unfolding pick
pick_yes t a b h = ap (λ (u : Bool). pick u a b) h

pick_no : {A : Type 0} (t : Bool) (a b : A) → t ≡ false → pick t a b ≡ b
unfolding pick
pick_no t a b h = ap (λ (u : Bool). pick u a b) h

-- 13 on refusal, and no number else
number_of : (t : Bool) → opened_number (pick t (Ok fresh) refused) ≡ pick t none (some 13)
unfolding pick opened_number number
number_of true = refl
number_of false = refl

module _ (o : Opening) (plan : List ℕ) (rows : List Row) (store free ready owners pool : List ℕ) where
  abbrev lent : Lent
  lent = record { rows = rows; store = store; free = free; ready = ready; owners = owners; pool = pool }

  -- the lengths that `prepare` is given
  abbrev lengths : Lengths
  lengths = lengths_with (length rows) store free ready owners (length pool)

  abbrev admitted : Bool
  admitted = opens o plan lengths

  -- the rows that are freed, of so many as were prepared
  abbrev pub rows_by : Option ℕ → List Row
  rows_by None = rows
  rows_by (Some depth) = rows_opened (min depth (length rows)) rows

  pub none_by : (depth : Option ℕ) → ((n : ℕ) → depth ≡ Some n → ⊥) → rows ≡ rows_by depth
  none_by None other = refl
  none_by (Some n) other = absurd (other n refl)

  module _ (depth : Option ℕ) (depth_is : depth ≡ pick admitted (Some o.depth) None) where
    rows_agree : (admitted ≡ true) ⊎ (admitted ≡ false) → rows_by depth ≡ pick admitted (rows_opened o.depth rows) rows
    rows_agree (inl h) =
        ap rows_by (depth_is ∙ pick_yes admitted (Some o.depth) None h) ∙ ap (λ (n : ℕ). rows_opened n rows) (min-eq_left (room_holds o plan lengths h).rows)
        ∙ sym (pick_yes admitted (rows_opened o.depth rows) rows h)
    rows_agree (inr h) = ap rows_by (depth_is ∙ pick_no admitted (Some o.depth) None h) ∙ sym (pick_no admitted (rows_opened o.depth rows) rows h)

    reply_agrees : (admitted ≡ true) ⊎ (admitted ≡ false) → opened_with depth ≡ pick admitted (Ok fresh) refused
    unfolding opened_with
    reply_agrees (inl h) = ap opened_with (depth_is ∙ pick_yes admitted (Some o.depth) None h) ∙ sym (pick_yes admitted (Ok fresh) refused h)
    reply_agrees (inr h) = ap opened_with (depth_is ∙ pick_no admitted (Some o.depth) None h) ∙ sym (pick_no admitted (Ok fresh) refused h)

  pub opens_to : (depth : Option ℕ) (r : Opened) (rows' : List Row) (store' free' ready' owners' : List ℕ) → Prepared o plan lengths depth store free ready owners store' free' ready' owners'
      → rows' ≡ rows_by depth → r ≡ opened_with depth → OpensTo o plan lent r rows' store' free' ready' owners'
  unfolding lengths_of opened_lent lent_after
  opens_to depth r rows' store' free' ready' owners' p e-rows e-reply = record {
    reply = e-reply ∙ reply_agrees depth p.depth_is (true_or_false admitted);
    number_is = ap opened_number (e-reply ∙ reply_agrees depth p.depth_is (true_or_false admitted)) ∙ number_of admitted;
    rows_are = e-rows ∙ rows_agree depth p.depth_is (true_or_false admitted) ∙ pick_part (λ (m : Lent). m.rows) admitted (opened_lent o plan lent) lent;
    store_is = p.store_is ∙ pick_part (λ (m : Lent). m.store) admitted (opened_lent o plan lent) lent;
    free_is = p.free_is ∙ pick_part (λ (m : Lent). m.free) admitted (opened_lent o plan lent) lent;
    ready_is = p.ready_is ∙ pick_part (λ (m : Lent). m.ready) admitted (opened_lent o plan lent) lent;
    owners_are = p.owners_is ∙ pick_part (λ (m : Lent). m.owners) admitted (opened_lent o plan lent) lent;
  }
