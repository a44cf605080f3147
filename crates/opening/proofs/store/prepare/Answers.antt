-- `store::prepare` meets its contract: on refusal nothing is written; on admission each part is written by a function that says what it then holds.
use mathlib.Core.Path.{◌≡◌, sym, ap, ◌∙◌}
use mathlib.Core.Bool.{Bool, true, false}
use mathlib.Core.List.{List, ◌++◌}
use Prim.Native.Nat.{ℕ, ◌≤◌}
use native.Mathlib.Omega.{arith}
use lib.ListN.{length, drop, replicate, length-replicate}
use Rattle.std.specs.declared.option.Option.TheVariants.{None, Some}
use Rattle.layout.specs.Pick.{pick}
use Rattle.model.specs.declared.Opening.{Opening}
use Rattle.model.specs.declared.Lengths.{Lengths}
use Rattle.model.specs.State.{up_from}
use Rattle.model.specs.Memory.{over, store_opened, free_opened, ready_opened, owners_opened}
use Rattle.model.specs.Opening.{opens}
use Rattle.model.proofs.Rules.{numbers_hold, plan_listed, room_holds}
use Rattle.model.proofs.Opened.{length_up}
use Rattle.memory.specs.Words.{lengths_lent}
use Rattle.opening.specs.Prepared.{Prepared}
use Rattle.opening.proofs.store.prepare.Goals as goal
use Rattle.opening.proofs.store.prepare.Goals.{Else-not-admits}

-- the two cases
module _ (o : Opening) (plan : List ℕ) (l : Lengths) (store free ready owners : List ℕ) where
  refused : opens o plan l ≡ false → Prepared o plan l None store free ready owners store free ready owners
  unfolding pick
  refused bad = record {
    depth_is = sym (ap (λ (t : Bool). pick t (Some o.depth) None) bad);
    store_is = sym (ap (λ (t : Bool). pick t (store_opened o plan l store) store) bad);
    free_is = sym (ap (λ (t : Bool). pick t (free_opened o.depth free) free) bad);
    ready_is = sym (ap (λ (t : Bool). pick t (ready_opened ready) ready) bad);
    owners_is = sym (ap (λ (t : Bool). pick t (owners_opened o.buffers owners) owners) bad);
  }

  written : (store' free' ready' owners' : List ℕ) → opens o plan l ≡ true → store' ≡ store_opened o plan l store → free' ≡ up_from 0 o.depth ++ drop o.depth free
      → ready' ≡ replicate 1 0 ++ drop 1 ready → owners' ≡ replicate o.buffers 0 ++ drop o.buffers owners
      → Prepared o plan l (Some o.depth) store free ready owners store' free' ready' owners'
  unfolding pick free_opened ready_opened owners_opened over
  written store' free' ready' owners' ok s f r w = record {
    depth_is = sym (ap (λ (t : Bool). pick t (Some o.depth) None) ok);
    store_is = s ∙ sym (ap (λ (t : Bool). pick t (store_opened o plan l store) store) ok);
    free_is =
        f ∙ ap (λ (n : ℕ). up_from 0 o.depth ++ drop n free) (sym (length_up 0 o.depth))
        ∙ sym (ap (λ (t : Bool). pick t (free_opened o.depth free) free) ok);
    ready_is = r ∙ sym (ap (λ (t : Bool). pick t (ready_opened ready) ready) ok);
    owners_is =
        w ∙ ap (λ (n : ℕ). replicate o.buffers 0 ++ drop n owners) (sym (length-replicate o.buffers 0))
        ∙ sym (ap (λ (t : Bool). pick t (owners_opened o.buffers owners) owners) ok);
  }

-- the lengths that the opening is judged by
module _ (c : Else-not-admits) where
  abbrev given : Lengths
  given = lengths_lent c.args.rows c.args.words.now c.args.pool

  admitted : opens c.args.o c.args.plan.now given ≡ true
  admitted = ap (opens c.args.o c.args.plan.now) (sym c.lengths-l.ensures) ∙ sym c.admits.ensures ∙ c.if-not-admits.false

pub returns-then-not-admits-clause-prepared : goal.returns-then-not-admits-clause-prepared
returns-then-not-admits-clause-prepared c =
    let a = c.args in
    refused a.o a.plan.now (lengths_lent a.rows a.words.now a.pool) a.words.now.store.now a.words.now.free.now a.words.now.ready.now a.words.now.owners.now
    (ap (opens a.o a.plan.now) (sym c.lengths-l.ensures) ∙ sym c.admits.ensures ∙ c.if-not-admits.true)

pub put_store-requires : goal.put_store-requires
put_store-requires c =
    let a = c.args in
    let ok = admitted (goal.at.put_store-requires c).Else-not-admits in
    ((numbers_hold a.o a.plan.now (given (goal.at.put_store-requires c).Else-not-admits) ok).most_regions, (plan_listed a.o a.plan.now (given (goal.at.put_store-requires c).Else-not-admits) ok, (room_holds a.o a.plan.now (given (goal.at.put_store-requires c).Else-not-admits) ok).store))

pub count_up-requires : goal.count_up-requires
count_up-requires c =
    let a = c.args in
    (room_holds a.o a.plan.now (given (goal.at.count_up-requires c).Else-not-admits) (admitted (goal.at.count_up-requires c).Else-not-admits)).free

pub zeros-requires : goal.zeros-requires
zeros-requires c =
    let a = c.args in
    let room = (room_holds a.o a.plan.now (given (goal.at.zeros-requires c).Else-not-admits) (admitted (goal.at.zeros-requires c).Else-not-admits)).ready in
    let some : 1 ≤ length a.words.now.ready.now = omega (arith, room) in
    some

pub zeros-requires-2 : goal.zeros-requires-2
zeros-requires-2 c =
    let a = c.args in
    (room_holds a.o a.plan.now (given (goal.at.zeros-requires-2 c).Else-not-admits) (admitted (goal.at.zeros-requires-2 c).Else-not-admits)).owners

pub returns-clause-prepared : goal.returns-clause-prepared
returns-clause-prepared c =
    let a = c.args in
    written a.o a.plan.now (given (goal.at.returns-clause-prepared c).Else-not-admits) a.words.now.store.now a.words.now.free.now a.words.now.ready.now a.words.now.owners.now _ _ _ _ (admitted (goal.at.returns-clause-prepared c).Else-not-admits)
    (c.put_store.ensures ∙ ap (λ (l : Lengths). store_opened a.o a.plan.now l a.words.now.store.now) c.lengths-l.ensures)
    c.count_up.ensures
    c.zeros.ensures
    c.zeros-2.ensures
