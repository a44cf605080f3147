-- What keeps all rules opens just where it fits: the rules on numbers, regions and the plan are the same, those on lengths are asked of the program's memory.
use mathlib.Core.Path.{◌≡◌, refl, sym, ap, ◌∙◌}
use mathlib.Core.Bool.{Bool, true, ◌&&◌}
use mathlib.Core.Logic.{⊎_elim}
use mathlib.Core.List.{List}
use Prim.Native.Nat.{ℕ, ◌*◌, min}
use native.Mathlib.Omega.{arith}
use lib.ListN.{length, length-take}
use lib.Dec.{leb}
use borrow.Author.Tests.{leb-true, le-leb, eqb-true, eq-eqb}
use Rattle.layout.proofs.Tests.{true_or_false, not_both, refused, and_left, and_right, and_both}
use Rattle.model.specs.declared.Opening.{Opening}
use Rattle.model.specs.declared.Lengths.{Lengths}
use Rattle.model.specs.Opening.{all_true, number_rules, length_rules, region_rules, pool_rule, memory_rule, store_words, ready_words, admits, plans_in, listed, opens}
use Rattle.model.specs.Memory.{Lent, lengths_of}
use Rattle.model.proofs.Laws.{opening_laws}
use Rattle.session.specs.Start.{lengths_for, keeps, lent_for, opens_in, Memory, StartLaws}

module _ (o : Opening) (plan : List ℕ) where
  abbrev numbers : Bool
  numbers = all_true (number_rules o)

  abbrev regions : Bool
  regions = all_true (region_rules o (plans_in o.regions plan))

  -- an opening opens where the numbers, the pool, the row memory, the list and the regions keep their rules
  apart : (l : Lengths) → opens o plan l ≡ true → (numbers ≡ true) × (pool_rule o l ≡ true) × (memory_rule o l ≡ true) × (listed o plan ≡ true) × (regions ≡ true)
  unfolding opens admits length_rules all_true
  apart l e =
      let rest = and_right numbers _ e in
      let lengths = and_left (pool_rule o l && (memory_rule o l && (listed o plan && true))) regions rest in
      let more = and_right (pool_rule o l) _ lengths in
      (and_left numbers _ e, and_left (pool_rule o l) _ lengths, and_left (memory_rule o l) _ more, and_left (listed o plan) true (and_right (memory_rule o l) _ more), and_right (pool_rule o l && (memory_rule o l && (listed o plan && true))) regions rest)

  joined : (l : Lengths) → numbers ≡ true → pool_rule o l ≡ true → memory_rule o l ≡ true → listed o plan ≡ true → regions ≡ true → opens o plan l ≡ true
  unfolding opens admits length_rules all_true
  joined l n p m ls r = and_both numbers _ n (and_both (pool_rule o l && (memory_rule o l && (listed o plan && true))) regions (and_both (pool_rule o l) _ p (and_both (memory_rule o l) _ m (and_both (listed o plan) true ls refl))) r)

  -- a row memory just as long as needed is long enough
  enough : memory_rule o (lengths_for o) ≡ true
  unfolding lengths_for
  enough =
      and_both (leb o.depth o.depth) _ (le-leb o.depth o.depth (omega arith))
      (and_both (leb (store_words o.regions) (store_words o.regions)) _ (le-leb (store_words o.regions) (store_words o.regions) (omega arith))
      (and_both (leb o.depth o.depth) _ (le-leb o.depth o.depth (omega arith))
      (and_both (leb (ready_words o.depth) (ready_words o.depth)) _ (le-leb (ready_words o.depth) (ready_words o.depth) (omega arith)) (le-leb o.buffers o.buffers (omega arith)))))

  pool_enough : pool_rule o (lengths_for o) ≡ true
  unfolding lengths_for
  pool_enough = eq-eqb (o.buffers * o.capacity) (o.buffers * o.capacity) refl

  kept_law : (l : Lent) → opens_in o plan l ≡ true → keeps o plan ≡ true
  unfolding opens_in keeps
  kept_law l e = let a = apart (lengths_of (lent_for o l)) e in joined (lengths_for o) a.0 pool_enough enough a.3 a.4

  module _ (l : Lent) (m : Memory l) (k : keeps o plan ≡ true) where
    abbrev fitting : Bool
    fitting = leb o.depth 64 && leb (o.buffers * o.capacity) 1048576

    abbrev lent : Lengths
    lent = lengths_of (lent_for o l)

    pool_is : lent.pool ≡ min (o.buffers * o.capacity) 1048576
    unfolding lengths_of lent_for
    pool_is = length-take (o.buffers * o.capacity) l.pool ∙ ap (min (o.buffers * o.capacity)) m.pool

    to_fit : opens_in o plan l ≡ true → fitting ≡ true
    unfolding opens_in lengths_of lent_for
    to_fit e =
        let a = apart lent e in
        let depth = leb-true o.depth (length l.rows) (and_left (leb o.depth (length l.rows)) _ a.2) in
        let pool = eqb-true lent.pool (o.buffers * o.capacity) a.1 in
        let is = pool_is in
        let long = m.rows in
        and_both (leb o.depth 64) _ (le-leb o.depth 64 (omega (arith, depth, long))) (le-leb (o.buffers * o.capacity) 1048576 (omega (arith, pool, is)))

    from_fit : fitting ≡ true → opens_in o plan l ≡ true
    unfolding opens_in keeps lengths_of lent_for
    from_fit f =
        let a = apart (lengths_for o) k in
        let numbers = opening_laws.numbers o plan (lengths_for o) k in
        let depth = leb-true o.depth 64 (and_left (leb o.depth 64) _ f) in
        let bytes = leb-true (o.buffers * o.capacity) 1048576 (and_right (leb o.depth 64) _ f) in
        let is = pool_is in
        let few = numbers.most_regions in
        let owned = numbers.most_buffers in
        let r = m.rows in
        let s = m.store in
        let fr = m.free in
        let rd = m.ready in
        let ow = m.owners in
        joined lent a.0 (eq-eqb lent.pool (o.buffers * o.capacity) (omega (arith, is, bytes)))
        (and_both (leb o.depth (length l.rows)) _ (le-leb o.depth (length l.rows) (omega (arith, depth, r)))
        (and_both (leb (store_words o.regions) (length l.store)) _ (le-leb (store_words o.regions) (length l.store) (omega (arith, few, s)))
        (and_both (leb o.depth (length l.free)) _ (le-leb o.depth (length l.free) (omega (arith, depth, fr)))
        (and_both (leb (ready_words o.depth) (length l.ready)) _ (le-leb (ready_words o.depth) (length l.ready) (omega (arith, depth, rd))) (le-leb o.buffers (length l.owners) (omega (arith, owned, ow)))))))
        a.3 a.4

    fits_law : opens_in o plan l ≡ fitting
    fits_law =
        ⊎_elim (λ e. e ∙ sym (to_fit e)) (λ e. e ∙ sym (refused fitting (λ f. not_both (from_fit f) e))) (true_or_false (opens_in o plan l))

pub start_laws : StartLaws
start_laws = record { kept = kept_law; fits = fits_law }
