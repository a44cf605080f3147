-- The rules on numbers, once admitted, as propositions: each test is taken out of the conjunction and read as an order.
use mathlib.Core.Path.{◌≡◌}
use mathlib.Core.Bool.{Bool, true, ◌&&◌}
use mathlib.Core.List.{List, ◌∷◌}
use Prim.Native.Nat.{ℕ, ◌+◌, ◌*◌, ◌≤◌}
use lib.ListN.{length}
use borrow.Author.Tests.{leb-true, eqb-true}
use lib.Dec.{leb}
use Rattle.layout.specs.Block.{on_block}
use Rattle.layout.proofs.Tests.{and_left, and_right}
use Rattle.model.specs.declared.Opening.{Opening}
use Rattle.model.specs.declared.Lengths.{Lengths}
use Rattle.model.specs.Opening.{between, all_true, number_rules, length_rules, region_rules, admits, plans_in, listed, opens}
use Rattle.model.specs.Meaning.{Numbers, Room}

-- the first test, and the rest
pub head_true : (x : Bool) (xs : List Bool) → all_true (x ∷ xs) ≡ true → x ≡ true
unfolding all_true
head_true x xs h = and_left x (all_true xs) h

pub tail_true : (x : Bool) (xs : List Bool) → all_true (x ∷ xs) ≡ true → all_true xs ≡ true
unfolding all_true
tail_true x xs h = and_right x (all_true xs) h

at_least : (lo hi x : ℕ) → between lo hi x ≡ true → lo ≤ x
at_least lo hi x h = leb-true lo x (and_left (leb lo x) (leb x hi) h)

at_most : (lo hi x : ℕ) → between lo hi x ≡ true → x ≤ hi
at_most lo hi x h = leb-true x hi (and_right (leb lo x) (leb x hi) h)

pub numbers_mean : (o : Opening) → all_true (number_rules o) ≡ true → Numbers o
unfolding number_rules
numbers_mean o h₁ =
    let h₂ = tail_true _ _ h₁ in
    let h₃ = tail_true _ _ h₂ in
    let h₄ = tail_true _ _ h₃ in
    let h₅ = tail_true _ _ h₄ in
    let h₆ = tail_true _ _ h₅ in
    let h₇ = tail_true _ _ h₆ in
    record {
      some_depth = at_least _ _ _ (head_true _ _ h₁);
      most_depth = at_most _ _ _ (head_true _ _ h₁);
      block = head_true _ _ h₂;
      some_buffers = at_least _ _ _ (head_true _ _ h₃);
      most_buffers = at_most _ _ _ (head_true _ _ h₃);
      some_capacity = at_least _ _ _ (and_left (between 1 65536 o.capacity) (on_block o.block o.capacity) (head_true _ _ h₄));
      most_capacity = at_most _ _ _ (and_left (between 1 65536 o.capacity) (on_block o.block o.capacity) (head_true _ _ h₄));
      on_block_lem = and_right (between 1 65536 o.capacity) (on_block o.block o.capacity) (head_true _ _ h₄);
      some_lifetime = at_least _ _ _ (head_true _ _ h₅);
      most_lifetime = at_most _ _ _ (head_true _ _ h₅);
      some_regions = at_least _ _ _ (head_true _ _ h₆);
      most_regions = at_most _ _ _ (head_true _ _ h₆);
      card = leb-true _ _ (head_true _ _ h₇);
    }

-- the plan lists the opening's regions
pub listed_mean : (o : Opening) (plan : List ℕ) (l : Lengths) → all_true (length_rules o (listed o plan) l) ≡ true → 70 * o.regions ≤ length plan
unfolding length_rules listed
listed_mean o plan l h = leb-true _ _ (head_true _ _ (tail_true _ _ (tail_true _ _ h)))

pub room_mean : (o : Opening) (plan : List ℕ) (l : Lengths) → all_true (length_rules o (listed o plan) l) ≡ true → Room o l
unfolding length_rules
room_mean o plan l h =
    let m₁ = head_true _ _ (tail_true _ _ h) in
    let m₂ = and_right (leb o.depth l.rows) _ m₁ in
    let m₃ = and_right (leb (48 + 70 * o.regions) l.store) _ m₂ in
    let m₄ = and_right (leb o.depth l.free) _ m₃ in
    record {
      rows = leb-true _ _ (and_left (leb o.depth l.rows) _ m₁);
      store = leb-true _ _ (and_left (leb (48 + 70 * o.regions) l.store) _ m₂);
      free = leb-true _ _ (and_left (leb o.depth l.free) _ m₃);
      ready = leb-true _ _ (and_left (leb (1 + 16 * o.depth) l.ready) _ m₄);
      owners = leb-true _ _ (and_right (leb (1 + 16 * o.depth) l.ready) _ m₄);
    }

pub pool_mean : (o : Opening) (plan : List ℕ) (l : Lengths) → all_true (length_rules o (listed o plan) l) ≡ true → l.pool ≡ o.buffers * o.capacity
unfolding length_rules
pool_mean o plan l h = eqb-true _ _ (head_true _ _ h)

-- ---- the parts of an admitted opening

module _ (o : Opening) (plan : List ℕ) (l : Lengths) (h : opens o plan l ≡ true) where
  pub numbers_hold : Numbers o
  unfolding opens admits
  numbers_hold = numbers_mean o (and_left (all_true (number_rules o)) _ h)

  rest_holds : (all_true (length_rules o (listed o plan) l) && all_true (region_rules o (plans_in o.regions plan))) ≡ true
  unfolding opens admits
  rest_holds = and_right (all_true (number_rules o)) _ h

  lengths_hold : all_true (length_rules o (listed o plan) l) ≡ true
  lengths_hold = and_left (all_true (length_rules o (listed o plan) l)) _ rest_holds

  pub regions_hold : all_true (region_rules o (plans_in o.regions plan)) ≡ true
  regions_hold = and_right (all_true (length_rules o (listed o plan) l)) _ rest_holds

  pub plan_listed : 70 * o.regions ≤ length plan
  plan_listed = listed_mean o plan l lengths_hold

  pub room_holds : Room o l
  room_holds = room_mean o plan l lengths_hold

  pub pool_holds : l.pool ≡ o.buffers * o.capacity
  pool_holds = pool_mean o plan l lengths_hold
