-- `mayfill::may_fill` meets its contract: by the tests that it makes (May).
use mathlib.Core.Path.{◌≡◌, refl, sym, ◌∙◌}
use mathlib.Core.Bool.{Bool}
use mathlib.Core.List.{List}
use Prim.Native.Nat.{ℕ}
use native.Mathlib.Omega.{arith}
use lib.ListN.{get_or}
use Rattle.layout.proofs.Tests.{not_both}
use Rattle.model.specs.Memory.{settings_in}
use Rattle.hostfill.specs.Writes.{in_pool}
use Rattle.hostfill.proofs.May.{in_capacity, not_inside, is_held, by_rows}
use Rattle.hostfill.proofs.mayfill.may_fill.Goals as goal

-- what the words hold is what the pool is asked by
tested : (store pool : List ℕ) (buffers capacity b at n : ℕ) (r : Bool) → buffers ≡ get_or store 4 0 → capacity ≡ get_or store 5 0 → r ≡ in_pool buffers capacity pool b at n
    → r ≡ in_pool (settings_in store).buffers (settings_in store).capacity pool b at n
unfolding settings_in
tested store pool buffers capacity b at n r p q e = e ∙ (λ j. in_pool (p j) (q j) pool b at n)

pub returns-then-not-in_pool : goal.returns-then-not-in_pool
returns-then-not-in_pool c =
    let a = c.args in
    let is = tested a.store.now a.pool.now _ _ a.b a.at a.n _ c.word-buffers.ensures c.word-capacity.ensures c.in_pool.ensures in
    let out = sym is ∙ c.if-not-in_pool.true in
    record {
      inside = λ e. absurd (not_both e refl);
      as_may = λ n free ready o. not_inside n a.rows a.store.now free ready a.owners.now a.pool.now o a.b a.at a.n out;
    }

pub returns-then-word-eq0 : goal.returns-then-word-eq0
returns-then-word-eq0 c =
    let a = c.args in
    let is = tested a.store.now a.pool.now _ _ a.b a.at a.n _ c.word-buffers.ensures c.word-capacity.ensures c.in_pool.ensures in
    let in_is = sym is ∙ c.if-not-in_pool.false in
    record {
      inside = λ e. in_is;
      as_may = λ n free ready o. is_held n a.rows a.store.now free ready a.owners.now a.pool.now o a.b a.at a.n in_is (sym c.word.ensures ∙ c.if-word-eq0.true);
    }

pub overflow_add-at : goal.overflow_add-at
overflow_add-at c =
    let a = c.args in
    let is = tested a.store.now a.pool.now _ _ a.b a.at a.n _ c.word-buffers.ensures c.word-capacity.ensures c.in_pool.ensures in
    let in_is = sym c.in_pool.ensures ∙ c.if-not-in_pool.false in
    let most = in_capacity _ _ a.pool.now a.b a.at a.n in_is in
    omega (arith, most)

pub returns : goal.returns
returns c =
    let a = c.args in
    let is = tested a.store.now a.pool.now _ _ a.b a.at a.n _ c.word-buffers.ensures c.word-capacity.ensures c.in_pool.ensures in
    let in_is = sym is ∙ c.if-not-in_pool.false in
    record {
      inside = λ e. in_is;
      as_may = λ n free ready o.
          by_rows n a.rows a.store.now free ready a.owners.now a.pool.now o a.b a.at a.n in_is (λ e. c.if-word-eq0.false (c.word.ensures ∙ e)) c.any_loose.result
          (c.any_loose.ensures n free ready a.owners.now a.pool.now o);
    }
