-- `plans::runs_on_block` meets its contract: the runs that are left are tested one behind the other.
use mathlib.Core.Path.{◌≡◌, refl, sym, ap, ◌∙◌}
use mathlib.Core.Bool.{Bool, true, false, ◌&&◌, and_assoc}
use mathlib.Core.List.{List}
use Prim.Native.Nat.{ℕ, ◌+◌, ◌*◌}
use native.Mathlib.Omega.{arith}
use borrow.Author.Rules.{rules}
use borrow.Author.Tests.{tests}
use lib.ListN.{get_or}
use Rattle.std.proofs.lemmas.Iterator.{cases_from_all, YieldsList-from_range}
use Rattle.layout.specs.Block.{on_block}
use Rattle.model.specs.Opening.{runs_on_block}
use Rattle.opening.proofs.Walk.{Walk, asked}
use Rattle.opening.proofs.Steps.{runs_from, runs_step, runs_end, runs_all}
use Rattle.opening.proofs.plans.runs_on_block.Goals as goal

-- whether the j-th run is on the block, and whether those from the j-th on are
abbrev one : ℕ → List ℕ → ℕ → Bool
one b ws j = on_block b (get_or ws (4 + 2 * j) 0) && on_block b (get_or ws (5 + 2 * j) 0)

abbrev left : ℕ → List ℕ → ℕ → ℕ → Bool
left b ws n j = runs_on_block b (runs_from ws n j)

walk : (b : ℕ) (ws : List ℕ) (n : ℕ) → Walk n (one b ws) (left b ws n)
unfolding runs_on_block
walk b ws n = record {
  step = λ j l. ap (runs_on_block b) (runs_step ws n j l) ∙ sym (and_assoc (on_block b (get_or ws (4 + 2 * j) 0)) (on_block b (get_or ws (5 + 2 * j) 0)) (left b ws n (j + 1)));
  end = λ j l. ap (runs_on_block b) (runs_end ws n j l);
}

pub returns : goal.returns
returns c =
    let a = c.args in
    let test = one a.block a.map.now in
    asked (walk a.block a.map.now a.count) 0 a.count (omega arith) c.all.result
    (cases_from_all _ _ _ (λ j. test j ≡ true) (λ j. test j ≡ false) c.all.ensures.ran (YieldsList-from_range 0 a.count a.count refl (omega arith))
    (λ x q k. search (rules, tests)) (λ x q k. search (rules, tests)))
    ∙ ap (runs_on_block a.block) (runs_all a.map.now a.count)
