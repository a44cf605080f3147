-- `plans::each_region` meets its contract: the regions that are left are tested one behind the other.
use mathlib.Core.Path.{◌≡◌, refl, sym, ap, ◌∙◌}
use mathlib.Core.Bool.{true, false}
use mathlib.Core.List.{List, ◌∷◌}
use Prim.Native.Nat.{ℕ, ◌+◌, ◌*◌, ◌-◌}
use native.Mathlib.Omega.{arith}
use borrow.Author.Rules.{rules}
use borrow.Author.Tests.{tests}
use lib.ListN.{take, drop}
use Rattle.std.proofs.lemmas.Iterator.{cases_from_all, YieldsList-from_range}
use Rattle.model.specs.Opening.{region_rule, each_region, plan_in}
use Rattle.opening.specs.Plans.{plans_from}
use Rattle.opening.proofs.Walk.{Walk, asked}
use Rattle.opening.proofs.Steps.{plans_step, plans_end, plans_all, part_of_70}
use Rattle.opening.proofs.plans.each_region.Goals as goal

-- the words of a region as the code lends them
walk : (b : ℕ) (ws : List ℕ) (n : ℕ)
    → Walk n (λ h. region_rule b (plan_in (take (70 * h + 70 - 70 * h) (drop (70 * h) ws)))) (λ h. each_region b (plans_from ws n h))
unfolding each_region
walk b ws n = record {
  step = λ h l. ap (each_region b) (plans_step ws n h l ∙ ap (λ (v : List ℕ). plan_in v ∷ plans_from ws n (h + 1)) (sym (part_of_70 ws h)));
  end = λ h l. ap (each_region b) (plans_end ws n h l);
}

pub returns : goal.returns
returns c =
    let a = c.args in
    let test = λ (h : ℕ). region_rule a.block (plan_in (take (70 * h + 70 - 70 * h) (drop (70 * h) a.plan.now))) in
    asked (walk a.block a.plan.now a.regions) 0 a.regions (omega arith) c.all.result
    (cases_from_all _ _ _ (λ h. test h ≡ true) (λ h. test h ≡ false) c.all.ensures.ran (YieldsList-from_range 0 a.regions a.regions refl (omega arith))
    (λ x q k. search (rules, tests)) (λ x q k. search (rules, tests)))
    ∙ ap (each_region a.block) (plans_all a.plan.now a.regions)
