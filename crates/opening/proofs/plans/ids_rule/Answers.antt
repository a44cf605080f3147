-- `plans::ids_rule` meets its contract: each id is looked for among those behind it.
use mathlib.Core.Path.{◌≡◌, refl, ap, ◌∙◌}
use mathlib.Core.Bool.{Bool, true, false, not, ◌&&◌}
use mathlib.Core.List.{List}
use Prim.Native.Nat.{ℕ, ◌+◌, ◌*◌}
use native.Mathlib.Omega.{arith}
use borrow.Author.Rules.{rules}
use borrow.Author.Tests.{tests}
use lib.ListN.{get_or}
use Rattle.std.proofs.lemmas.Iterator.{cases_from_all, YieldsList-from_range}
use Rattle.model.specs.Opening.{among, distinct, ids_rule}
use Rattle.opening.specs.Plans.{plans_from, ids_from}
use Rattle.opening.proofs.Walk.{Walk, asked}
use Rattle.opening.proofs.Steps.{plans_step, plans_end, plans_all, id_word}
use Rattle.opening.proofs.plans.ids_rule.Goals as goal

-- the h-th id is none of those behind it
abbrev unlike : List ℕ → ℕ → ℕ → Bool
unlike ws n h = not (among (get_or ws (70 * h) 0) (ids_from ws n (h + 1)))

walk : (ws : List ℕ) (n : ℕ) → Walk n (unlike ws n) (λ h. ids_rule (plans_from ws n h))
unfolding ids_rule distinct
walk ws n = record {
  step = λ h l. ap ids_rule (plans_step ws n h l) ∙ ap (λ (x : ℕ). not (among x (ids_from ws n (h + 1))) && distinct (ids_from ws n (h + 1))) (id_word ws h);
  end = λ h l. ap ids_rule (plans_end ws n h l);
}

pub returns : goal.returns
returns c =
    let a = c.args in
    let test = unlike a.plan.now a.regions in
    asked (walk a.plan.now a.regions) 0 a.regions (omega arith) c.all.result
    (cases_from_all _ _ _ (λ h. test h ≡ true) (λ h. test h ≡ false) c.all.ensures.ran (YieldsList-from_range 0 a.regions a.regions refl (omega arith))
    (λ x q k. search (rules, tests)) (λ x q k. search (rules, tests)))
    ∙ ap ids_rule (plans_all a.plan.now a.regions)
