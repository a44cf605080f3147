-- `plans::id_among` meets its contract: the ids that are left are compared one behind the other.
use mathlib.Core.Path.{◌≡◌, refl, ap, ◌∙◌}
use mathlib.Core.Bool.{Bool, true, false, not, ◌||◌, ◌&&◌}
use mathlib.Core.List.{List, map}
use Prim.Native.Nat.{ℕ, ◌+◌, ◌*◌, ◌-◌}
use native.Mathlib.Omega.{arith}
use borrow.Author.Rules.{rules}
use borrow.Author.Tests.{tests}
use lib.ListN.{get_or}
use lib.Dec.{eqb}
use Rattle.std.proofs.lemmas.Iterator.{cases_from_any, YieldsList-from_range}
use Rattle.model.specs.Opening.{Plan, among}
use Rattle.opening.specs.Plans.{ids_from}
use Rattle.opening.proofs.Walk.{Walk, asked_any}
use Rattle.opening.proofs.Steps.{plans_step, plans_end, id_word}
use Rattle.opening.proofs.plans.id_among.Goals as goal

not_or : (a b : Bool) → not (a || b) ≡ (not a && not b)
not_or true b = refl
not_or false b = refl

not_not : (a : Bool) → not (not a) ≡ a
not_not true = refl
not_not false = refl

walk : (id : ℕ) (ws : List ℕ) (n : ℕ) → Walk n (λ h. not (eqb id (get_or ws (70 * h) 0))) (λ h. not (among id (ids_from ws n h)))
unfolding among
walk id ws n = record {
  step = λ h l.
      ap (λ (ps : List Plan). not (among id (map (λ p. p.id) ps))) (plans_step ws n h l)
      ∙ ap (λ (x : ℕ). not (eqb id x || among id (ids_from ws n (h + 1)))) (id_word ws h)
      ∙ not_or (eqb id (get_or ws (70 * h) 0)) (among id (ids_from ws n (h + 1)));
  end = λ h l. ap (λ (ps : List Plan). not (among id (map (λ p. p.id) ps))) (plans_end ws n h l);
}

pub returns : goal.returns
returns c =
    let a = c.args in
    let test = λ (h : ℕ). not (eqb a.id (get_or a.plan.now (70 * h) 0)) in
    asked_any (walk a.id a.plan.now a.regions) a.from (a.regions - a.from) (omega arith) c.any.result
    (cases_from_any _ _ _ (λ h. test h ≡ false) (λ h. test h ≡ true) c.any.ensures.ran (YieldsList-from_range a.from a.regions (a.regions - a.from) refl (omega arith))
    (λ x q k. search (rules, tests)) (λ x q k. search (rules, tests)))
    ∙ not_not (among a.id (ids_from a.plan.now a.regions a.from))
