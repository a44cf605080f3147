-- `extents::within_rule` meets its contract: whether each run of the row ends within the card.
use mathlib.Core.Path.{◌≡◌, refl}
use mathlib.Core.Bool.{true, false}
use Prim.Native.Nat.{ℕ}
use native.Mathlib.Omega.{arith}
use borrow.Author.Rules.{rules}
use borrow.Author.Tests.{tests}
use lib.ListN.{get_or}
use Rattle.std.proofs.lemmas.Iterator.{cases_from_all, YieldsList-from_range}
use Rattle.opening.proofs.Walk.{asked}
use Rattle.opening.proofs.CardRuns.{no_bytes, row, ends_by, within}
use Rattle.opening.proofs.extents.within_rule.Goals as goal

pub returns : goal.returns
returns c =
    let a = c.args in
    let count = c.run_count.result in
    let test = λ (k : ℕ). ends_by a.card (get_or (row a.plan.now a.regions) k no_bytes) in
    asked (within a.card (row a.plan.now a.regions)) 0 count (omega arith) c.all.result
    (cases_from_all _ _ _ (λ k. test k ≡ true) (λ k. test k ≡ false) c.all.ensures.ran (YieldsList-from_range 0 count count refl (omega arith))
    (λ x q k. search (rules, tests)) (λ x q k. search (rules, tests)))
