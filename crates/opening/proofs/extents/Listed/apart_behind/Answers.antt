-- `extents::Listed::apart_behind` meets its contract: whether the k-th run is apart from each behind it.
use mathlib.Core.Path.{◌≡◌, refl}
use mathlib.Core.Bool.{true, false}
use Prim.Native.Nat.{ℕ, ◌+◌, ◌-◌}
use native.Mathlib.Omega.{arith}
use borrow.Author.Rules.{rules}
use borrow.Author.Tests.{tests}
use lib.ListN.{get_or}
use Rattle.std.proofs.lemmas.Iterator.{cases_from_all, YieldsList-from_range}
use Rattle.regionmap.specs.Map.{apart}
use Rattle.opening.proofs.Walk.{asked}
use Rattle.opening.proofs.CardRuns.{no_bytes, row, apart_from_lem}
use Rattle.opening.proofs.extents.Listed.apart_behind.Goals as goal

pub returns : goal.returns
returns c =
    let a = c.args in
    let runs = row a.self.plan.now a.self.regions in
    let kth = get_or runs a.k no_bytes in
    let test = λ (i : ℕ). apart kth (get_or runs i no_bytes) in
    asked (apart_from_lem kth runs) (a.k + 1) (a.count - (a.k + 1)) (omega arith) c.all.result
    (cases_from_all _ _ _ (λ i. test i ≡ true) (λ i. test i ≡ false) c.all.ensures.ran (YieldsList-from_range (a.k + 1) a.count (a.count - (a.k + 1)) refl (omega arith))
    (λ x q k. search (rules, tests)) (λ x q k. search (rules, tests)))
