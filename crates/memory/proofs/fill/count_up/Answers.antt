use Rattle.std.proofs.Common.{◌≡◌, refl, ap, ap₂, ◌∙◌, List, [], ◌∷◌, ◌++◌, ℕ, zero, suc, ◌+◌, ◌<◌, add-zero, add-one, not-suc-le-zero, le_of_suc-le-suc, arith, length, take, drop, set}
use Rattle.model.specs.State.{up_from}
use Rattle.memory.proofs.fill.count_up.Goals as goal

-- a store of the next number at its place
counted : (k n : ℕ) (d : List ℕ) → n < length d → set (up_from k n ++ drop n d) n (k + n) ≡ up_from k (suc n) ++ drop (suc n) d
unfolding up_from
counted k n [] l = absurd (not-suc-le-zero l)
counted k zero (x ∷ d) l = ap (λ (v : ℕ). v ∷ d) (add-zero k)
counted k (suc n) (x ∷ d) l =
    let next : k + suc n ≡ suc k + n = omega arith in
    ap (λ (v : ℕ). k ∷ set (up_from (suc k) n ++ drop n d) n v) next ∙ ap (λ (t : List ℕ). k ∷ t) (counted (suc k) n d (le_of_suc-le-suc l))

pub loop-i-init : goal.loop-i-init
unfolding up_from
loop-i-init c = refl

pub loop-i-preserved : goal.loop-i-preserved
loop-i-preserved c =
    let at = c.loop-i in
    let here : at.i ≡ 0 + at.i = omega arith in
    ap₂ (λ (l : List ℕ) (v : ℕ). set l at.i v) at.invariant here
    ∙ rw add-one (counted 0 at.i (take c.args.n c.args.dst.now) c.loop-i-test.true)
