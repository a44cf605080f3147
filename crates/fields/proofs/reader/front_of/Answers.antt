-- `reader::front_of` meets its contract: a longer line goes by its first byte, any other is read whole (`Kept`).
use mathlib.Core.Path.{◌≡◌, sym}
use Prim.Native.Nat.{ℕ}
use native.Mathlib.Omega.{arith}
use borrow.Author.Tests.{eq-eqb, ne_eqb}
use Rattle.layout.specs.Pick.{pick}
use Rattle.fields.proofs.Kept.{cut_short, read_whole}
use Rattle.fields.proofs.reader.front_of.Goals as goal

-- two variants are not one
never : {P : Type 0} → ◌≡◌ {A = ℕ} 0 1 → P
never z = absurd (omega arith)

pub returns-then-line-eq35 : goal.returns-then-line-eq35
unfolding pick
returns-then-line-eq35 c = (λ n e. never (cc), λ bytes k. sym (rw (eq-eqb _ 35 c.if-line-eq35.true) at (cut_short k c.if-r.true)))

pub returns-then-r : goal.returns-then-r
unfolding pick
returns-then-r c = (λ n e. never (cc), λ bytes k. sym (rw (ne_eqb _ 35 c.if-line-eq35.false) at (cut_short k c.if-r.true)))

pub returns-then-r-gt4096 : goal.returns-then-r-gt4096
returns-then-r-gt4096 c = (λ n e. never (cc), λ bytes k. absurd (omega (arith, k.count)))

pub returns : goal.returns
returns c = (λ n e. let same : c.args.r.kept ≡ n = cc in omega arith, λ bytes k. sym (read_whole k c.if-r.false))
