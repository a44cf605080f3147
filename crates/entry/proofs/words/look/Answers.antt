use mathlib.Core.Path.{◌≡◌, sym, ap, ap₂, ◌∙◌, subst}
use Prim.Native.Nat.{ℕ, ◌+◌, ◌-◌, ◌/◌, ◌<◌, min}
use native.Mathlib.Omega.{arith}
use lib.ListN.{length}
use Rattle.optable.specs.Looked.{seen_by}
use Rattle.optable.proofs.Turning.{found, none_found, one_more_lem}
use Rattle.abi.specs.RowWords.{rows_in}
use Rattle.abi.proofs.Laws.{count}
use Rattle.entry.proofs.words.look.Goals as goal

pub loop-i-init : goal.loop-i-init
loop-i-init c =
    let a = c.args in
    let least : min a.depth (length a.rows.now / 16) ≡ min a.depth (length (rows_in a.rows.now)) = ap (min a.depth) (sym (count a.rows.now)) in
    (omega (arith, c.min-n.ensures), none_found a.next a.depth (rows_in a.rows.now) ∙ ap (found a.next a.depth (rows_in a.rows.now)) (sym (c.min-n.ensures ∙ least)))

pub loop-i-preserved : goal.loop-i-preserved
loop-i-preserved c =
    let a = c.args in
    let i = c.loop-i.i in
    let rs = rows_in a.rows.now in
    let back : i - 1 + 1 ≡ i = omega arith in
    let inside : i - 1 < min a.depth (length rs) = subst (λ (k : ℕ). i - 1 < min a.depth k) (sym (count a.rows.now)) (omega (arith, c.loop-i.invariant.0)) in (
      omega (arith, c.loop-i.invariant.0),
      c.seen-l.ensures ∙ ap₂ seen_by c.row_at.ensures (c.loop-i.invariant.1 ∙ ap (found a.next a.depth rs) (sym back)) ∙ one_more_lem a.next a.depth rs (i - 1) inside,
    )

pub returns : goal.returns
returns c =
    let a = c.args in
    let none : c.loop-i.i ≡ 0 = omega arith in
    c.loop-i.invariant.1 ∙ ap (found a.next a.depth (rows_in a.rows.now)) none
