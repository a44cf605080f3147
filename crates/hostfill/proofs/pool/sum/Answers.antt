use Rattle.std.proofs.Common.{◌≡◌, ◌∙◌, ℕ, add-one, ap, arith, drop, length, refl, sym}
use native.Mathlib.Nat.{mod-lt}
use Rattle.std.proofs.Math.Seq.{drop-length}
use Rattle.hostfill.specs.Writes.{sum_from, sum_of}
use Rattle.hostfill.proofs.Bytes.{one_more_lem}
use Rattle.hostfill.proofs.pool.sum.Goals as goal

pub loop-b-init : goal.loop-b-init
unfolding sum_of
loop-b-init c = record { first = omega arith; second = omega arith; left = refl }

pub loop-b-preserved : goal.loop-b-preserved
loop-b-preserved c =
    let bytes = c.args.bytes.now in
    let i = c.loop-b.b-index in
    record {
      first = mod-lt _ (omega arith);
      second = mod-lt _ (omega arith);
      left = rw (add-one, c.from.ensures) (sym (one_more_lem c.loop-b.s1 c.loop-b.s2 i bytes (omega arith)) ∙ c.loop-b.invariant.left);
    }

pub returns : goal.returns
unfolding sum_from
returns c =
    let bytes = c.args.bytes.now in
    let all : c.loop-b.b-index ≡ length bytes = omega arith in
    sym (ap (sum_from c.loop-b.s1 c.loop-b.s2) (ap (λ (k : ℕ). drop k bytes) all ∙ drop-length bytes)) ∙ c.loop-b.invariant.left
