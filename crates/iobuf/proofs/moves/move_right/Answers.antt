use mathlib.Core.Path.{◌≡◌, ap, ◌∙◌}
use mathlib.Core.List.{◌++◌}
use Prim.Native.Nat.{ℕ, ◌+◌, ◌-◌}
use native.Mathlib.Omega.{arith}
use lib.ListN.{length, take, drop}
use lib.Seq.{length-take-le, length_front, paste}
use Rattle.iobuf.proofs.Parts.{right_hop}
use Rattle.iobuf.proofs.moves.move_right.Goals as goal

pub loop-end-preserved : goal.loop-end-preserved
loop-end-preserved c =
    let l = c.args.s.now in
    let held = c.loop-end.held in
    let count = c.min-count.result in
    let part : length (take count held) ≡ count = length-take-le count held (omega arith) in
    let k = c.args.k in
    let end = c.loop-end.end - count in
    let j = length l - k - c.loop-end.end in
    let before : c.loop-end.end ≡ end + count = omega arith in
    let more : count + j ≡ length l - k - end = omega arith in (
      omega arith,
      length_front held c.hop.new.held count c.hop.auto.held ∙ c.loop-end.invariant.1,
      c.hop.auto.s ∙ c.loop-end.invariant.2,
      c.hop.ensures ∙ ap (paste c.loop-end.s (end + k) (drop end c.loop-end.s)) part
          ∙ right_hop l c.loop-end.s k end count j (omega arith)
          (c.loop-end.invariant.3 ∙ (λ i. take (before i + k) l ++ take j (drop (before i) l)))
          ∙ ap (λ (n : ℕ). take (end + k) l ++ take n (drop end l)) more,
    )
