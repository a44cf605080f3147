use mathlib.Core.Path.{◌≡◌, ap, ◌∙◌}
use Prim.Native.Nat.{◌+◌}
use native.Mathlib.Omega.{arith}
use lib.ListN.{length, take, drop}
use lib.Seq.{length-take-le, length_front, paste}
use Rattle.iobuf.proofs.Parts.{left_hop}
use Rattle.iobuf.proofs.moves.move_left.Goals as goal

pub loop-at-preserved : goal.loop-at-preserved
loop-at-preserved c =
    let l = c.args.s.now in
    let held = c.loop-at.held in
    let count = c.min-count.result in
    let part : length (take count held) ≡ count = length-take-le count held (omega arith) in
    let at = c.loop-at.at in (
      omega arith,
      length_front held c.hop.new.held count c.hop.auto.held ∙ c.loop-at.invariant.1,
      c.hop.auto.s ∙ c.loop-at.invariant.2,
      c.hop.ensures ∙ ap (paste c.loop-at.s at (drop (at + c.args.k) c.loop-at.s)) part
          ∙ left_hop l c.loop-at.s c.args.k at count (omega arith) c.loop-at.invariant.3,
    )
