use Rattle.std.proofs.Common.{◌≡◌, arith, length, max, ◌∙◌}
use Rattle.input.proofs.Cut.{none_passed, one_passed, found, through}
use Rattle.input.proofs.scan.Goals as goal

pub loop-at-init : goal.loop-at-init
loop-at-init c = record { passed = none_passed _ _ _; within = omega arith }

pub returns-then-chunk-at-eq10 : goal.returns-then-chunk-at-eq10
returns-then-chunk-at-eq10 c =
    let a = c.args in
    found a.i a.line.now a.chunk.now _ _ _ c.loop-at.invariant.passed _ (omega arith) c.if-chunk-at-eq10.true c.read_to.ensures

pub loop-at-preserved : goal.loop-at-preserved
loop-at-preserved c =
    let a = c.args in
    record { passed = one_passed a.i a.line.now a.chunk.now _ _ _ c.loop-at.invariant.passed (omega arith) c.if-chunk-at-eq10.false _ _ c.feed-reader.ensures; within = omega arith }

pub returns : goal.returns
returns c =
    let a = c.args in
    let p = c.loop-at.invariant.passed in
    let place = p.place in
    let e = c.read_to-2.ensures in
    let at : max a.i.at (length a.chunk.now) ≡ c.loop-at.at = omega arith in
    through a.i a.line.now a.chunk.now _ _ _ p _ (omega arith) (e.0, (e.1.0, (e.1.1.0 ∙ c.max.ensures ∙ at, e.1.1.1)))
