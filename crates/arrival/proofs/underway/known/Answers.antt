-- `underway::known` meets its contract: within the depth the name decides.
use Rattle.std.proofs.Common.{Bool, ◌&&◌, sym, ap, ◌∙◌, le-ltb, lt-ltb}
use Rattle.step.specs.Step.{row_of}
use Rattle.arrival.specs.UnderWay.{known_as}
use Rattle.step.specs.Step.{names}
use Rattle.arrival.proofs.underway.known.Goals as goal

pub returns-then-qtag-o : goal.returns-then-qtag-o
unfolding known_as row_of
returns-then-qtag-o c =
    let a = c.args in
    c.named.ensures ∙ ap (λ (b : Bool). b && names a.row a.qtag) (sym (lt-ltb _ a.o.depth c.if-qtag-o.true))

pub returns : goal.returns
unfolding known_as row_of
returns c =
    let a = c.args in
    ap (λ (b : Bool). b && names a.row a.qtag) (sym (le-ltb _ a.o.depth c.if-qtag-o.false))
