use Rattle.std.proofs.Common.{rules, append-nil, [], ◌∷◌, ap, ◌∙◌, refl}
use Rattle.step.specs.Step.{any_writes, oldest}
use Rattle.optable.specs.Looked.{looked_in}
use Rattle.optable.proofs.Turning.{first_rows, one_more, none_left, row_behind}
use Rattle.optable.proofs.lookup.look.Goals as goal

pub loop-row-init : goal.loop-row-init
unfolding looked_in any_writes oldest
loop-row-init c = ([], rw (c.into_iter-row-iterator.ensures.into_iter_gives, c.rev-row-items.ensures.source, c.iter.ensures.rest, c.min-n.ensures) (append-nil _ ∙ first_rows c.args.depth c.args.rows.now), refl)

pub loop-row-preserved : goal.loop-row-preserved
loop-row-preserved c =
    let (zs, whole, found) = c.loop-row.invariant in
    (c.in-Some.row.now ∷ zs, row_behind _ _ c.in-Some.row.now zs _ c.in-Some.ensures.steps whole, c.seen-l.ensures ∙ one_more c.args.next c.in-Some.row.now zs c.loop-row.l found)

pub returns : goal.returns
returns c =
    let (zs, whole, found) = c.loop-row.invariant in
    found ∙ ap (looked_in c.args.next) (none_left _ zs _ (search rules) whole)
