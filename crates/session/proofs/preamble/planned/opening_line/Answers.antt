-- `preamble::planned::opening_line` meets its contract: each arm knows what the line says (PlannedLines).
use mathlib.Core.Path.{sym, ◌∙◌}
use native.Mathlib.Omega.{arith}
use Rattle.session.proofs.PlannedLines.{comment_planned, region_planned, bad_planned, region_short}
use Rattle.session.proofs.preamble.planned.opening_line.Goals as goal

pub returns-in-Comment : goal.returns-in-Comment
returns-in-Comment c =
    let a = c.args in
    (omega arith, λ bytes k read h flushes counts lent. comment_planned a.o bytes a.number a.plan.now flushes counts lent _ c.in-Comment.is)

pub returns-in-Region : goal.returns-in-Region
returns-in-Region c =
    let a = c.args in
    let told = c.in-Region.is in (
      omega arith,
      λ bytes k read h flushes counts lent.
          let added = c.add_kept-n.ensures bytes k (region_short bytes (sym told ∙ read)) in
          region_planned a.o bytes a.number a.plan.now flushes counts lent _ told _ added.0 _ c.with_regions.ensures _ added.1,
    )

pub returns-in_default : goal.returns-in_default
returns-in_default c =
    let a = c.args in
    (c.say_bad.ensures.0, λ bytes k read h flushes counts lent. bad_planned a.o bytes a.number a.plan.now flushes counts lent _ c.in_default.not-Comment c.in_default.not-Region h _ c.say_bad.ensures.1)
