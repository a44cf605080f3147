use Rattle.std.proofs.Common.{sym, arith, ◌∙◌}
use Rattle.fields.proofs.Fields.{field_next, field_same, field_past}
use Rattle.fields.proofs.field_start.Goals as goal
use Rattle.fields.proofs.field_start.Goals.{then-c-eq32, else-c-eq32}

pub loop-i-preserved : goal.loop-i-preserved
loop-i-preserved c =
    let text = c.args.text.now in
    let i = c.loop-i.i in
    c.loop-i.invariant
    ∙ (elim c.if-c-eq32.branch [
      | then-c-eq32 w ↦ field_next text i (omega arith) w.if-c-eq32.true c.loop-i.left (omega arith) ∙ rw w.left-is
      | else-c-eq32 w ↦ field_same text i (omega arith) w.if-c-eq32.false c.loop-i.left (omega arith) ∙ rw w.left-is
    ])

pub returns : goal.returns
returns c =
    let text = c.args.text.now in
    let i = c.loop-i.i in
    (omega arith, c.loop-i.invariant ∙ field_past c.loop-i.left text i (omega arith) ∙ sym (field_past 0 text _ (omega arith)))
