use Rattle.std.proofs.Common.{◌≡◌, ◌-◌, arith, drop, length, length-drop, take, take_all}
use Rattle.fields.proofs.Fields.{field_length, field_within}
use Rattle.fields.proofs.field_end.Goals as goal

pub returns : goal.returns
returns c =
    let text = c.args.text.now in
    let rest = drop c.args.from text in
    let whole : take (length text - c.args.from) rest ≡ rest = take_all _ rest (omega (arith, length-drop c.args.from text)) in
    let counted = rw whole at c.before_space.ensures in
    (omega (arith, field_length rest, field_within rest, length-drop c.args.from text), omega (arith, field_length rest))
