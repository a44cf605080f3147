use Rattle.std.proofs.Common.{◌≡◌, ◌&&◌, leb, arith}
use Rattle.std.proofs.lemmas.Grind.{common_steps}
use Rattle.fields.specs.Fields.{are_numbers, num}
use Rattle.parser.proofs.Table.{gate_line}
use Rattle.parser.proofs.calls.gated.Goals as goal

pub returns : goal.returns
returns c =
    let text = c.args.text.now in
    let fit : c.if-are_numbers.fit ≡ (are_numbers 2 text && leb (num 2 text) 2) = grind (arith, common_steps) in
    cc (gate_line text c.requires.0 c.requires.1)
