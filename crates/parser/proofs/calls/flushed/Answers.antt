-- `calls::flushed` meets its contract: the row of its word is the one that fits, and its parts are the row's.
use Rattle.std.proofs.Common.{◌≡◌, ◌&&◌, arith}
use Rattle.std.proofs.lemmas.Grind.{common_steps}
use Rattle.fields.specs.Codes.{codes}
use Rattle.fields.specs.Fields.{are_numbers, field, is_number, word_in}
use Rattle.parser.proofs.Table.{need_line}
use Rattle.parser.proofs.calls.flushed.Goals as goal

pub returns : goal.returns
returns c =
    let text = c.args.text.now in
    let fit : c.if-are_numbers.fit ≡ (word_in 2 (codes "n") text && (are_numbers 1 text && is_number (field 3 text))) = grind (arith, common_steps) in
    cc (need_line text c.requires.0 c.requires.1)
