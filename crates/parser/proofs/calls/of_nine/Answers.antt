-- `calls::of_nine` meets its contract: each way out knows the words that the line is not of, and the one that it is.
use Rattle.std.proofs.Common.{◌≡◌, ◌&&◌, ◌∙◌, arith, sym}
use Rattle.std.proofs.lemmas.Grind.{common_steps}
use Rattle.fields.specs.Fields.{are_numbers, is_flag}
use Rattle.parser.proofs.Table.{write_page_line, read_page_line, no_nine}
use Rattle.parser.proofs.calls.of_nine.Goals as goal

pub returns-then-is_word : goal.returns-then-is_word
returns-then-is_word c =
    let text = c.args.text.now in
    let fit : c.if-are_numbers.fit ≡ (are_numbers 9 text && is_flag 8 text) = grind (arith, common_steps) in
    cc (write_page_line text c.requires (sym c.is_word.ensures ∙ c.if-is_word.true))

pub returns-then-is_word-2 : goal.returns-then-is_word-2
returns-then-is_word-2 c =
    let text = c.args.text.now in
    let fit : c.if-are_numbers.fit ≡ (are_numbers 9 text && is_flag 8 text) = grind (arith, common_steps) in
    cc (read_page_line text c.requires (sym c.is_word-2.ensures ∙ c.if-is_word-2.true))

pub returns : goal.returns
returns c = no_nine c.args.text.now c.requires (sym c.is_word.ensures ∙ c.if-is_word.false) (sym c.is_word-2.ensures ∙ c.if-is_word-2.false)
