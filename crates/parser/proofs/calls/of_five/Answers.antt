-- `calls::of_five` meets its contract: each way out knows the words that the line is not of, and the one that it is.
use Rattle.std.proofs.Common.{◌≡◌, ◌&&◌, ◌∙◌, arith, sym}
use Rattle.std.proofs.lemmas.Grind.{common_steps}
use Rattle.fields.specs.Codes.{codes}
use Rattle.fields.specs.Fields.{field, is_number, word_in}
use Rattle.parser.proofs.Table.{write_line, read_line, counted_line, no_five}
use Rattle.parser.proofs.calls.of_five.Goals as goal

pub returns-then-is_word : goal.returns-then-is_word
returns-then-is_word c = c.owned.ensures ∙ write_line c.args.text.now c.requires (sym c.is_word.ensures ∙ c.if-is_word.true)

pub returns-then-is_word-2 : goal.returns-then-is_word-2
returns-then-is_word-2 c = c.owned-then-is_word-2.ensures ∙ read_line c.args.text.now c.requires (sym c.is_word-2.ensures ∙ c.if-is_word-2.true)

pub returns-then-is_word-3 : goal.returns-then-is_word-3
returns-then-is_word-3 c =
    let text = c.args.text.now in
    let fit : c.if-is_word-4.fit ≡ (word_in 4 (codes "c") text && is_number (field 5 text)) = grind (arith, common_steps) in
    cc (counted_line text c.requires (sym c.is_word-3.ensures ∙ c.if-is_word-3.true))

pub returns : goal.returns
returns c = no_five c.args.text.now c.requires (sym c.is_word.ensures ∙ c.if-is_word.false) (sym c.is_word-2.ensures ∙ c.if-is_word-2.false) (sym c.is_word-3.ensures ∙ c.if-is_word-3.false)
