-- `calls::marked` meets its contract: by its word the row that fits, and its parts are the row's; another word has none.
use Rattle.std.proofs.Common.{◌≡◌, ◌&&◌, ◌∙◌, arith, sym}
use Rattle.std.proofs.lemmas.Grind.{common_steps}
use Rattle.fields.specs.Fields.{are_numbers, is_flag}
use Rattle.parser.proofs.Table.{ro_line, force_line, no_two}
use Rattle.parser.proofs.calls.marked.Goals as goal

pub returns-then-is_word : goal.returns-then-is_word
returns-then-is_word c =
    let text = c.args.text.now in
    let fit : c.if-are_numbers.fit ≡ (are_numbers 2 text && is_flag 2 text) = grind (arith, common_steps) in
    cc (ro_line text c.requires.three_fields (sym c.is_word.ensures ∙ c.if-is_word.true))

pub returns-then-is_word-2 : goal.returns-then-is_word-2
returns-then-is_word-2 c =
    let text = c.args.text.now in
    let fit : c.if-are_numbers.fit ≡ (are_numbers 2 text && is_flag 2 text) = grind (arith, common_steps) in
    cc (force_line text c.requires.three_fields (sym c.is_word-2.ensures ∙ c.if-is_word-2.true))

pub returns : goal.returns
returns c =
    no_two c.args.text.now c.requires.three_fields c.requires.other_words.0 c.requires.other_words.1 c.requires.other_words.2 (sym c.is_word.ensures ∙ c.if-is_word.false) (sym c.is_word-2.ensures ∙ c.if-is_word-2.false)
