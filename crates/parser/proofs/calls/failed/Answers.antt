-- `calls::failed` meets its contract: each way out knows the words that the line is not of, and the one that it is.
use Rattle.std.proofs.Common.{◌≡◌, ◌&&◌, ◌∙◌, arith, sym}
use Rattle.std.proofs.lemmas.Grind.{common_steps}
use Rattle.fields.specs.Fields.{are_numbers}
use Rattle.parser.specs.Values.{is_cause}
use Rattle.parser.proofs.Table.{unknown_line, poisoned_line, no_failure}
use Rattle.parser.proofs.calls.failed.Goals as goal

pub returns-then-is_word : goal.returns-then-is_word
returns-then-is_word c =
    let text = c.args.text.now in
    let fit : c.if-are_numbers.fit ≡ (are_numbers 1 text && is_cause 3 4 text) = grind (arith, common_steps) in
    cc (unknown_line text c.requires.0 c.requires.1 (sym c.is_word.ensures ∙ c.if-is_word.true))

pub returns-then-is_word-2 : goal.returns-then-is_word-2
returns-then-is_word-2 c =
    let text = c.args.text.now in
    let fit : c.if-are_numbers.fit ≡ (are_numbers 1 text && is_cause 3 4 text) = grind (arith, common_steps) in
    cc (poisoned_line text c.requires.0 c.requires.1 (sym c.is_word-2.ensures ∙ c.if-is_word-2.true))

pub returns : goal.returns
returns c =
    no_failure c.args.text.now c.requires.0 c.requires.1 (sym c.is_word.ensures ∙ c.if-is_word.false) (sym c.is_word-2.ensures ∙ c.if-is_word-2.false)
