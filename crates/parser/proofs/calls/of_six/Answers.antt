-- `calls::of_six` meets its contract: each way out knows the words that the line is not of, and the one that it is.
use Rattle.std.proofs.Common.{◌≡◌, ◌&&◌, ◌∙◌, arith, sym}
use Rattle.std.proofs.lemmas.Grind.{common_steps}
use Rattle.fields.specs.Fields.{is_flag}
use Rattle.parser.specs.Values.{is_raw}
use Rattle.parser.proofs.Table.{error_line, refused_with_line, no_six, no_error}
use Rattle.parser.proofs.calls.of_six.Goals as goal

pub returns-then-not-is_word : goal.returns-then-not-is_word
returns-then-not-is_word c = no_six c.args.text.now c.requires (sym c.is_word.ensures ∙ c.if-not-is_word.true)

pub returns-then-is_word : goal.returns-then-is_word
returns-then-is_word c =
    let text = c.args.text.now in
    let fit : c.if-is_raw.fit ≡ (is_raw 5 text && is_flag 6 text) = grind (arith, common_steps) in
    cc (error_line text c.requires (sym c.is_word.ensures ∙ c.if-not-is_word.false) (sym c.is_word-2.ensures ∙ c.if-is_word.true))

pub returns-then-is_word-2 : goal.returns-then-is_word-2
returns-then-is_word-2 c =
    let text = c.args.text.now in
    let fit : c.if-is_raw.fit ≡ (is_raw 5 text && is_flag 6 text) = grind (arith, common_steps) in
    cc (refused_with_line text c.requires (sym c.is_word.ensures ∙ c.if-not-is_word.false) (sym c.is_word-3.ensures ∙ c.if-is_word-2.true))

pub returns : goal.returns
returns c = no_error c.args.text.now c.requires (sym c.is_word.ensures ∙ c.if-not-is_word.false) (sym c.is_word-2.ensures ∙ c.if-is_word.false) (sym c.is_word-3.ensures ∙ c.if-is_word-2.false)
