-- `forms::of_none` meets its contract: each way out knows the words that the line is not of, and the one that it is.
use mathlib.Core.Path.{sym, ◌∙◌}
use Rattle.parser.proofs.Table.{take_line, writes_line, mark_line, len_line, rows_line, no_word}
use Rattle.parser.proofs.forms.of_none.Goals as goal

pub returns-then-is_word : goal.returns-then-is_word
returns-then-is_word c = take_line c.args.text.now c.requires (sym c.is_word.ensures ∙ c.if-is_word.true)

pub returns-then-is_word-2 : goal.returns-then-is_word-2
returns-then-is_word-2 c = writes_line c.args.text.now c.requires (sym c.is_word-2.ensures ∙ c.if-is_word-2.true)

pub returns-then-is_word-3 : goal.returns-then-is_word-3
returns-then-is_word-3 c = mark_line c.args.text.now c.requires (sym c.is_word-3.ensures ∙ c.if-is_word-3.true)

pub returns-then-is_word-4 : goal.returns-then-is_word-4
returns-then-is_word-4 c = len_line c.args.text.now c.requires (sym c.is_word-4.ensures ∙ c.if-is_word-4.true)

pub returns-then-is_word-5 : goal.returns-then-is_word-5
returns-then-is_word-5 c = rows_line c.args.text.now c.requires (sym c.is_word-5.ensures ∙ c.if-is_word-5.true)

pub returns : goal.returns
returns c = no_word c.args.text.now c.requires (sym c.is_word.ensures ∙ c.if-is_word.false) (sym c.is_word-2.ensures ∙ c.if-is_word-2.false) (sym c.is_word-3.ensures ∙ c.if-is_word-3.false) (sym c.is_word-4.ensures ∙ c.if-is_word-4.false) (sym c.is_word-5.ensures ∙ c.if-is_word-5.false)
