-- `calls::of_four` meets its contract: each way out knows the words that the line is not of, and the one that it is.
use mathlib.Core.Path.{sym, ◌∙◌}
use Rattle.parser.proofs.Table.{refused_line_lem, no_four}
use Rattle.parser.proofs.calls.of_four.Goals as goal

pub returns-then-is_word : goal.returns-then-is_word
returns-then-is_word c =
    c.answered.ensures
    ∙ rw c.is_word-then-is_word.ensures
    (refused_line_lem c.args.text.now c.requires (sym c.is_word.ensures ∙ c.if-is_word.true))

pub failed-requires : goal.failed-requires
failed-requires c = (c.requires, (sym c.is_word-2.ensures ∙ c.if-is_word-2.true))

pub filled-requires : goal.filled-requires
filled-requires c = (c.requires, (sym c.is_word-3.ensures ∙ c.if-is_word-3.true))

pub returns : goal.returns
returns c = no_four c.args.text.now c.requires (sym c.is_word.ensures ∙ c.if-is_word.false) (sym c.is_word-2.ensures ∙ c.if-is_word-2.false) (sym c.is_word-3.ensures ∙ c.if-is_word-3.false)
