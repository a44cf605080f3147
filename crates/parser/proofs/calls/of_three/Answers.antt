-- `calls::of_three` meets its contract: each way out knows the words that the line is not of, and the one that it is.
use mathlib.Core.Path.{sym, ◌∙◌}
use Rattle.parser.proofs.Table.{no_three}
use Rattle.parser.proofs.calls.of_three.Goals as goal

pub flushed-requires : goal.flushed-requires
flushed-requires c = (c.requires, (sym c.is_word.ensures ∙ c.if-is_word.true))

pub summed-requires : goal.summed-requires
summed-requires c = (c.requires, (sym c.is_word-2.ensures ∙ c.if-is_word-2.true))

pub returns : goal.returns
returns c = no_three c.args.text.now c.requires (sym c.is_word.ensures ∙ c.if-is_word.false) (sym c.is_word-2.ensures ∙ c.if-is_word-2.false)
