-- `marks::gate_word` meets its contract: each arm knows the case.
use Rattle.marks.specs.Marks.{gate_word}
use borrow.Author.Rules.{rules}
use Rattle.marks.proofs.gate_word.Goals as goal

pub returns-in-Open : goal.returns-in-Open
unfolding gate_word
returns-in-Open c = search rules

pub returns-in-Recycled : goal.returns-in-Recycled
unfolding gate_word
returns-in-Recycled c = search rules

pub returns-in-Released : goal.returns-in-Released
unfolding gate_word
returns-in-Released c = search rules
