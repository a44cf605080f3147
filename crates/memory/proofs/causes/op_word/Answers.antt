-- `causes::op_word` meets its contract: each arm knows the case.
use Rattle.model.specs.Memory.{op_word}
use borrow.Author.Rules.{rules}
use Rattle.memory.proofs.causes.op_word.Goals as goal

pub returns-in-None : goal.returns-in-None
unfolding op_word
returns-in-None c = search rules

pub returns-in-Read : goal.returns-in-Read
unfolding op_word
returns-in-Read c = search rules

pub returns-in-Write : goal.returns-in-Write
unfolding op_word
returns-in-Write c = search rules

pub returns-in-Flush : goal.returns-in-Flush
unfolding op_word
returns-in-Flush c = search rules
