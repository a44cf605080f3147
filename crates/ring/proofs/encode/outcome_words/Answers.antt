-- `encode::outcome_words` meets its contract: each arm knows the case, and the words are what the callees ensure.
use Rattle.model.specs.Memory.{outcome_words, generation_word}
use Rattle.ring.proofs.encode.outcome_words.Goals as goal

pub returns-in-Written : goal.returns-in-Written
unfolding outcome_words generation_word
returns-in-Written c = rw (c.ticket_words.ensures, c.in-Written.is)

pub returns-in-Receipt : goal.returns-in-Receipt
unfolding outcome_words generation_word
returns-in-Receipt c = rw (c.ticket_words-in-Receipt.ensures, c.in-Receipt.is)

pub returns-in-Read : goal.returns-in-Read
unfolding outcome_words generation_word
returns-in-Read c = rw c.in-Read.is

pub returns-in-Unknown : goal.returns-in-Unknown
unfolding outcome_words generation_word
returns-in-Unknown c = rw (c.cause_words.ensures, c.in-Unknown.is)

pub returns-in-Interrupted : goal.returns-in-Interrupted
unfolding outcome_words generation_word
returns-in-Interrupted c = rw (c.range_words.ensures, c.in-Interrupted.is)

pub returns-in-Corruption : goal.returns-in-Corruption
unfolding outcome_words generation_word
returns-in-Corruption c = rw (c.range_words-in-Corruption.ensures, c.in-Corruption.is)

pub returns-in-Io : goal.returns-in-Io
unfolding outcome_words generation_word
returns-in-Io c = rw (c.range_words-in-Io.ensures, c.op_word.ensures, c.in-Io.is)

pub returns-in-QueueFull : goal.returns-in-QueueFull
unfolding outcome_words generation_word
returns-in-QueueFull c = rw (c.range_words-in-QueueFull.ensures, c.in-QueueFull.is)

pub returns-in-Poisoned : goal.returns-in-Poisoned
unfolding outcome_words generation_word
returns-in-Poisoned c = rw (c.cause_words-in-Poisoned.ensures, c.in-Poisoned.is)
