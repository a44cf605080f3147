-- `encode::cause_words` meets its contract: the words are what the callees ensure.
use Rattle.ring.proofs.encode.cause_words.Goals as goal

pub returns : goal.returns
returns c = rw (c.range_words.ensures, c.raw_word.ensures, c.has_word.ensures, c.op_word.ensures)
