-- `encode::words_of` meets its contract: the words are what the callees ensure, one by one.
use Rattle.ring.proofs.Words.{words_are}
use Rattle.ring.proofs.encode.words_of.Goals as goal

pub returns : goal.returns
returns c = words_are c.args.c _ _ c.outcome_words-x.ensures c.buffer_words-b.ensures
