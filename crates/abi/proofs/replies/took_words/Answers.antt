-- `replies::took_words` meets its contract: the 16 words of a completion, one by one.
use Rattle.abi.proofs.Words.{took_are}
use Rattle.abi.proofs.replies.took_words.Goals as goal

pub returns : goal.returns
returns c = took_are c.args.c _ c.words_of-w.ensures
