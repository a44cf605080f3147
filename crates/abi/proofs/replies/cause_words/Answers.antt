-- `replies::cause_words` meets its contract: the words are what the callees ensure.
use Rattle.completion.specs.Told.{told_values}
use Rattle.abi.specs.ReplyWords.{values_words}
use Rattle.abi.proofs.replies.cause_words.Goals as goal

pub returns : goal.returns
unfolding values_words told_values
returns c = rw (c.op_word.ensures, c.has_word.ensures, c.raw_word.ensures)
