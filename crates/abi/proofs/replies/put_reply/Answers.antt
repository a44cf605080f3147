-- `replies::put_reply` meets its contract: each arm knows the case, or leaves it to put_whole.
use mathlib.Core.Path.{sym, ap, ◌∙◌}
use Rattle.abi.specs.ReplyWords.{filled, reply_words}
use Rattle.abi.proofs.replies.put_reply.Goals as goal

pub returns-in-Piece : goal.returns-in-Piece
unfolding filled reply_words
returns-in-Piece c = c.five.ensures ∙ sym (ap reply_words c.in-Piece.is)

pub returns-in-Done : goal.returns-in-Done
unfolding filled reply_words
returns-in-Done c = c.five-in-Done.ensures ∙ sym (ap reply_words c.in-Done.is)

pub returns-in-Flush : goal.returns-in-Flush
unfolding filled reply_words
returns-in-Flush c = c.five-in-Flush.ensures ∙ sym (ap reply_words c.in-Flush.is)
