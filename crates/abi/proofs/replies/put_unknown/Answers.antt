-- `replies::put_unknown` meets its contract: the case, and zeros.
use Rattle.abi.specs.ReplyWords.{filled, unknown_words}
use Rattle.abi.proofs.replies.put_unknown.Goals as goal

pub returns : goal.returns
unfolding unknown_words filled
returns c = c.five.ensures
