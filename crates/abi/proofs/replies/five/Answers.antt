-- `replies::five` meets its contract: the words are listed.
use mathlib.Core.Path.{refl}
use Rattle.abi.specs.ReplyWords.{filled}
use Rattle.abi.proofs.replies.five.Goals as goal

pub returns : goal.returns
unfolding filled
returns c = refl
