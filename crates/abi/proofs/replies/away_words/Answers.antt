-- `replies::away_words` meets its contract: the words are what the callees ensure.
use Rattle.abi.proofs.Words.{away_are}
use Rattle.abi.proofs.replies.away_words.Goals as goal

pub returns : goal.returns
returns c =
    away_are c.args.f _ _ _ c.number_of-n.ensures c.told_words-t.ensures c.told_of.ensures
