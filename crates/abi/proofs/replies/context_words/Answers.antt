-- `replies::context_words` meets its contract: each arm knows the case.
use Rattle.completion.specs.Numbers.{context_values}
use Rattle.completion.specs.Told.{told_values}
use Rattle.abi.specs.ReplyWords.{values_words}
use borrow.Author.Rules.{rules}
use Rattle.abi.proofs.replies.context_words.Goals as goal

pub returns-in-None : goal.returns-in-None
unfolding values_words told_values context_values
returns-in-None c = search rules

pub returns-in-Region : goal.returns-in-Region
unfolding values_words told_values context_values
returns-in-Region c = rw c.in-Region.is

pub returns-in-Range : goal.returns-in-Range
unfolding values_words told_values context_values
returns-in-Range c = rw c.in-Range.is
