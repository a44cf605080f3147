-- `replies::told_words` meets its contract: each arm knows the case, and the words are what the callees ensure.
use Rattle.abi.proofs.replies.told_words.Goals as goal

pub returns-in-Context : goal.returns-in-Context
returns-in-Context c = rw c.in-Context.is c.context_words.ensures

pub returns-in-Cause : goal.returns-in-Cause
returns-in-Cause c = rw c.in-Cause.is c.cause_words.ensures
