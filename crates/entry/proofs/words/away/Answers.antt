-- `words::away` meets its contract: one case is turned away.
use Rattle.entry.proofs.Calling.{not_away}
use Rattle.step.specs.Lists.{is_away}
use borrow.Author.Rules.{rules}
use Rattle.entry.proofs.words.away.Goals as goal

pub returns-in-No : goal.returns-in-No
unfolding is_away
returns-in-No c = search rules

pub returns-in_default : goal.returns-in_default
returns-in_default c = not_away c.args.reply c.in_default.not-No
