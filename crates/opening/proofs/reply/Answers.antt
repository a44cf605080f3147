-- `opening::reply` meets its contract, case by case.
use Rattle.std.proofs.Common.{rules}
use Rattle.opening.specs.Opened.{opened_with}
use Rattle.opening.proofs.reply.Goals as goal

pub returns-in-Some : goal.returns-in-Some
unfolding opened_with
returns-in-Some c = search rules

pub returns-in-None : goal.returns-in-None
unfolding opened_with
returns-in-None c = search rules
