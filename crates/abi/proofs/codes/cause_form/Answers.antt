-- `codes::cause_form` meets its contract, by the operation's code.
use borrow.Author.Tests.{lt-ltb, le-ltb}
use Rattle.layout.specs.Pick.{pick}
use Rattle.abi.specs.Asked.{cause_form}
use Rattle.abi.proofs.codes.cause_form.Goals as goal

pub returns-then-op-lt4 : goal.returns-then-op-lt4
unfolding cause_form pick
returns-then-op-lt4 c = rw (c.cause_of.ensures, lt-ltb c.args.op 4 c.if-op-lt4.true)

pub returns-else-op-lt4 : goal.returns-else-op-lt4
unfolding cause_form pick
returns-else-op-lt4 c = rw (le-ltb c.args.op 4 c.if-op-lt4.false)
