-- `causes::error_of` meets its contract: the first word says whether there is an error.
use borrow.Author.Tests.{ne_eqb}
use Rattle.layout.specs.Pick.{pick}
use Rattle.model.specs.Memory.{flag, error_in}
use Rattle.memory.proofs.causes.error_of.Goals as goal

pub returns-then-has-eq0 : goal.returns-then-has-eq0
unfolding error_in flag pick
returns-then-has-eq0 c = rw c.if-has-eq0.true

pub returns-else-has-eq0 : goal.returns-else-has-eq0
unfolding error_in flag pick
returns-else-has-eq0 c = rw (ne_eqb c.args.has 0 c.if-has-eq0.false)
