-- `decode::buffer_of` meets its contract: the first word says whether the buffer is back.
use borrow.Author.Tests.{ne_eqb}
use Rattle.layout.specs.Pick.{pick}
use Rattle.model.specs.Memory.{flag, buffer_in}
use Rattle.ring.proofs.decode.buffer_of.Goals as goal

pub returns-then-back-eq0 : goal.returns-then-back-eq0
unfolding buffer_in flag pick
returns-then-back-eq0 c = rw c.if-back-eq0.true

pub returns-else-back-eq0 : goal.returns-else-back-eq0
unfolding buffer_in flag pick
returns-else-back-eq0 c = rw (ne_eqb c.args.back 0 c.if-back-eq0.false)
