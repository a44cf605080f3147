-- `receipt::receipt_for` meets its contract: synced by the two tests of the need.
use borrow.Author.Tests.{eq-eqb, ne_eqb}
use Rattle.model.specs.State.{receipt_made}
use Rattle.region.proofs.receipt.receipt_for.Goals as goal

pub returns-then-need-ne0 : goal.returns-then-need-ne0
unfolding receipt_made
returns-then-need-ne0 c = rw (ne_eqb c.args.need 0 c.if-need-ne0.true)

pub returns-else-need-ne0 : goal.returns-else-need-ne0
unfolding receipt_made
returns-else-need-ne0 c = rw (eq-eqb c.args.need 0 c.if-need-ne0.false)
