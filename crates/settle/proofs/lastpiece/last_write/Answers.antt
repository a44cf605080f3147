-- `lastpiece::last_write` meets its contract: what is not written fails, and what is written concludes.
use Rattle.std.proofs.Common.{sym, refl, ◌∙◌}
use Rattle.layout.specs.Pick.{pick}
use Rattle.step.specs.Rules.{last_piece}
use Rattle.settle.proofs.lastpiece.last_write.Goals as goal

pub returns-then-not-is_written : goal.returns-then-not-is_written
returns-then-not-is_written c =
    let a = c.args in
    λ m short. c.failed_write.ensures a.o m a.first a.row a.flushes refl (sym c.is_written.ensures ∙ c.if-not-is_written.true)

pub returns : goal.returns
unfolding last_piece pick
returns c =
    let written = c.if-not-is_written.false in
    λ m short bytes.
    rw (sym c.is_written.ensures ∙ written)
    (rw (c.turn_back.ensures bytes, c.buffer_as-buf.ensures, c.ticket-t.ensures m short) at (c.conclude.ensures bytes))
