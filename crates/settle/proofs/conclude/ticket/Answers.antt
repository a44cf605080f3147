-- `conclude::ticket` meets its contract: a generation below 2^32 is its lower 32 bits, and the need is what domain::ticket ensures.
use Rattle.std.proofs.Common.{mod-eq_of_lt}
use Rattle.settle.proofs.Settling.{ticket_of_lem}
use Rattle.settle.proofs.conclude.ticket.Goals as goal

pub returns : goal.returns
returns c =
    let a = c.args in
    λ m short. ticket_of_lem a.o a.g m a.start a.end a.flushes _ _ (mod-eq_of_lt short) c.ticket-raised.ensures
