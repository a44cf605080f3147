-- `decode::ticket_of` meets its contract: each word is read where the ticket has it.
use mathlib.Core.Path.{refl}
use Rattle.model.specs.Memory.{ticket_in}
use Rattle.ring.proofs.decode.ticket_of.Goals as goal

pub returns : goal.returns
unfolding ticket_in
returns c = refl
