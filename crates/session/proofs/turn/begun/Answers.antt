-- `turn::begun` meets its contract.
use mathlib.Core.Path.{refl}
use lib.ListN.{replicate}
use Rattle.session.proofs.turn.begun.Goals as goal

pub returns : goal.returns
returns c = (refl, ((λ j. record { flushes = 0; counts = c.fresh.ensures j; rows = replicate 64 (c.freed_row.ensures j) }), refl))
