-- `advance::turn` meets its contract: it is iobuf's turn.
use Rattle.arrival.specs.Carried.{turned_pool}
use Rattle.arrival.proofs.advance.turn.Goals as goal

pub returns : goal.returns
unfolding turned_pool
returns c = c.turn.ensures
