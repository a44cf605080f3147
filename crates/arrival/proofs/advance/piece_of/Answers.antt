-- `advance::piece_of` meets its contract: the position and what is left are what the callees ensure.
use Rattle.regionmap.specs.Found.{wrap64}
use Rattle.arrival.proofs.advance.piece_of.Goals as goal

pub returns : goal.returns
unfolding wrap64
returns c = rw (c.left.ensures, c.first_of-start.ensures) at c.first_piece.ensures
