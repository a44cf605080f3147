-- `advance::asks_for` meets its contract: each arm knows what is awaited.
use Rattle.std.proofs.Common.{refl}
use Rattle.arrival.specs.Carried.{AsksFor}
use Rattle.arrival.proofs.advance.asks_for.Goals as goal

pub returns-in-Nothing : goal.returns-in-Nothing
unfolding AsksFor
returns-in-Nothing c = rw c.in-Nothing.is

pub returns-in-Piece : goal.returns-in-Piece
returns-in-Piece c = rw c.in-Piece.is c.ask_piece.ensures

pub returns-in-Flush : goal.returns-in-Flush
unfolding AsksFor
returns-in-Flush c = rw c.in-Flush.is refl
