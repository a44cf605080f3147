-- `advance::ask_piece` meets its contract: the piece is the one found.
use Rattle.std.proofs.Common.{refl}
use Rattle.arrival.specs.Carried.{AsksFor}
use Rattle.arrival.proofs.advance.ask_piece.Goals as goal

pub returns : goal.returns
unfolding AsksFor
returns c = record { found = c.piece_of-piece.result; is = c.piece_of-piece.ensures; reply = refl }
