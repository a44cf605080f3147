-- `underway::under_way` meets its contract: each arm knows whether the row awaits a piece.
use Rattle.arrival.proofs.Naming.{piece_under_way, none_under_way}
use Rattle.arrival.proofs.underway.under_way.Goals as goal

pub returns-in-Piece : goal.returns-in-Piece
returns-in-Piece c =
    let a = c.args in
    piece_under_way a.store.now a.row.handle a.row.awaits _ _ c.in-Piece.is c.piece_of.result c.piece_of.ensures

pub returns-in_default : goal.returns-in_default
returns-in_default c =
    let a = c.args in
    none_under_way a.store.now a.row.handle a.row.awaits c.in_default.not-Piece
