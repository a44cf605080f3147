-- `finish::finish` meets its contract: each arm knows whether the row awaits a piece.
use Rattle.step.specs.Rules.{rules}
use Rattle.settle.proofs.Finishing.{awaits_piece_lem, no_piece}
use Rattle.settle.proofs.finish.finish.Goals as goal

pub returns-in-Piece : goal.returns-in-Piece
unfolding rules
returns-in-Piece c =
    let a = c.args in
    λ m. awaits_piece_lem a.o a.g m a.first a.row a.piece a.answer a.back a.flushes _ _ _ a.row.awaits c.in-Piece.is (c.finish_piece.ensures m)

pub returns-in_default : goal.returns-in_default
unfolding rules
returns-in_default c =
    let a = c.args in
    λ m. no_piece a.o a.g m a.first a.row a.piece a.answer a.back a.flushes a.row.awaits c.in_default.not-Piece
