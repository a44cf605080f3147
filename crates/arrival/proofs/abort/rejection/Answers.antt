-- `abort::rejection` meets its contract: each arm knows what is awaited.
use Rattle.arrival.proofs.Rejecting.{not_piece}
use Rattle.step.specs.Step.{rejection}
use Rattle.arrival.proofs.abort.rejection.Goals as goal

pub returns-in-Piece : goal.returns-in-Piece
unfolding rejection
returns-in-Piece c = λ g is. rw c.in-Piece.is (c.reject.ensures g is)

pub returns-in_default : goal.returns-in_default
returns-in_default c =
    let a = c.args in
    λ g is. not_piece g a.awaits a.raw a.buf c.in_default.not-Piece
