-- `lastpiece::last_piece` meets its contract: each arm knows which kind it is.
use Rattle.std.proofs.Common.{refl}
use Rattle.settle.proofs.lastpiece.last_piece.Goals as goal

pub returns-in-Page : goal.returns-in-Page
returns-in-Page c =
    rw c.in-Page.is (λ m short fits. c.last_write.ensures m short)

pub returns-in-Read : goal.returns-in-Read
returns-in-Read c =
    let a = c.args in
    rw c.in-Read.is (λ m short fits. c.last_read.ensures a.o m a.first a.row a.flushes refl fits)
