-- `settle::turn_back` meets its contract: the turn is by what is left where the buffer came back, and by nothing else.
use Rattle.std.proofs.Common.{refl}
use Rattle.iobuf.proofs.Laws.{turned_none}
use Rattle.step.specs.Rules.{turned_back}
use Rattle.settle.specs.Finished.{turned_by}
use Rattle.settle.proofs.turn_back.Goals as goal

pub returns-then-back : goal.returns-then-back
unfolding turned_by turned_back
returns-then-back c = λ bytes. rw (c.if-back.true, c.left.ensures)

pub returns-else-back : goal.returns-else-back
unfolding turned_by turned_back
returns-else-back c = λ bytes. rw c.if-back.false (turned_none c.args.s.total 0 bytes refl)
