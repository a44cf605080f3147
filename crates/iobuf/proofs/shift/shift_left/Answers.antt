-- `shift::shift_left` meets its contract: the k bytes that the first copy saves are those that the last one puts behind the others.
use mathlib.Core.Path.{◌≡◌, ◌∙◌}
use mathlib.Core.List.{◌++◌}
use native.Mathlib.Omega.{arith}
use lib.ListN.{take, drop}
use Rattle.iobuf.proofs.ShiftParts.{front_held, put_behind}
use Rattle.iobuf.proofs.shift.shift_left.Goals as goal
use Rattle.iobuf.proofs.shift.shift_left.Goals.{After-copy, Start}

abbrev st : After-copy → Start
st c = c.before.before.before.before.before.before

-- after the first copy `saved` starts with the first k bytes
saved : (c : After-copy) → take (st c).args.k (c.copy.new.to ++ drop (st c).args.k (st c).args.saved.now) ≡ take (st c).args.k (st c).args.s.now
saved c = front_held (st c).args.saved.now c.copy.new.to (st c).args.k (omega arith) c.copy.auto.to ∙ c.copy.ensures

pub returns : goal.returns
returns c =
    let first = (goal.at.returns c).After-copy in
    put_behind first.args.s.now c.move_left.new.s c.copy-2.new.to first.args.k (omega arith) c.move_left.ensures
    (c.copy-2.ensures ∙ saved first)
