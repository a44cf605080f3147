-- `shift::shift_right` meets its contract: the bytes from k on that the first copy saves are those that the last one puts before the others.
use mathlib.Core.Path.{◌≡◌, ◌∙◌}
use mathlib.Core.List.{◌++◌}
use Prim.Native.Nat.{ℕ, ◌-◌}
use native.Mathlib.Omega.{arith}
use lib.ListN.{length, take, drop}
use Rattle.iobuf.proofs.ShiftParts.{front_held, put_before, to_end}
use Rattle.iobuf.proofs.shift.shift_right.Goals as goal
use Rattle.iobuf.proofs.shift.shift_right.Goals.{After-copy, Start}

abbrev st : After-copy → Start
st c = c.before.before.before.before.before.before.before

-- how many bytes lie from k on
abbrev rest : After-copy → ℕ
rest c = length (st c).args.s.now - (st c).args.k

-- after the first copy `saved` starts with the bytes from k on
saved : (c : After-copy) → take (rest c) (c.copy.new.to ++ drop (rest c) (st c).args.saved.now) ≡ drop (st c).args.k (st c).args.s.now
saved c =
    front_held (st c).args.saved.now c.copy.new.to (rest c) (omega arith) c.copy.auto.to
    ∙ c.copy.ensures
    ∙ to_end (st c).args.s.now (st c).args.k

pub returns : goal.returns
returns c =
    let first = (goal.at.returns c).After-copy in
    let start = st first in
    put_before start.args.s.now c.move_right.new.s c.copy-2.new.to start.args.k (omega arith) c.move_right.ensures
    (c.copy-2.ensures ∙ saved first)
