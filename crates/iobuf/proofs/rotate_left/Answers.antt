-- `iobuf::rotate_left` meets its contract: the first n bytes, or all where there are fewer, are the part that is turned, and a turn by 0 or by all of them
-- changes nothing.
use mathlib.Core.Path.{◌≡◌, sym}
use native.Mathlib.Omega.{arith}
use lib.ListN.{length, take}
use lib.Seq.{length-take-le}
use Rattle.iobuf.proofs.Laws.{turned_none, turned_all, turned_part}
use Rattle.iobuf.proofs.rotate_left.Goals as goal
use Rattle.iobuf.proofs.rotate_left.Goals.{After-min-end}

-- the part that is lent is as long as the lesser of n and the length
cut : (c : After-min-end) → length (take c.min-end.result c.args.s.now) ≡ c.min-end.result
cut c = length-take-le c.min-end.result c.args.s.now (omega arith)

pub returns-then-k-eq0 : goal.returns-then-k-eq0
returns-then-k-eq0 c = sym (turned_none c.args.n c.args.k c.args.s.now c.if-k-eq0.true)

pub returns-then-k-end : goal.returns-then-k-end
returns-then-k-end c =
    turned_part c.args.n c.args.k c.min-end.result c.args.s.now c.rotate.new.s c.min-end.ensures c.rotate.ensures

pub returns-else-k-end : goal.returns-else-k-end
returns-else-k-end c =
    sym (turned_all c.args.n c.args.k c.args.s.now (omega arith))
