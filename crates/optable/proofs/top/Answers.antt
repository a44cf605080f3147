-- `optable::top` meets its contract: past the end the word is 0.
use Rattle.std.proofs.Common.{sym}
use lib.ListN.{get_or-eq_default}
use Rattle.optable.proofs.top.Goals as goal

pub returns-else-at-free : goal.returns-else-at-free
returns-else-at-free c =
    let a = c.args in
    sym (get_or-eq_default a.free.now 0 {n = a.live} c.if-at-free.false)
