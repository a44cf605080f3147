-- `release::push` meets its contract: with no row out nothing is stored, and a place that is not there changes nothing.
use Rattle.std.proofs.Common.{◌-◌, sym, ◌∙◌, arith}
use lib.Seq.{set_out}
use Rattle.arrival.proofs.Releasing.{pushed_none, pushed_on}
use Rattle.arrival.proofs.release.push.Goals as goal

pub returns-then-live-eq0 : goal.returns-then-live-eq0
returns-then-live-eq0 c =
    let a = c.args in
    sym (pushed_none a.live a.row a.free.now (omega arith))

pub returns-then-at-free : goal.returns-then-at-free
returns-then-at-free c =
    let a = c.args in
    sym (pushed_on a.live a.row a.free.now (omega arith))

pub returns-else-at-free : goal.returns-else-at-free
returns-else-at-free c =
    let a = c.args in
    sym (pushed_on a.live a.row a.free.now (omega arith) ∙ set_out a.free.now (a.live - 1) a.row (omega arith))
