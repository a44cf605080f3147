-- `hostlines::rows_line` meets its contract: an open table has at most 64 rows (Listed).
use mathlib.Core.Path.{◌≡◌, refl}
use native.Mathlib.Omega.{arith}
use lib.ListN.{length}
use Rattle.model.specs.Memory.{settings_in}
use Rattle.session.proofs.Listed.{lists}
use Rattle.session.proofs.hostlines.rows_line.Goals as goal

pub returns : goal.returns
unfolding settings_in
returns c =
    let a = c.args in
    let long : length a.rows ≡ 64 = omega arith in
    (c.say_rows.ensures.0, lists a.counts a.rows a.store.now a.free.now _ _ _ long c.word-depth.ensures refl c.say_rows.ensures.1)
