-- `rows::new` meets its contract: the rows at the front are filled, and those behind them stay.
use Rattle.std.proofs.Common.{◌≡◌, ◌≤◌, length, take, length-take-le, arith}
use Rattle.std.proofs.lemmas.List.{length-replicate}
use Rattle.model.specs.Memory.{rows_opened, over}
use Rattle.optable.proofs.rows.new.Goals as goal

pub returns : goal.returns
unfolding rows_opened over
returns c =
    let rows = c.args.rows.now in
    let inside : c.min-n.result ≤ length rows = omega arith in
    let long : length (take c.min-n.result rows) ≡ c.min-n.result = length-take-le c.min-n.result rows inside in
    rw (c.fill.ensures.after (λ y e. e), long, c.freed_row.ensures, length-replicate, c.min-n.ensures)
