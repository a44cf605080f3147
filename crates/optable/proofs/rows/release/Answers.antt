-- `rows::release` meets its contract: the row is stored where its place is below the number of rows that may be written.
use Rattle.std.proofs.Common.{◌<◌, ◌≤◌, length, subst, rules}
use Rattle.optable.specs.Claimed.{releasable_of}
use Rattle.optable.proofs.Claims.{releases, releases_none}
use Rattle.optable.proofs.rows.release.Goals as goal
use Rattle.optable.proofs.rows.release.Goals.{Then-at-n}

below : (c : Then-at-n) → c.args.at < releasable_of c.args.frees (length c.args.rows.now)
below c = subst (λ n. c.args.at < n) c.releasable-n.ensures c.if-at-n.true

pub offset_bounds-rows-at : goal.offset_bounds-rows-at
offset_bounds-rows-at c = let inside = (releases c.args.at c.args.row c.args.rows.now c.args.frees (below c)).0 in search rules

pub bounds-rows-at : goal.bounds-rows-at
bounds-rows-at c = (releases c.args.at c.args.row c.args.rows.now c.args.frees (below c)).0

pub returns-then-at-n : goal.returns-then-at-n
returns-then-at-n c = (releases c.args.at c.args.row c.args.rows.now c.args.frees (below c)).1

pub returns-else-at-n : goal.returns-else-at-n
returns-else-at-n c = releases_none c.args.at c.args.row c.args.rows.now c.args.frees (subst (λ n. n ≤ c.args.at) c.releasable-n.ensures c.if-at-n.false)
