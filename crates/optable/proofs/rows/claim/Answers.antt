-- `rows::claim` meets its contract: the row is stored where its place is below the number of rows that may be written.
use Rattle.std.proofs.Common.{◌<◌, ◌≤◌, length, subst, rules}
use Rattle.optable.specs.Claimed.{claimable_of}
use Rattle.optable.proofs.Claims.{claims, claims_none}
use Rattle.optable.proofs.rows.claim.Goals as goal
use Rattle.optable.proofs.rows.claim.Goals.{Then-at-n}

below : (c : Then-at-n) → c.args.at < claimable_of c.args.frees (length c.args.rows.now)
below c = subst (λ n. c.args.at < n) c.claimable-n.ensures c.if-at-n.true

pub offset_bounds-rows-at : goal.offset_bounds-rows-at
offset_bounds-rows-at c = let inside = (claims c.args.at c.args.row c.args.rows.now c.args.frees (below c)).0 in search rules

pub bounds-rows-at : goal.bounds-rows-at
bounds-rows-at c = (claims c.args.at c.args.row c.args.rows.now c.args.frees (below c)).0

pub returns-then-at-n : goal.returns-then-at-n
returns-then-at-n c = (claims c.args.at c.args.row c.args.rows.now c.args.frees (below c)).1

pub returns-else-at-n : goal.returns-else-at-n
returns-else-at-n c = claims_none c.args.at c.args.row c.args.rows.now c.args.frees (subst (λ n. n ≤ c.args.at) c.claimable-n.ensures c.if-at-n.false)
