-- `lookup::seen` meets its contract, by those of what it calls.
use Rattle.std.proofs.Common.{rules}
use Rattle.layout.specs.Pick.{pick}
use Rattle.optable.specs.Looked.{seen_by}
use Rattle.optable.proofs.lookup.seen.Goals as goal

pub returns-then-is_live : goal.returns-then-is_live
unfolding seen_by pick
returns-then-is_live c = search rules

pub returns-else-is_live : goal.returns-else-is_live
unfolding seen_by pick
returns-else-is_live c = search rules
