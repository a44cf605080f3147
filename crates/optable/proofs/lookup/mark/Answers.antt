-- `lookup::mark` meets its contract, by that of the wrapping sum.
use Rattle.std.proofs.Common.{rules}
use Rattle.layout.specs.Pick.{pick}
use Rattle.regionmap.specs.Found.{wrap64}
use Rattle.optable.specs.Looked.{mark_wrapped}
use Rattle.optable.proofs.lookup.mark.Goals as goal

pub returns-then-counts-eq0 : goal.returns-then-counts-eq0
unfolding mark_wrapped pick wrap64
returns-then-counts-eq0 c = search rules

pub returns-else-counts-eq0 : goal.returns-else-counts-eq0
unfolding mark_wrapped pick wrap64
returns-else-counts-eq0 c = search rules
