-- `region::alignment` meets its contract: it asks the definition's two tests.
use Rattle.std.proofs.Common.{rules}
use Rattle.step.specs.Questions.{aligned}
use Rattle.region.proofs.alignment.Goals as goal

pub returns : goal.returns
unfolding aligned
returns c = search rules
