-- `ready::ctx_range` meets its contract: its end is what capped_end ensures.
use Rattle.step.specs.Questions.{range_from}
use Rattle.region.proofs.ready.ctx_range.Goals as goal

pub returns : goal.returns
unfolding range_from
returns c = rw c.capped_end.ensures
