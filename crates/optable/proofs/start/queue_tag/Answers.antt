-- `start::queue_tag` meets its contract, by that of the wrapping sum.
use Rattle.std.proofs.Common.{rules}
use Rattle.regionmap.specs.Found.{wrap64}
use Rattle.step.specs.Step.{queue_tag}
use Rattle.optable.proofs.start.queue_tag.Goals as goal

pub returns : goal.returns
unfolding wrap64 queue_tag
returns c = search rules
