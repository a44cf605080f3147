-- `release::next_generation` meets its contract: the sum wraps.
use Rattle.step.specs.Step.{raised}
use Rattle.std.proofs.Common.{rules}
use Rattle.arrival.proofs.release.next_generation.Goals as goal

pub returns : goal.returns
unfolding raised
returns c = search rules
