-- `region::names` meets its contract: the questions are asked in their order.
use Rattle.std.proofs.Common.{rules}
use Rattle.step.specs.Questions.{ask, first_no, volume_and_region_match, generation_matches}
use Rattle.region.proofs.names.Goals as goal

pub returns-in_err-ask : goal.returns-in_err-ask
unfolding ask first_no volume_and_region_match generation_matches
returns-in_err-ask c = search rules

pub returns : goal.returns
unfolding ask first_no volume_and_region_match generation_matches
returns c = search rules
