-- `region::check` meets its contract: the questions are asked in their order.
use Rattle.std.proofs.Common.{rules}
use Rattle.step.specs.Questions.{ask, first_no, length_above0, aligned, within_data}
use Rattle.region.proofs.check.Goals as goal

pub returns-in_err-ask : goal.returns-in_err-ask
unfolding first_no length_above0
returns-in_err-ask c = search rules

pub returns-in_err-alignment : goal.returns-in_err-alignment
unfolding ask first_no length_above0
returns-in_err-alignment c = search rules

pub returns : goal.returns
unfolding ask first_no length_above0 aligned within_data
returns c = search rules
