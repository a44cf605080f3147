-- `ready::ready_for` meets its contract: each way out knows which question was the first to fail, and the list computes up to there.
use Rattle.std.proofs.Common.{rules}
use Rattle.step.specs.Questions.{ask, first_no, store_writable, unpoisoned, region_writable}
use Rattle.region.proofs.ready.ready_for.Goals as goal

pub returns-in_err-ask : goal.returns-in_err-ask
unfolding ask first_no store_writable unpoisoned region_writable
returns-in_err-ask c = search rules

pub returns-in-Some : goal.returns-in-Some
unfolding ask first_no store_writable unpoisoned region_writable
returns-in-Some c = search rules

pub returns : goal.returns
unfolding ask first_no store_writable unpoisoned region_writable
returns c = search rules
