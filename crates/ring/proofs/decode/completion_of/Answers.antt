-- `decode::completion_of` meets its contract: the parts are what outcome_of and buffer_of ensure.
use lib.ListN.{get_or}
use Rattle.model.specs.Memory.{completion_in}
use Rattle.ring.proofs.decode.completion_of.Goals as goal

pub returns : goal.returns
unfolding completion_in
returns c = λ i. record { tag = get_or c.args.w.now 0 0; outcome = c.outcome_of.ensures i; buf = c.buffer_of.ensures i }
