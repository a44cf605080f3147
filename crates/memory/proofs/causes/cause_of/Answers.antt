-- `causes::cause_of` meets its contract: the parts are what op_of and error_of ensure.
use Rattle.model.specs.Memory.{cause_in}
use Rattle.memory.proofs.causes.cause_of.Goals as goal

pub returns : goal.returns
unfolding cause_in
returns c = λ i. record { op = c.op_of.ensures i; raw = c.error_of.ensures i }
