-- `codes::cause_of` meets its contract: the parts are what the callees ensure.
use Rattle.abi.specs.Asked.{cause_of}
use Rattle.abi.proofs.codes.cause_of.Goals as goal

pub returns : goal.returns
unfolding cause_of
returns c = λ i. record { op = c.op_of.ensures i; raw = c.error_of.ensures i }
