-- `codes::request_of` meets its contract: each word is read where the request has it.
use mathlib.Core.Path.{refl}
use Rattle.model.specs.Memory.{flag}
use Rattle.abi.specs.Asked.{request_in}
use Rattle.abi.proofs.codes.request_of.Goals as goal

pub returns : goal.returns
unfolding request_in flag
returns c = refl
