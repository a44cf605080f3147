-- `codes::error_of` meets its contract, by the flag.
use Rattle.std.proofs.Common.{rules}
use Rattle.layout.specs.Pick.{pick}
use Rattle.abi.specs.Asked.{error_of}
use Rattle.abi.proofs.codes.error_of.Goals as goal

pub returns : goal.returns
unfolding error_of pick
returns c = search rules
