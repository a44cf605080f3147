-- `codes::gate_form` meets its contract: each arm knows the code, or which codes it is not.
use Prim.Native.Nat.{◌≤◌}
use native.Mathlib.Omega.{arith}
use borrow.Author.Tests.{le-ltb}
use Rattle.layout.specs.Pick.{pick}
use Rattle.model.specs.Memory.{gate_in}
use Rattle.abi.specs.Asked.{gate_form}
use Rattle.abi.proofs.codes.gate_form.Goals as goal

pub returns-in-0 : goal.returns-in-0
unfolding gate_form gate_in pick
returns-in-0 c = rw c.in-0.is

pub returns-in-1 : goal.returns-in-1
unfolding gate_form gate_in pick
returns-in-1 c = rw c.in-1.is

pub returns-in-2 : goal.returns-in-2
unfolding gate_form gate_in pick
returns-in-2 c = rw c.in-2.is

pub returns-in_default : goal.returns-in_default
unfolding gate_form gate_in pick
returns-in_default c =
    let g = c.args.gate in
    let above : 3 ≤ g = omega arith in
    rw (le-ltb g 3 above)
