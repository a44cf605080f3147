-- `codes::answer_form` meets its contract: each arm knows the form, or which forms it is not.
use native.Mathlib.Omega.{arith}
use borrow.Author.Tests.{ne_eqb}
use Rattle.layout.specs.Pick.{pick}
use Rattle.abi.specs.Asked.{answer_form}
use Rattle.abi.proofs.codes.answer_form.Goals as goal

pub returns-in-0 : goal.returns-in-0
unfolding answer_form pick
returns-in-0 c = rw c.in-0.is

pub returns-in-1 : goal.returns-in-1
unfolding answer_form pick
returns-in-1 c = rw c.in-1.is

pub returns-in-2 : goal.returns-in-2
unfolding answer_form pick
returns-in-2 c = rw c.in-2.is

pub returns-in-3 : goal.returns-in-3
unfolding answer_form pick
returns-in-3 c = rw c.in-3.is

pub returns-in_default : goal.returns-in_default
unfolding answer_form pick
returns-in_default c =
    let n = c.args.form in
    rw (ne_eqb n 0 (omega arith), ne_eqb n 1 (omega arith), ne_eqb n 2 (omega arith), ne_eqb n 3 (omega arith))
