-- `codes::flushed_form` meets its contract: each arm knows the form, or which forms it is not, and the operation's code.
use native.Mathlib.Omega.{arith}
use borrow.Author.Tests.{ne_eqb, lt-ltb, le-ltb}
use Rattle.layout.specs.Pick.{pick}
use Rattle.abi.specs.Asked.{flushed_form}
use Rattle.abi.proofs.codes.flushed_form.Goals as goal

pub returns-then-form-eq0 : goal.returns-then-form-eq0
unfolding flushed_form pick
returns-then-form-eq0 c = rw c.if-form-eq0.true

pub returns-then-op-ge4 : goal.returns-then-op-ge4
unfolding flushed_form pick
returns-then-op-ge4 c =
    let a = c.args in
    rw (ne_eqb a.form 0 c.if-form-eq0.false, le-ltb a.op 4 c.if-op-ge4.true)

pub returns-in-1 : goal.returns-in-1
unfolding flushed_form pick
returns-in-1 c =
    let a = c.args in
    rw (c.cause_of-cause.ensures, c.in-1.is, lt-ltb a.op 4 c.if-op-ge4.false)

pub returns-in-2 : goal.returns-in-2
unfolding flushed_form pick
returns-in-2 c =
    let a = c.args in
    rw (c.cause_of-cause.ensures, c.in-2.is, lt-ltb a.op 4 c.if-op-ge4.false)

pub returns-in_default : goal.returns-in_default
unfolding flushed_form pick
returns-in_default c =
    let a = c.args in
    rw (ne_eqb a.form 0 c.if-form-eq0.false, lt-ltb a.op 4 c.if-op-ge4.false, ne_eqb a.form 1 (omega arith), ne_eqb a.form 2 (omega arith))
