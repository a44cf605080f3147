-- `decode::outcome_of` meets its contract: each arm knows word 1, or which words it is not, and the parts are what the callees ensure.
use native.Mathlib.Omega.{arith}
use borrow.Author.Tests.{ne_eqb}
use Rattle.layout.specs.Pick.{pick}
use lib.ListN.{get_or}
use Rattle.model.specs.Memory.{outcome_in, cause_in}
use Rattle.ring.proofs.decode.outcome_of.Goals as goal

pub returns-in-1 : goal.returns-in-1
unfolding outcome_in pick
returns-in-1 c = rw (c.in-1.is, c.ticket_of-t.ensures)

pub returns-in-2 : goal.returns-in-2
unfolding outcome_in pick
returns-in-2 c = rw (c.in-2.is, c.receipt_for.ensures, c.ticket_of-t.ensures)

pub returns-in-3 : goal.returns-in-3
unfolding outcome_in pick
returns-in-3 c = rw c.in-3.is

pub returns-in-4 : goal.returns-in-4
unfolding outcome_in pick
returns-in-4 c = rw (c.in-4.is, c.range_of-r.ensures, c.cause_of-e.ensures)

pub returns-in-5 : goal.returns-in-5
unfolding outcome_in pick
returns-in-5 c = rw (c.in-5.is, c.range_of-r.ensures)

pub returns-in-6 : goal.returns-in-6
unfolding outcome_in pick
returns-in-6 c = rw (c.in-6.is, c.range_of-r.ensures)

pub returns-in-7 : goal.returns-in-7
unfolding outcome_in pick cause_in
returns-in-7 c = rw (c.in-7.is, c.range_of-r.ensures, c.cause_of-e.ensures)

pub returns-in-8 : goal.returns-in-8
unfolding outcome_in pick
returns-in-8 c = rw (c.in-8.is, c.range_of-r.ensures)

pub returns-in_default : goal.returns-in_default
unfolding outcome_in pick
returns-in_default c =
    let n = get_or c.args.w.now 1 0 in
    rw (ne_eqb n 1 (omega arith), ne_eqb n 2 (omega arith), ne_eqb n 3 (omega arith), ne_eqb n 4 (omega arith), ne_eqb n 5 (omega arith), ne_eqb n 6 (omega arith), ne_eqb n 7 (omega arith), ne_eqb n 8 (omega arith), c.cause_of-e.ensures)
