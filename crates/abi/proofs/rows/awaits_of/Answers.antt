-- `rows::awaits_of` meets its contract: each arm knows word 6, or which words it is not, and each word is read where the case has it.
use native.Mathlib.Omega.{arith}
use borrow.Author.Tests.{ne_eqb}
use Rattle.layout.specs.Pick.{pick}
use lib.ListN.{get_or}
use Rattle.abi.specs.RowWords.{split_in, ticket_in, awaits_in}
use Rattle.abi.proofs.rows.awaits_of.Goals as goal

pub returns-in-0 : goal.returns-in-0
unfolding awaits_in pick
returns-in-0 c = rw c.in-0.is

pub returns-in-1 : goal.returns-in-1
unfolding awaits_in split_in pick
returns-in-1 c = rw c.in-1.is

pub returns-in-2 : goal.returns-in-2
unfolding awaits_in split_in pick
returns-in-2 c = rw c.in-2.is

pub returns-in_default : goal.returns-in_default
unfolding awaits_in ticket_in pick
returns-in_default c =
    let n = get_or c.args.w.now 6 0 in
    rw (ne_eqb n 0 (omega arith), ne_eqb n 1 (omega arith), ne_eqb n 2 (omega arith))
