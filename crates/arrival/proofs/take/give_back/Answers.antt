-- `take::give_back` meets its contract: each arm knows the case, and where there is no such buffer storing its owner changes nothing.
use Rattle.std.proofs.Common.{sym, ap, ◌∙◌, arith}
use lib.Seq.{set_out}
use Rattle.completion.specs.Buffers.{Buffer}
use Rattle.arrival.specs.Taking.{back_in}
use Rattle.arrival.proofs.take.give_back.Goals as goal

pub returns-then-at-owners : goal.returns-then-at-owners
unfolding back_in
returns-then-at-owners c =
    let a = c.args in
    sym (ap (λ (b : Buffer). back_in b a.owners.now) c.in-Some.is)

pub returns-else-at-owners : goal.returns-else-at-owners
unfolding back_in
returns-else-at-owners c =
    let a = c.args in
    sym (ap (λ (b : Buffer). back_in b a.owners.now) c.in-Some.is ∙ set_out a.owners.now c.in-Some.field-0.buffer 0 (omega arith))

pub returns-in-None : goal.returns-in-None
unfolding back_in
returns-in-None c =
    let a = c.args in
    sym (ap (λ (b : Buffer). back_in b a.owners.now) c.in-None.is)
