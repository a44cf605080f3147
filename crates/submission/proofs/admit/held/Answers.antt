-- `admit::held` meets its contract: a word of the pool says who holds its buffer, and past the pool or the words nobody does.
use Rattle.std.proofs.Common.{rules, arith}
use Rattle.submission.proofs.Holder.{held_within, held_past}
use Rattle.submission.proofs.admit.held.Goals as goal

pub returns-then-at-owners : goal.returns-then-at-owners
returns-then-at-owners c =
    let a = c.args in
    held_within a.owners.now a.buffers a.buffer (omega arith) (omega arith)

pub returns-else-at-owners : goal.returns-else-at-owners
returns-else-at-owners c = search (rules, held_past)
