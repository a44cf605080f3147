-- `release::own` meets its contract: a place that is not there changes nothing.
use Rattle.std.proofs.Common.{ℕ, set, sym, ap, arith}
use lib.Seq.{set_out}
use Rattle.arrival.specs.Carried.{owner_word}
use Rattle.arrival.proofs.release.own.Goals as goal

pub returns-then-at-owners : goal.returns-then-at-owners
returns-then-at-owners c =
    let a = c.args in
    ap (λ (w : ℕ). set a.owners.now a.buffer w) c.owner_word-word.ensures

pub returns-else-at-owners : goal.returns-else-at-owners
returns-else-at-owners c =
    let a = c.args in
    sym (set_out a.owners.now a.buffer (owner_word a.back a.buf) (omega arith))
