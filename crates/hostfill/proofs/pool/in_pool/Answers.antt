-- `pool::in_pool` meets its contract: no sum or product exceeds 64 bits, since each test comes before it.
use mathlib.Core.Path.{◌≡◌}
use Prim.Native.Nat.{◌+◌, ◌*◌, ◌≤◌}
use lib.ListN.{length}
use native.Mathlib.Omega.{arith}
use borrow.Author.Tests.{lt-ltb, le-ltb, le-leb, lt-leb}
use Rattle.hostfill.specs.Writes.{in_pool}
use Rattle.hostfill.proofs.Bytes.{by_quotient}
use Rattle.hostfill.proofs.pool.in_pool.Goals as goal

pub returns-then-buffers-b : goal.returns-then-buffers-b
unfolding in_pool
returns-then-buffers-b c = simp (le-ltb _ _ c.if-buffers-b.true)

pub returns-then-capacity-at : goal.returns-then-capacity-at
unfolding in_pool
returns-then-capacity-at c = let a = c.args in simp (lt-ltb a.b a.buffers (omega arith), lt-leb (a.at + a.n) a.capacity (omega arith))

pub returns-then-capacity-at-2 : goal.returns-then-capacity-at-2
unfolding in_pool
returns-then-capacity-at-2 c = let a = c.args in simp (lt-ltb a.b a.buffers (omega arith), lt-leb (a.at + a.n) a.capacity (omega arith))

pub returns-then-len-capacity : goal.returns-then-len-capacity
unfolding in_pool
returns-then-len-capacity c = let a = c.args in simp (lt-ltb a.b a.buffers (omega arith), le-leb (a.at + a.n) a.capacity (omega arith), lt-leb (a.b * a.capacity + a.capacity) (length a.pool.now) (omega arith))

pub returns-then-capacity-eq0 : goal.returns-then-capacity-eq0
unfolding in_pool
returns-then-capacity-eq0 c =
    let a = c.args in
    let none : a.capacity ≡ 0 = omega arith in
    let fits : a.b * a.capacity + a.capacity ≤ length a.pool.now = rw none (omega arith) in
    simp (lt-ltb a.b a.buffers (omega arith), le-leb (a.at + a.n) a.capacity (omega arith), le-leb (a.b * a.capacity + a.capacity) (length a.pool.now) fits)

pub returns : goal.returns
unfolding in_pool
returns c = let a = c.args in simp (lt-ltb a.b a.buffers (omega arith), le-leb (a.at + a.n) a.capacity (omega arith), by_quotient a.b a.capacity (length a.pool.now) (omega arith) (omega arith))
