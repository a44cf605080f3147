-- `start::bytes_for` meets its contract: where there are fewer bytes than are asked for, all are taken.
use mathlib.Core.Path.{◌≡◌, refl, sym, ap, ◌∙◌}
use Prim.Native.Nat.{ℕ, ◌*◌, ◌<◌}
use native.Mathlib.Nat.{div-lt_iff_lt-mul, le-div_iff_mul-le, mul-zero}
use native.Mathlib.Omega.{arith}
use lib.ListN.{length, take}
use lib.Seq.{take_all}
use Rattle.session.proofs.start.bytes_for.Goals as goal

pub returns-then-capacity-eq0 : goal.returns-then-capacity-eq0
returns-then-capacity-eq0 c =
    let a = c.args in
    let none : a.o.capacity ≡ 0 = omega arith in
    (omega arith, ap (λ (n : ℕ). take n a.pool.now) (sym (ap (λ (n : ℕ). a.o.buffers * n) none ∙ mul-zero a.o.buffers)))

pub returns-then-n-capacity : goal.returns-then-n-capacity
returns-then-n-capacity c =
    let a = c.args in
    let some : 0 < a.o.capacity = omega arith in
    let fewer = (div-lt_iff_lt-mul some).0 c.if-n-capacity.true in
    (omega arith, take_all (length a.pool.now) a.pool.now (omega arith) ∙ sym (take_all (a.o.buffers * a.o.capacity) a.pool.now (omega (arith, fewer))))

pub overflow_mul-result : goal.overflow_mul-result
overflow_mul-result c =
    let a = c.args in
    let some : 0 < a.o.capacity = omega arith in
    let room = (le-div_iff_mul-le some).0 c.if-n-capacity.false in
    omega (arith, room)

pub returns : goal.returns
returns c =
    let a = c.args in
    let some : 0 < a.o.capacity = omega arith in
    let room = (le-div_iff_mul-le some).0 c.if-n-capacity.false in
    (omega (arith, room), refl)
