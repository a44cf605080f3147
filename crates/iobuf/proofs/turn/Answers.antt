-- `iobuf::turn` meets its contract: a buffer below the number of whole buffers in the pool has its stretch there, and any other is not in it.
use mathlib.Core.Path.{◌≡◌, sym, ap, ◌∙◌, subst}
use mathlib.Core.List.{List, ◌++◌}
use Prim.Native.Nat.{ℕ, suc, ◌+◌, ◌-◌, ◌*◌, ◌/◌, ◌≤◌, ◌<◌}
use native.Mathlib.Nat.{suc-mul, div-lt_iff_lt-mul, le-div_iff_mul-le}
use native.Mathlib.Omega.{arith}
use lib.ListN.{length, take, drop}
use lib.Seq.{drop-drop}
use Rattle.iobuf.specs.Turn.{turned, stretch, with_stretch, turned_in}
use Rattle.iobuf.specs.TurnLaws.{Fits}
use Rattle.iobuf.proofs.Laws.{turn_laws, turned_empty}
use Rattle.iobuf.proofs.turn.Goals as goal
use Rattle.iobuf.proofs.turn.Goals.{Then-buffer-pool}

-- the stretch that was turned, put back into the pool
put : (capacity b n k : ℕ) (pool p : List ℕ) → Fits capacity b pool
    → p ≡ turned n k (take (b * capacity + capacity - b * capacity) (drop (b * capacity) pool))
    → take (b * capacity) pool ++ (p ++ drop (b * capacity + capacity - b * capacity) (drop (b * capacity) pool)) ≡ turned_in capacity b n k pool
unfolding stretch with_stretch
put capacity b n k pool p h e =
    let long : b * capacity + capacity - b * capacity ≡ capacity = omega arith in
    (λ i. take (b * capacity) pool ++ ((e ∙ ap (λ (m : ℕ). turned n k (take m (drop (b * capacity) pool))) long) i ++ (ap (λ (m : ℕ). drop m (drop (b * capacity) pool)) long ∙ drop-drop capacity (b * capacity) pool) i))
    ∙ sym (turn_laws.turned_in_lem capacity b n k pool h)

-- a buffer below the number of whole buffers lies within the pool
inside : (c : Then-buffer-pool) →
    let start = c.before.before.before in
    Fits start.args.capacity start.args.buffer start.args.pool.now
inside c =
    subst (λ (m : ℕ). m ≤ length c.args.pool.now) (suc-mul c.args.buffer c.args.capacity) ((le-div_iff_mul-le (omega arith)).0 c.if-buffer-pool.true)

pub returns-then-capacity-eq0 : goal.returns-then-capacity-eq0
returns-then-capacity-eq0 c =
    sym (turned_empty c.args.capacity c.args.buffer c.args.n c.args.k c.args.pool.now c.if-capacity-eq0.true)

pub returns-then-buffer-pool : goal.returns-then-buffer-pool
returns-then-buffer-pool c =
    let found = (goal.at.returns-then-buffer-pool c).Then-buffer-pool in
    put found.args.capacity found.args.buffer found.args.n found.args.k found.args.pool.now c.rotate_left.new.s (inside found) c.rotate_left.ensures

pub returns-else-buffer-pool : goal.returns-else-buffer-pool
returns-else-buffer-pool c =
    let capacity = c.args.capacity in
    let b = c.args.buffer in
    let pool = c.args.pool.now in
    let some : 0 < capacity = omega arith in
    let fewer : length pool / capacity < suc b = omega arith in
    sym (turn_laws.turned_out capacity b c.args.n c.args.k pool
    (subst (λ (m : ℕ). length pool < m) (suc-mul b capacity) ((div-lt_iff_lt-mul some).0 fewer)))
