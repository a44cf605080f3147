-- `oldest::oldest` meets its contract: where there is a ring, its place lies in the words.
use mathlib.Core.Path.{◌≡◌, sym, ap₂, ◌∙◌}
use Prim.Native.Nat.{ℕ, ◌+◌, ◌-◌}
use native.Mathlib.Omega.{arith}
use lib.ListN.{take, drop}
use Rattle.layout.proofs.Tests.{not_both}
use Rattle.model.specs.Memory.{completion_in}
use Rattle.ring.specs.Queue.{oldest_in}
use Rattle.ring.proofs.Places.{is_ring, ring_true, place_room}
use Rattle.ring.proofs.oldest.oldest.Goals as goal

pub place-at-requires : goal.place-at-requires
place-at-requires c = is_ring _ _ _ c.ring.ensures c.if-ring.true

pub overflow_add-end : goal.overflow_add-end
overflow_add-end c =
    let room = place_room _ _ 0 (is_ring _ _ _ c.ring.ensures c.if-ring.true) in
    omega (arith, room, c.place-at.ensures)

pub offset_bounds-ready-at : goal.offset_bounds-ready-at
offset_bounds-ready-at c =
    let room = place_room _ _ 0 (is_ring _ _ _ c.ring.ensures c.if-ring.true) in
    omega (arith, room, c.place-at.ensures)

pub slice_bounds-completion_of-end : goal.slice_bounds-completion_of-end
slice_bounds-completion_of-end c =
    let room = place_room _ _ 0 (is_ring _ _ _ c.ring.ensures c.if-ring.true) in
    omega (arith, room, c.place-at.ensures)

pub returns-then-ring : goal.returns-then-ring
unfolding oldest_in
returns-then-ring c = λ r.
    let a = c.args in
    let at = c.place-at.result in
    let size : at + 16 - at ≡ 16 = omega arith in
    c.completion_of.ensures ∙ ap₂ (λ (n k : ℕ). completion_in a.o (take n (drop k a.ready.now))) size c.place-at.ensures

pub returns-else-ring : goal.returns-else-ring
returns-else-ring c =
    let a = c.args in
    λ r. absurd (not_both (ring_true a.o.depth a.ready.now r) (sym c.ring.ensures ∙ c.if-ring.false))
