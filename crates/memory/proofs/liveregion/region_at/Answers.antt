-- `liveregion::region_at` meets its contract: each word is read where the region's parts have it (Places); where the contract asks, none is missing.
use mathlib.Core.Path.{sym}
use native.Mathlib.Omega.{arith}
use Rattle.model.specs.Memory.{flag}
use Rattle.memory.proofs.Places.{live_at_lem}
use Rattle.memory.proofs.liveregion.region_at.Goals as goal

pub returns-then-handle-ge8 : goal.returns-then-handle-ge8
returns-then-handle-ge8 c = λ inside. absurd (omega (arith, inside.below))

pub returns-then-store-at : goal.returns-then-store-at
returns-then-store-at c = λ inside. absurd (omega (arith, inside.room))

pub returns : goal.returns
unfolding flag
returns c =
    let a = c.args in
    λ inside. rw c.gate_of.ensures (sym (live_at_lem a.store.now a.handle))
