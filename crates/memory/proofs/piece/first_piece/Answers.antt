-- `piece::first_piece` meets its contract, by that of `piece_at` on the region's words; where the contract asks, none is missing.
use mathlib.Core.Path.{◌≡◌, ap, subst}
use mathlib.Core.List.{List}
use Prim.Native.Nat.{ℕ, ◌+◌, ◌-◌, ◌*◌}
use native.Mathlib.Omega.{arith}
use lib.ListN.{take, drop}
use Rattle.regionmap.specs.Words.{map_in}
use Rattle.regionmap.specs.Found.{HoldsMap, piece_found}
use Rattle.memory.proofs.piece.first_piece.Goals as goal

pub returns-then-handle-ge8 : goal.returns-then-handle-ge8
returns-then-handle-ge8 c = λ inside _. absurd (omega (arith, inside.below, c.if-handle-ge8.true))

pub returns-then-store-at : goal.returns-then-store-at
returns-then-store-at c = λ inside _. absurd (omega (arith, inside.room, c.if-store-at.true))

-- the part that is lent is the region's map
lent_map : (l : List ℕ) (k : ℕ) → take (k + 68 - k) (drop k l) ≡ take 68 (drop k l)
lent_map l k = ap (λ (n : ℕ). take n (drop k l)) (let e : k + 68 - k ≡ 68 = omega arith in e)

pub returns : goal.returns
returns c =
    let a = c.args in
    λ inside lies.
    subst (λ (ws : List ℕ). HoldsMap ws → c.piece_at.result ≡ piece_found (map_in ws) a.pos.0 a.left) (lent_map a.store.now (50 + 70 * a.handle)) c.piece_at.ensures lies
