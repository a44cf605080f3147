-- Of a stretch in the pool: no sum or product of its numbers exceeds 64 bits, and it ends within the pool.
use mathlib.Core.Path.{◌≡◌, ◌∙◌}
use mathlib.Core.Bool.{Bool, true}
use mathlib.Core.List.{List}
use Prim.Native.Nat.{ℕ, ◌+◌, ◌*◌, ◌≤◌}
use native.Mathlib.Omega.{arith}
use lib.ListN.{length, get_or}
use Rattle.model.specs.Memory.{settings_in}
use Rattle.hostfill.specs.Writes.{in_pool}
use Rattle.hostfill.proofs.May.{in_capacity, in_whole}

module _ (buffers capacity : ℕ) (pool : List ℕ) (b at n : ℕ) (e : in_pool buffers capacity pool b at n ≡ true) where
  pub ends : b * capacity + at + n ≤ length pool
  ends = let most = in_capacity buffers capacity pool b at n e in let all = in_whole buffers capacity pool b at n e in omega (arith, most, all)

-- by the words
pub settings_are : (store pool : List ℕ) (b at n : ℕ) (r : Bool) (buffers capacity : ℕ) → buffers ≡ get_or store 4 0 → capacity ≡ get_or store 5 0 → r ≡ in_pool buffers capacity pool b at n
    → r ≡ in_pool (settings_in store).buffers (settings_in store).capacity pool b at n
unfolding settings_in
settings_are store pool b at n r buffers capacity p q e = e ∙ (λ j. in_pool (p j) (q j) pool b at n)

pub capacity_is : (store : List ℕ) (capacity : ℕ) → capacity ≡ get_or store 5 0 → capacity ≡ (settings_in store).capacity
unfolding settings_in
capacity_is store capacity e = e
