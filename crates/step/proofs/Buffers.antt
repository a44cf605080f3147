-- Each buffer lies within the pool, and with as many other bytes there the pool is as long as before.
use mathlib.Core.Path.{◌≡◌, sym, ◌∙◌}
use mathlib.Core.List.{List}
use Prim.Native.Nat.{ℕ, suc, ◌+◌, ◌*◌, ◌≤◌, ◌<◌}
use native.Mathlib.Nat.{suc-mul, mul-le-mul_right}
use native.Mathlib.Omega.{arith}
use lib.ListN.{length}
use Rattle.iobuf.specs.Turn.{with_stretch}
use Rattle.iobuf.specs.TurnLaws.{Fits}
use Rattle.iobuf.proofs.Laws.{turn_laws}
use Rattle.model.specs.State.{State}
use Rattle.step.specs.Step.{bytes_at}
use Rattle.step.specs.Sound.{Sound}

module _ (s : State) (i : Sound s) (b : ℕ) (lt : b < s.settings.buffers) where
  -- of any pool of the table's length
  pub in_pool_lem : (pool : List ℕ) → length pool ≡ s.lengths.pool → Fits s.settings.capacity b pool
  in_pool_lem pool e =
      let cap = s.settings.capacity in
      let one : b * cap + cap ≡ suc b * cap = sym (suc-mul b cap) in
      let all : suc b * cap ≤ s.settings.buffers * cap = mul-le-mul_right cap lt in
      let whole_pool = i.pool_is in
      omega (arith, one, all, e, whole_pool)

  pub bytes_length : length (bytes_at s b) ≡ s.settings.capacity
  unfolding bytes_at
  bytes_length = turn_laws.stretch_length s.settings.capacity b s.pool (in_pool_lem s.pool i.pool)

  pub filled_pool : (bytes : List ℕ) → length bytes ≡ length (bytes_at s b) → length (with_stretch s.settings.capacity b bytes s.pool) ≡ length s.pool
  filled_pool bytes e = turn_laws.filled_length s.settings.capacity b bytes s.pool (in_pool_lem s.pool i.pool) (e ∙ bytes_length)
