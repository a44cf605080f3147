-- Of an open table: where the host may write, by the tests that the code makes.
use mathlib.Core.Path.{◌≡◌, refl, sym, ap, ◌∙◌}
use mathlib.Core.Bool.{Bool, true, false, ◌&&◌, ◌||◌}
use mathlib.Core.List.{List, [], ◌∷◌}
use Prim.Native.Nat.{ℕ, zero, suc, ◌+◌, ◌*◌, ◌≤◌, ◌<◌}
use native.Mathlib.Omega.{arith}
use lib.ListN.{length, get_or, take, length-take, length-map, get_or-map}
use lib.Seq.{get_or-take}
use lib.Dec.{leb, ltb, eqb}
use borrow.Author.Tests.{ltb-true, leb-true, eq-eqb, ne_eqb}
use Rattle.layout.specs.Pick.{pick}
use Rattle.layout.proofs.Tests.{and_left, and_right}
use Rattle.model.specs.declared.Counts.{Counts}
use Rattle.model.specs.declared.Row.{Row}
use Rattle.model.specs.State.{Owner.host, Owner.table, Owner.lost, State}
use Rattle.model.specs.Memory.{settings_in, owner_in, state_in}
use Rattle.step.specs.Questions.{is_host, held_at}
use Rattle.optable.specs.Called.{lent_of}
use Rattle.hostfill.specs.Writes.{in_pool}
use Rattle.hostfill.specs.MayFill.{any_loose, may_fill, Open}

-- what is in the pool: the buffer is one of the pool's, and the stretch ends within its capacity
pub in_buffers : (buffers capacity : ℕ) (pool : List ℕ) (b at n : ℕ) → in_pool buffers capacity pool b at n ≡ true → b < buffers
unfolding in_pool
in_buffers buffers capacity pool b at n e = ltb-true b buffers (and_left (ltb b buffers) _ e)

pub in_capacity : (buffers capacity : ℕ) (pool : List ℕ) (b at n : ℕ) → in_pool buffers capacity pool b at n ≡ true → at + n ≤ capacity
unfolding in_pool
in_capacity buffers capacity pool b at n e = leb-true (at + n) capacity (and_left (leb (at + n) capacity) _ (and_right (ltb b buffers) _ e))

pub in_whole : (buffers capacity : ℕ) (pool : List ℕ) (b at n : ℕ) → in_pool buffers capacity pool b at n ≡ true → b * capacity + capacity ≤ length pool
unfolding in_pool
in_whole buffers capacity pool b at n e = leb-true (b * capacity + capacity) (length pool) (and_right (leb (at + n) capacity) _ (and_right (ltb b buffers) _ e))

host_only : (x y : Bool) → is_host (pick x host (pick y table lost)) ≡ x
unfolding is_host pick
host_only true y = refl
host_only false true = refl
host_only false false = refl

owner_host : (n : ℕ) → is_host (owner_in n) ≡ eqb n 0
unfolding owner_in
owner_host n = host_only (eqb n 0) (eqb n 1)

within : (l : List ℕ) (n : ℕ) → n < length l → get_or l n 2 ≡ get_or l n 0
within [] n h = absurd (omega (arith, h))
within (x ∷ l) zero h = refl
within (x ∷ l) (suc n) h = within l n (omega (arith, h))

module _ (c : Counts) (rows : List Row) (store free ready owners pool : List ℕ) (is_open : Open c (lent_of rows store free ready owners pool)) (b at n : ℕ) where
  abbrev s : State
  s = state_in c (lent_of rows store free ready owners pool)

  abbrev inside : Bool
  inside = in_pool (settings_in store).buffers (settings_in store).capacity pool b at n

  as_many : length (take (settings_in store).buffers owners) ≡ (settings_in store).buffers
  unfolding state_in
  as_many = sym (length-map (take (settings_in store).buffers owners) owner_in) ∙ is_open.sound.owners

  held_is : b < (settings_in store).buffers → held_at s b ≡ eqb (get_or owners b 0) 0
  unfolding held_at state_in owner_in pick
  held_is below =
      let long = length-take (settings_in store).buffers owners in
      let many = as_many in
      ap is_host (get_or-map owner_in (take (settings_in store).buffers owners) b 2)
      ∙ ap (λ (x : ℕ). is_host (owner_in x)) (get_or-take (settings_in store).buffers owners b 2 below ∙ within owners b (omega (arith, below, long, many)))
      ∙ owner_host (get_or owners b 0)

  pub not_inside : inside ≡ false → false ≡ may_fill s b at n
  unfolding may_fill state_in
  not_inside e = sym (ap (λ (t : Bool). t && (held_at s b || any_loose s b (at + n) s.rows)) e)

  pub is_held : inside ≡ true → get_or owners b 0 ≡ 0 → true ≡ may_fill s b at n
  unfolding may_fill state_in
  is_held e h =
      let below = in_buffers (settings_in store).buffers (settings_in store).capacity pool b at n e in
      sym (ap (λ (t : Bool). t && (held_at s b || any_loose s b (at + n) s.rows)) e ∙ ap (λ (t : Bool). t || any_loose s b (at + n) s.rows) (held_is below ∙ eq-eqb (get_or owners b 0) 0 h))

  pub by_rows : inside ≡ true → (get_or owners b 0 ≡ 0 → ⊥) → (r : Bool) → r ≡ any_loose s b (at + n) s.rows → r ≡ may_fill s b at n
  unfolding may_fill state_in
  by_rows e h r is =
      let below = in_buffers (settings_in store).buffers (settings_in store).capacity pool b at n e in
      is ∙ sym (ap (λ (t : Bool). t && (held_at s b || any_loose s b (at + n) s.rows)) e ∙ ap (λ (t : Bool). t || any_loose s b (at + n) s.rows) (held_is below ∙ ne_eqb (get_or owners b 0) 0 h))
