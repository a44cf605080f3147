-- The places of a ring in words.
use mathlib.Core.Path.{◌≡◌, sym, ◌∙◌}
use mathlib.Core.Bool.{Bool, true, false}
use mathlib.Core.List.{List}
use Prim.Native.Nat.{ℕ, suc, ◌+◌, ◌≤◌, ◌%◌}
use native.Mathlib.Nat.{mod-lt, add-mod, mod-add-mod}
use native.Mathlib.Numerals.{add-one}
use native.Mathlib.Omega.{arith}
use borrow.Author.Tests.{ltb-true, leb-true, lt-ltb, le-leb}
use lib.ListN.{length, get_or, set}
use lib.Dec.{ltb, leb}
use Rattle.layout.specs.Pick.{pick}
use Rattle.layout.proofs.Tests.{and_left, and_right, and_both}
use Rattle.completion.specs.declared.Completion.{Completion}
use Rattle.model.specs.Memory.{completion_words}
use Rattle.ring.specs.Queue.{Ring, ring_in, place_in, placed, published, popped}

-- the test, and what it means
module _ (d : ℕ) (ws : List ℕ) where
  pub ring_holds : ring_in d ws ≡ true → Ring d ws
  unfolding ring_in
  ring_holds e =
      let behind = and_right (ltb 0 d) _ e in
      record { some = ltb-true _ _ (and_left (ltb 0 d) _ e); most = leb-true _ _ (and_left (leb d 4096) _ behind); room = leb-true _ _ (and_right (leb d 4096) _ behind) }

  -- of what a call of `ring` ensures, where it gave true
  pub is_ring : (b : Bool) → b ≡ ring_in d ws → b ≡ true → Ring d ws
  is_ring b e t = ring_holds (sym e ∙ t)

  pub ring_true : Ring d ws → ring_in d ws ≡ true
  unfolding ring_in
  ring_true r = and_both (ltb 0 d) _ (lt-ltb _ _ r.some) (and_both (leb d 4096) _ (le-leb _ _ r.most) (le-leb _ _ r.room))

  -- a place is in the ring
  pub place_room : (n : ℕ) → Ring d ws → place_in d n ws + 16 ≤ length ws
  unfolding place_in
  place_room n r = omega (arith, r.room, mod-lt (get_or ws 0 0 + n) r.some)

-- what is published and popped, where there is a ring and where not
module _ (d n : ℕ) (c : Completion) (ws : List ℕ) where
  pub published_in : ring_in d ws ≡ true → published d n c ws ≡ placed (place_in d n ws) (completion_words c) ws
  unfolding published pick
  published_in e = rw e

  pub published_not : ring_in d ws ≡ false → published d n c ws ≡ ws
  unfolding published pick
  published_not e = rw e

module _ (d : ℕ) (ws : List ℕ) where
  pub popped_in : ring_in d ws ≡ true → popped d ws ≡ set ws 0 (suc (get_or ws 0 0) % d)
  unfolding popped pick
  popped_in e = rw e

  pub popped_not : ring_in d ws ≡ false → popped d ws ≡ ws
  unfolding popped pick
  popped_not e = rw e

-- what the functions on a ring go by
pub ruleset place_steps = (add-mod, mod-lt)

pub ruleset publish_steps = (ring_holds, place_room, published_in, published_not)

pub ruleset pop_steps = (ring_holds, popped_in, popped_not, mod-lt, mod-add-mod, add-one)
