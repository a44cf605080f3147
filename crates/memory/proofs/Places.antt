-- The region at a handle, word by word: a word of a part of the store is the store's word at the part's start and that place.
use mathlib.Core.Path.{◌≡◌, ap, ◌∙◌}
use mathlib.Core.List.{List}
use Prim.Native.Nat.{ℕ, ◌+◌, ◌*◌, ◌<◌}
use native.Mathlib.Omega.{arith}
use lib.ListN.{get_or, take, drop}
use lib.Seq.{get_or-take, get_or-drop}
use lib.Dec.{lit<}
use Rattle.regionmap.specs.Words.{map_in}
use Rattle.model.specs.Memory.{flag, gate_in, region_in}
use Rattle.model.specs.Opening.{plan_in}
use Rattle.memory.specs.Live.{region_of, live_of}

-- the i-th word of the part of n words from k on stands at place j, which is k + i
word : (l : List ℕ) (n k i j : ℕ) → i < n → k + i ≡ j → get_or (take n (drop k l)) i 0 ≡ get_or l j 0
word l n k i j h e = get_or-take n (drop k l) i 0 h ∙ get_or-drop k l i 0 ∙ ap (λ (m : ℕ). get_or l m 0) e

pub live_at_lem : (store : List ℕ) (h : ℕ)
    → live_of (region_of store h)
    ≡ record { id = get_or store (48 + 70 * h) 0; generation = get_or store (48 + 70 * h + 1) 0; «data» = get_or store (48 + 70 * h + 4) 0; gate = gate_in (get_or store (24 + 3 * h) 0); read_only = flag (get_or store (25 + 3 * h) 0); forced = flag (get_or store (26 + 3 * h) 0) }
unfolding live_of region_of region_in plan_in map_in
live_at_lem store h = λ i. record {
  id = word store 70 (48 + 70 * h) 0 (48 + 70 * h) (lit< tt) (omega arith) i;
  generation = word store 70 (48 + 70 * h) 1 (48 + 70 * h + 1) (lit< tt) (omega arith) i;
  «data» = (get_or-drop 2 (take 70 (drop (48 + 70 * h) store)) 2 0 ∙ word store 70 (48 + 70 * h) 4 (48 + 70 * h + 4) (lit< tt) (omega arith)) i;
  gate = gate_in (word store 3 (24 + 3 * h) 0 (24 + 3 * h) (lit< tt) (omega arith) i);
  read_only = flag (word store 3 (24 + 3 * h) 1 (25 + 3 * h) (lit< tt) (omega arith) i);
  forced = flag (word store 3 (24 + 3 * h) 2 (26 + 3 * h) (lit< tt) (omega arith) i);
}
