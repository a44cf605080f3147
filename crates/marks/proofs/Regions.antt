-- A region's mark set in the words is the mark of that region, and of no other: by induction on its handle.
use mathlib.Core.Path.{◌≡◌, ap, ap₂, ◌∙◌}
use mathlib.Core.List.{List, ◌∷◌}
use Prim.Native.Nat.{ℕ, zero, suc, ◌+◌, ◌*◌, ◌<◌}
use native.Mathlib.Nat.{not-suc-le-zero, le_of_suc-le-suc}
use native.Mathlib.Omega.{arith}
use lib.ListN.{length, get_or, take, drop, set, length-take, length-drop}
use lib.Seq.{take-set-le, take-set-lt, drop-set-lt, drop-set-add}
use Rattle.model.specs.State.{Region, no_region}
use Rattle.model.specs.Memory.{region_in, regions_in}

module _ (mark word : ℕ) (f : Region → Region) (below : mark < 3) (each : (marks ws : List ℕ) → mark < length marks → region_in (set marks mark word) ws ≡ f (region_in marks ws)) where
  pub regions_set : (n h : ℕ) (marks ws : List ℕ) → h < n → 3 * h + mark < length marks
      → regions_in n (set marks (3 * h + mark) word) ws ≡ set (regions_in n marks ws) h (f (get_or (regions_in n marks ws) h no_region))
  unfolding regions_in
  regions_set zero h marks ws l room = absurd (not-suc-le-zero l)
  regions_set (suc n) zero marks ws l room =
      let at : 3 * 0 + mark ≡ mark = omega arith in
      ap (λ (k : ℕ). regions_in (suc n) (set marks k word) ws) at
      ∙ ap₂ (λ (g : Region) (gs : List Region). g ∷ gs)
      (ap (λ (ms : List ℕ). region_in ms (take 70 ws)) (take-set-lt 3 marks mark word below) ∙ each (take 3 marks) (take 70 ws) (omega (arith, room, below, length-take 3 marks)))
      (ap (λ (ms : List ℕ). regions_in n ms (drop 70 ws)) (drop-set-lt 3 marks mark word below))
  regions_set (suc n) (suc h) marks ws l room =
      let at : 3 * suc h + mark ≡ 3 + (3 * h + mark) = omega arith in
      ap₂ (λ (g : Region) (gs : List Region). g ∷ gs)
      (ap (λ (ms : List ℕ). region_in ms (take 70 ws)) (take-set-le 3 marks (3 * suc h + mark) word (omega arith)))
      (ap (λ (ms : List ℕ). regions_in n ms (drop 70 ws)) (ap (λ (k : ℕ). drop 3 (set marks k word)) at ∙ drop-set-add 3 marks (3 * h + mark) word)
      ∙ regions_set n h (drop 3 marks) (drop 70 ws) (le_of_suc-le-suc l) (omega (arith, room, length-drop 3 marks)))
