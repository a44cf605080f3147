-- Handle 0's own names are read from the words where an open table has them: it has a region, whose words are the first.
use mathlib.Core.Path.{◌≡◌, sym, ◌∙◌}
use mathlib.Core.List.{List}
use Prim.Native.Nat.{ℕ, zero, suc, ◌+◌, ◌<◌}
use native.Mathlib.Omega.{arith}
use lib.ListN.{get_or, take, drop}
use lib.Seq.{get_or-drop, get_or-take}
use Rattle.model.specs.declared.Counts.{Counts}
use Rattle.model.specs.State.{no_region}
use Rattle.model.specs.Memory.{Lent, settings_in, region_in, regions_in, state_in}
use Rattle.model.specs.Opening.{plan_in}
use Rattle.step.specs.Questions.{region_at}
use Rattle.hostfill.specs.MayFill.{Open}
use Rattle.session.specs.Asking.{named_in}

-- a word of region 0
word : (store : List ℕ) (k : ℕ) → k < 70 → get_or (take 70 (drop 48 store)) k 0 ≡ get_or store (48 + k) 0
word store k lt = get_or-take 70 (drop 48 store) k 0 lt ∙ get_or-drop 48 store k 0

id_is : (n : ℕ) (marks store : List ℕ) → 0 < n → (get_or (regions_in n marks (drop 48 store)) 0 no_region).id ≡ get_or store 48 0
unfolding regions_in region_in plan_in
id_is zero marks store lt = absurd (omega (arith, lt))
id_is (suc n) marks store lt = word store 0 (omega arith)

generation_is : (n : ℕ) (marks store : List ℕ) → 0 < n → (get_or (regions_in n marks (drop 48 store)) 0 no_region).generation ≡ get_or store 49 0
unfolding regions_in region_in plan_in
generation_is zero marks store lt = absurd (omega (arith, lt))
generation_is (suc n) marks store lt = word store 1 (omega arith)

pub own_names : (c : Counts) (l : Lent) → Open c l → named_in l.store ≡ record { volume = (state_in c l).settings.volume; region = (region_at (state_in c l) 0).id; generation = (region_at (state_in c l) 0).generation }
unfolding named_in state_in region_at settings_in
own_names c l o =
    let some : 0 < get_or l.store 12 0 = let z = o.sound.numbers.some_regions in omega (arith, z) in
    (λ j. record { volume = get_or l.store 8 0; region = sym (id_is (get_or l.store 12 0) (drop 24 l.store) l.store some) j; generation = sym (generation_is (get_or l.store 12 0) (drop 24 l.store) l.store some) j })
