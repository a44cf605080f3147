-- The maps of a list of plans that keeps the opening's rules on regions: each is lawful, and no two positions share a card byte. The tests on the list of plans are read at each place of
-- the list, by induction; the rest are the map's laws.
use mathlib.Core.Path.{◌≡◌, refl, sym, ap, subst}
use mathlib.Core.Logic.{◌≢◌}
use mathlib.Core.Bool.{true}
use mathlib.Core.List.Memᴰ
use mathlib.Core.List.{List, [], ◌∷◌, Memᴰ}
use Prim.Native.Nat.{ℕ, zero, suc, ◌-◌, ◌≤◌, ◌<◌, ◌^◌}
use native.Mathlib.Nat.{not-suc-le-zero, le_of_suc-le-suc}
use native.Mathlib.Decide.{dec_lt}
use native.Mathlib.Omega.{arith}
use borrow.Author.Tests.{leb-true, ltb-true}
use lib.Dec.{ltb}
use lib.ListN.{length, get_or, drop}
use Rattle.layout.proofs.Tests.{and_left, and_right}
use Rattle.regionmap.specs.Map.{Map, Extent, extents, all_apart, all_within, place}
use Rattle.regionmap.specs.Words.{runs_in}
use Rattle.regionmap.specs.Laws.{Lawful, Separate}
use Rattle.regionmap.proofs.Laws.{map_laws, extent_laws}
use Rattle.model.specs.declared.Opening.{Opening}
use Rattle.model.specs.declared.Lengths.{Lengths}
use Rattle.model.specs.Opening.{Plan, generation_rule, runs_rule, sizes_rule, starts_rule, map_rule, region_rule, each_region, all_extents, within_rule, apart_rule, all_true, region_rules, plan_in, plans_in, opens}
use Rattle.model.specs.Laws.{map_of, PlanMaps, OpenedMaps}
use Rattle.model.proofs.Rules.{head_true, tail_true, numbers_hold, regions_hold}

pub plans_length : (n : ℕ) (ws : List ℕ) → length (plans_in n ws) ≡ n
unfolding plans_in
plans_length zero ws = refl
plans_length (suc n) ws = ap suc (plans_length n (drop 70 ws))

pub runs_length : (n : ℕ) (ws : List ℕ) → length (runs_in n ws) ≡ n
unfolding runs_in
runs_length zero ws = refl
runs_length (suc n) ws = ap suc (runs_length n (drop 2 ws))

-- one region's rules make its map lawful, with few runs, and its generation small
module _ (b : ℕ) (p : Plan) (e : region_rule b p ≡ true) where
  small_of : p.generation < 2 ^ 32
  unfolding region_rule
  small_of = ltb-true _ _ (and_left (generation_rule p) _ e)

  map_rules : map_rule b p.map ≡ true
  unfolding region_rule
  map_rules = and_right (generation_rule p) _ e

  few_of : length p.map.more ≤ 32
  unfolding map_rule
  few_of = leb-true _ _ (and_left (runs_rule p.map) _ map_rules)

  lawful_of : Lawful p.map
  unfolding map_rule
  lawful_of =
      let m = p.map in
      let behind = and_right (runs_rule m) _ map_rules in
      let sizes = and_left (sizes_rule m) _ behind in
      let starts = and_left (starts_rule m) _ (and_right (sizes_rule m) _ behind) in
      record { rising = starts; within = leb-true _ _ (and_right (ltb 0 m.capacity) _ sizes) }

module _ (d : Plan) where
  -- the h-th plan's map
  abbrev at : List Plan → ℕ → Map
  at ps h = (get_or ps h d).map

  each_rule : (b : ℕ) (ps : List Plan) → each_region b ps ≡ true → (h : ℕ) → h < length ps → region_rule b (get_or ps h d) ≡ true
  unfolding each_region
  each_rule b [] e h l = absurd (not-suc-le-zero l)
  each_rule b (p ∷ ps) e zero l = and_left (region_rule b p) _ e
  each_rule b (p ∷ ps) e (suc h) l = each_rule b ps (and_right (region_rule b p) _ e) h (le_of_suc-le-suc l)

  each_within : (c : ℕ) (ps : List Plan) → all_within c (all_extents ps) ≡ true → (h : ℕ) → h < length ps → all_within c (extents (at ps h)) ≡ true
  unfolding all_extents
  each_within c [] e h l = absurd (not-suc-le-zero l)
  each_within c (p ∷ ps) e zero l = extent_laws.within_first c (extents p.map) (all_extents ps) e
  each_within c (p ∷ ps) e (suc h) l = each_within c ps (extent_laws.within_second c (extents p.map) (all_extents ps) e) h (le_of_suc-le-suc l)

  each_apart : (ps : List Plan) → all_apart (all_extents ps) ≡ true → (h : ℕ) → h < length ps → all_apart (extents (at ps h)) ≡ true
  unfolding all_extents
  each_apart [] e h l = absurd (not-suc-le-zero l)
  each_apart (p ∷ ps) e zero l = extent_laws.apart_first (extents p.map) (all_extents ps) e
  each_apart (p ∷ ps) e (suc h) l = each_apart ps (extent_laws.apart_second (extents p.map) (all_extents ps) e) h (le_of_suc-le-suc l)

  among_all : (ps : List Plan) (h : ℕ) → h < length ps → (x : Extent) → Memᴰ x (extents (at ps h)) → Memᴰ x (all_extents ps)
  unfolding all_extents
  among_all [] h l x m = absurd (not-suc-le-zero l)
  among_all (p ∷ ps) zero l x m = Memᴰ.append_left (all_extents ps) m
  among_all (p ∷ ps) (suc h) l x m = Memᴰ.append_right (extents p.map) (among_all ps h (le_of_suc-le-suc l) x m)

  separate : (ps : List Plan) → all_apart (all_extents ps) ≡ true → (h k : ℕ) → h < k → k < length ps → Separate (extents (at ps h)) (extents (at ps k))
  unfolding all_extents
  separate [] e h k lt l = absurd (not-suc-le-zero l)
  separate (p ∷ ps) e zero zero lt l = absurd (not-suc-le-zero lt)
  separate (p ∷ ps) e zero (suc k) lt l =
      λ x y mx my. extent_laws.apart_between (extents p.map) (all_extents ps) e x y mx (among_all ps k (le_of_suc-le-suc l) y my)
  separate (p ∷ ps) e (suc h) zero lt l = absurd (not-suc-le-zero lt)
  separate (p ∷ ps) e (suc h) (suc k) lt l = separate ps (extent_laws.apart_second (extents p.map) (all_extents ps) e) h k (le_of_suc-le-suc lt) (le_of_suc-le-suc l)

module _ (o : Opening) (ps : List Plan) (ok : all_true (region_rules o ps) ≡ true) (small : o.card ≤ 2 ^ 63 - 1) where
  abbrev none : Plan
  none = plan_in []

  each : each_region o.block ps ≡ true
  unfolding region_rules
  each = head_true _ _ ok

  within : all_within o.card (all_extents ps) ≡ true
  unfolding region_rules within_rule
  within = head_true _ _ (tail_true _ _ (tail_true _ _ ok))

  apart : all_apart (all_extents ps) ≡ true
  unfolding region_rules apart_rule
  apart = head_true _ _ (tail_true _ _ (tail_true _ _ (tail_true _ _ ok)))

  rule_at : (h : ℕ) → h < length ps → region_rule o.block (get_or ps h none) ≡ true
  rule_at h lt = each_rule none o.block ps each h lt

  lawful : (h : ℕ) → h < length ps → Lawful (map_of ps h)
  lawful h lt = lawful_of o.block (get_or ps h none) (rule_at h lt)

  -- of two regions one comes first
  ordered : (h k p q : ℕ) → h < length ps → k < length ps → h < k → p < (map_of ps h).capacity → q < (map_of ps k).capacity → place (map_of ps h) p ≢ place (map_of ps k) q
  ordered h k p q lh lk lt = map_laws.between (map_of ps h) (map_of ps k) (lawful h lh) (lawful k lk) (separate none ps apart h k lt lk) p q

  either_way : (h k p q : ℕ) → h < length ps → k < length ps → Dec (h < k) → h ≢ k → p < (map_of ps h).capacity → q < (map_of ps k).capacity → place (map_of ps h) p ≢ place (map_of ps k) q
  either_way h k p q lh lk (yes lt) ne lp lq = ordered h k p q lh lk lt lp lq
  either_way h k p q lh lk (no nlt) ne lp lq = λ e. ordered k h q p lk lh (omega arith) lq lp (sym e)

  pub plan_maps : PlanMaps o.card ps
  plan_maps = record {
    generation = λ h lt. small_of o.block (get_or ps h none) (rule_at h lt);
    runs = λ h lt. few_of o.block (get_or ps h none) (rule_at h lt);
    lawful = lawful;
    apart = λ h p q lh. map_laws.injective (map_of ps h) (lawful h lh) (each_apart none ps apart h lh) p q;
    apart_regions = λ h k p q lh lk. either_way h k p q lh lk (dec_lt h k);
    on_card_lem = λ h p lh. map_laws.within_card (map_of ps h) (lawful h lh) o.card (each_within none o.card ps within h lh) p;
    fits = λ h p lh. map_laws.fits (map_of ps h) (lawful h lh) o.card (each_within none o.card ps within h lh) (omega (arith, small)) p;
  }

module _ (o : Opening) (plan : List ℕ) (l : Lengths) (ok : opens o plan l ≡ true) where
  pub opened_maps : OpenedMaps o plan
  opened_maps = plan_maps o (plans_in o.regions plan) (regions_hold o plan l ok) (numbers_hold o plan l ok).card

-- a handle below the count of regions is a place of the list of plans
pub inside : (o : Opening) (plan : List ℕ) (h : ℕ) → h < o.regions → h < length (plans_in o.regions plan)
inside o plan h lt = subst (λ (n : ℕ). h < n) (sym (plans_length o.regions plan)) lt
