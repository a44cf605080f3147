-- The runs of a plan in words, in one row. A test of the row goes through it (Walk); the row is the regions' runs, one region behind the
-- other; and a map's j-th run lies where its words say. By the definitions' clauses at what is left from a place on.
use mathlib.Core.Path.{◌≡◌, refl, sym, ap, ◌∙◌}
use mathlib.Core.Logic.{◌⊎◌, inl, inr}
use mathlib.Core.Bool.{Bool, true, false, ◌&&◌}
use mathlib.Core.List.{List, [], ◌∷◌, ◌++◌, map}
use Prim.Native.Nat.{ℕ, zero, suc, ◌+◌, ◌-◌, ◌*◌, ◌≤◌, ◌<◌}
use native.Mathlib.Nat.{not-suc-le-zero, le_of_suc-le-suc}
use native.Mathlib.Numerals.{add-one}
use native.Mathlib.Omega.{arith}
use borrow.Author.Tests.{leb-true, ltb-true, ltb-false}
use lib.ListN.{length, get_or, take, drop, length-take, length-drop, length-map, length-append, drop_of_length-le, get_or-append}
use lib.Seq.{drop-cons, drop-drop, get_or-drop, get_or-take, get_or-append-add, take_all}
use lib.Dec.{leb, ltb}
use Rattle.layout.specs.Pick.{pick}
use Rattle.layout.proofs.Tests.{true_or_false, and_left, and_right}
use Rattle.regionmap.specs.Map.{Run, span, spans_from, spans, Extent, extent, extents, apart, apart_from, all_apart, all_within}
use Rattle.regionmap.specs.Words.{runs_in, map_in}
use Rattle.model.specs.Opening.{generation_rule, runs_rule, region_rule, map_rule, each_region, all_extents, plan_in, plans_in}
use Rattle.model.proofs.Maps.{runs_length}
use Rattle.opening.proofs.Walk.{Walk}
use Rattle.opening.proofs.Steps.{run_words, runs_from, runs_step, runs_end, runs_all, region_words, plans_step, plans_end}
use Rattle.opening.specs.Plans.{plans_from}

-- what stands past the row's end
abbrev pub no_bytes : Extent
no_bytes = record { offset = 0; size = 0 }

-- ---- a test that goes through a row

-- `all` tests a row, and `one` its first with those behind it: a walk over the row
through : (all : List Extent → Bool) (one : Extent → List Extent → Bool) → all [] ≡ true → ((e : Extent) (es : List Extent) → all (e ∷ es) ≡ (one e es && all es)) → (xs : List Extent)
    → Walk (length xs) (λ k. one (get_or xs k no_bytes) (drop (k + 1) xs)) (λ k. all (drop k xs))
through all one none more xs = record { step = step; end = λ k l. ap all (drop_of_length-le xs l) ∙ none }
  where
    step : (k : ℕ) → k < length xs → all (drop k xs) ≡ (one (get_or xs k no_bytes) (drop (k + 1) xs) && all (drop (k + 1) xs))
    step k l =
        let first : drop k xs ≡ get_or xs k no_bytes ∷ drop (k + 1) xs = rw (add-one, drop-cons xs k no_bytes) in
        ap all first ∙ more (get_or xs k no_bytes) (drop (k + 1) xs)

-- a run's card bytes end at an offset or before
abbrev pub ends_by : ℕ → Extent → Bool
ends_by offset e = leb (e.offset + e.size) offset

pub within : (card : ℕ) (xs : List Extent) → Walk (length xs) (λ k. ends_by card (get_or xs k no_bytes)) (λ k. all_within card (drop k xs))
unfolding all_within
within card = through (all_within card) (λ e es. ends_by card e) refl (λ e es. refl)

pub apart_from_lem : (x : Extent) (xs : List Extent) → Walk (length xs) (λ k. apart x (get_or xs k no_bytes)) (λ k. apart_from x (drop k xs))
unfolding apart_from
apart_from_lem x = through (apart_from x) (λ e es. apart x e) refl (λ e es. refl)

pub all_apart_lem : (xs : List Extent) → Walk (length xs) (λ k. apart_from (get_or xs k no_bytes) (drop (k + 1) xs)) (λ k. all_apart (drop k xs))
unfolding all_apart
all_apart_lem = through all_apart apart_from refl (λ e es. refl)

-- ---- the row of a plan

-- the words of the h-th region's map
abbrev pub map_words : List ℕ → ℕ → List ℕ
map_words ws h = drop 2 (region_words ws h)

-- the runs of a plan of n regions, and those from the h-th region on
abbrev pub row : List ℕ → ℕ → List Extent
row ws n = all_extents (plans_in n ws)

abbrev pub row_from : List ℕ → ℕ → ℕ → List Extent
row_from ws n h = all_extents (plans_from ws n h)

pub row_step : (ws : List ℕ) (n h : ℕ) → h < n → row_from ws n h ≡ extents (map_in (map_words ws h)) ++ row_from ws n (h + 1)
unfolding plan_in all_extents
row_step ws n h l = ap all_extents (plans_step ws n h l)

pub row_end : (ws : List ℕ) (n h : ℕ) → n ≤ h → row_from ws n h ≡ []
unfolding all_extents
row_end ws n h l = ap all_extents (plans_end ws n h l)

-- ---- the runs of a map

-- the j-th run of a map in words
abbrev run_at : List ℕ → ℕ → Run
run_at ws zero = record { start = 0; offset = get_or ws 0 0 }
run_at ws (suc j) = run_words ws j

-- the card bytes of a map's runs, from the j-th on
abbrev map_from : List ℕ → ℕ → List Extent
map_from ws j = map extent (spans_from (run_at ws j) (runs_from ws (get_or ws 3 0) j) (get_or ws 1 0))

map_all : (ws : List ℕ) → extents (map_in ws) ≡ map_from ws 0
unfolding extents spans map_in
map_all ws = ap (λ (rs : List Run). map extent (spans_from (run_at ws 0) rs (get_or ws 1 0))) (sym (runs_all ws (get_or ws 3 0)))

-- where the j-th run ends
abbrev pub end_of : List ℕ → ℕ → ℕ
end_of ws j = pick (ltb j (get_or ws 3 0)) (get_or ws (4 + 2 * j) 0) (get_or ws 1 0)

map_step : (ws : List ℕ) (j : ℕ) → j < get_or ws 3 0 → map_from ws j ≡ extent (span (run_at ws j) (get_or ws (4 + 2 * j) 0)) ∷ map_from ws (suc j)
unfolding spans_from
map_step ws j l =
    ap (λ (rs : List Run). map extent (spans_from (run_at ws j) rs (get_or ws 1 0))) (runs_step ws (get_or ws 3 0) j l)
    ∙ ap (λ (k : ℕ). extent (span (run_at ws j) (get_or ws (4 + 2 * j) 0)) ∷ map extent (spans_from (run_words ws j) (runs_from ws (get_or ws 3 0) k) (get_or ws 1 0))) (add-one j)

map_end : (ws : List ℕ) (j : ℕ) → get_or ws 3 0 ≤ j → map_from ws j ≡ extent (span (run_at ws j) (get_or ws 1 0)) ∷ []
unfolding spans_from
map_end ws j l = ap (λ (rs : List Run). map extent (spans_from (run_at ws j) rs (get_or ws 1 0))) (runs_end ws (get_or ws 3 0) j l)

map_drop : (ws : List ℕ) (j : ℕ) → j ≤ get_or ws 3 0 → drop j (map_from ws 0) ≡ map_from ws j
map_drop ws zero l = refl
map_drop ws (suc j) l =
    ap (λ (k : ℕ). drop k (map_from ws 0)) (sym (add-one j))
    ∙ sym (drop-drop 1 j (map_from ws 0))
    ∙ ap (drop 1) (map_drop ws j (omega arith) ∙ map_step ws j l)

-- the first of those from the j-th on is the j-th
map_first : (ws : List ℕ) (j : ℕ) → get_or (map_from ws j) 0 no_bytes ≡ extent (span (run_at ws j) (end_of ws j))
unfolding pick
map_first ws j = by_test (true_or_false (ltb j (get_or ws 3 0)))
  where
    end_by : {t : Bool} → ltb j (get_or ws 3 0) ≡ t → extent (span (run_at ws j) (pick t (get_or ws (4 + 2 * j) 0) (get_or ws 1 0))) ≡ extent (span (run_at ws j) (end_of ws j))
    end_by e = ap (λ (t : Bool). extent (span (run_at ws j) (pick t (get_or ws (4 + 2 * j) 0) (get_or ws 1 0)))) (sym e)

    by_test : (ltb j (get_or ws 3 0) ≡ true) ⊎ (ltb j (get_or ws 3 0) ≡ false) → get_or (map_from ws j) 0 no_bytes ≡ extent (span (run_at ws j) (end_of ws j))
    by_test (inl e) = ap (λ (es : List Extent). get_or es 0 no_bytes) (map_step ws j (ltb-true j _ e)) ∙ end_by e
    by_test (inr e) = ap (λ (es : List Extent). get_or es 0 no_bytes) (map_end ws j (ltb-false j _ e)) ∙ end_by e

map_at_lem : (ws : List ℕ) (j : ℕ) → j ≤ get_or ws 3 0 → get_or (extents (map_in ws)) j no_bytes ≡ extent (span (run_at ws j) (end_of ws j))
map_at_lem ws j l =
    let same : j ≡ j + 0 = omega arith in
    ap (λ (es : List Extent). get_or es j no_bytes) (map_all ws)
    ∙ ap (λ (k : ℕ). get_or (map_from ws 0) k no_bytes) same
    ∙ sym (get_or-drop j (map_from ws 0) 0 no_bytes)
    ∙ ap (λ (es : List Extent). get_or es 0 no_bytes) (map_drop ws j l)
    ∙ map_first ws j

-- the card bytes of the first run and of a further one, as the code has them
pub first_at : (ws : List ℕ) (j : ℕ) → j ≡ 0 → get_or (extents (map_in ws)) j no_bytes ≡ record { offset = get_or ws 0 0; size = end_of ws j }
unfolding extent
first_at ws j z =
    let size : end_of ws j - 0 ≡ end_of ws j = omega arith in
    map_at_lem ws j (omega arith)
    ∙ ap (λ (k : ℕ). extent (span (run_at ws k) (end_of ws j))) z
    ∙ (λ i. record { offset = get_or ws 0 0; size = size i })

further_run : (ws : List ℕ) (j : ℕ) → (j ≡ 0 → ⊥) → run_at ws j ≡ record { start = get_or ws (2 + 2 * j) 0; offset = get_or ws (3 + 2 * j) 0 }
further_run ws zero f = absurd (f refl)
further_run ws (suc j) f =
    let start : get_or ws (4 + 2 * j) 0 ≡ get_or ws (2 + 2 * suc j) 0 = ap (λ (k : ℕ). get_or ws k 0) (omega arith) in
    let offset : get_or ws (5 + 2 * j) 0 ≡ get_or ws (3 + 2 * suc j) 0 = ap (λ (k : ℕ). get_or ws k 0) (omega arith) in
    λ i. record { start = start i; offset = offset i }

pub further_at : (ws : List ℕ) (j : ℕ) → (j ≡ 0 → ⊥) → j ≤ get_or ws 3 0
    → get_or (extents (map_in ws)) j no_bytes ≡ record { offset = get_or ws (3 + 2 * j) 0; size = end_of ws j - get_or ws (2 + 2 * j) 0 }
unfolding extent
further_at ws j f l = map_at_lem ws j l ∙ ap (λ (r : Run). extent (span r (end_of ws j))) (further_run ws j f)

-- ---- how many they are

spans_length : (r : Run) (rs : List Run) (cap : ℕ) → length (spans_from r rs cap) ≡ suc (length rs)
unfolding spans_from
spans_length r [] cap = refl
spans_length r (x ∷ xs) cap = ap suc (spans_length x xs cap)

pub map_count : (ws : List ℕ) → length (extents (map_in ws)) ≡ suc (get_or ws 3 0)
unfolding extents spans map_in
map_count ws =
    length-map (spans (map_in ws)) extent
    ∙ spans_length (run_at ws 0) (runs_in (get_or ws 3 0) (drop 4 ws)) (get_or ws 1 0)
    ∙ ap suc (runs_length (get_or ws 3 0) (drop 4 ws))

-- the count of further runs among a region's words
pub count_word : (ws : List ℕ) (h : ℕ) → get_or (map_words ws h) 3 0 ≡ get_or ws (70 * h + 5) 0
count_word ws h = get_or-drop 2 (take 70 (drop (70 * h) ws)) 3 0 ∙ get_or-take 70 (drop (70 * h) ws) 5 0 (omega arith) ∙ get_or-drop (70 * h) ws 5 0

pub region_count : (ws : List ℕ) (h : ℕ) → length (extents (map_in (map_words ws h))) ≡ suc (get_or ws (70 * h + 5) 0)
region_count ws h = map_count (map_words ws h) ∙ ap suc (count_word ws h)

pub ruleset rows_counted = (row_step, row_end, region_count, length-append)

-- the j-th run from a region on: one of its own, or of the regions behind it
module _ (ws : List ℕ) (n h j : ℕ) (l : h < n) where
  abbrev own : List Extent
  own = extents (map_in (map_words ws h))

  pub row_here : j ≤ get_or ws (70 * h + 5) 0 → get_or (row_from ws n h) j no_bytes ≡ get_or own j no_bytes
  row_here g =
      ap (λ (es : List Extent). get_or es j no_bytes) (row_step ws n h l)
      ∙ get_or-append own (row_from ws n (h + 1)) no_bytes j (omega (arith, region_count ws h))

  pub row_behind : get_or ws (70 * h + 5) 0 < j → get_or (row_from ws n h) j no_bytes ≡ get_or (row_from ws n (h + 1)) (j - (1 + get_or ws (70 * h + 5) 0)) no_bytes
  row_behind g =
      let place : j ≡ length own + (j - (1 + get_or ws (70 * h + 5) 0)) = omega (arith, region_count ws h) in
      ap (λ (es : List Extent). get_or es j no_bytes) (row_step ws n h l)
      ∙ ap (λ (k : ℕ). get_or (own ++ row_from ws n (h + 1)) k no_bytes) place
      ∙ get_or-append-add own (row_from ws n (h + 1)) (j - (1 + get_or ws (70 * h + 5) 0)) no_bytes

pub ruleset rows_taken = (row_end, row_here, row_behind)

-- a region's map as the code lends it: all of the region's words but two
pub lent_map : (ws : List ℕ) (h : ℕ)
    → take (length (take (70 * h + 70 - 70 * h) (drop (70 * h) ws)) - 2) (drop 2 (take (70 * h + 70 - 70 * h) (drop (70 * h) ws))) ≡ map_words ws h
lent_map ws h =
    let seventy : 70 * h + 70 - 70 * h ≡ 70 = omega arith in
    let region = take 70 (drop (70 * h) ws) in
    ap (λ (k : ℕ). take (length (take k (drop (70 * h) ws)) - 2) (drop 2 (take k (drop (70 * h) ws)))) seventy
    ∙ take_all (length region - 2) (drop 2 region) (omega (arith, length-drop 2 region))

-- a region's map has 68 words
pub map_room : (ws : List ℕ) (h : ℕ) → 70 * h + 70 ≤ length ws → length (map_words ws h) ≡ 68
map_room ws h l = simp (length-drop, length-take) (omega arith)

-- what the rules require of a plan follows from the rules on each region
pub few_runs : (b n : ℕ) (ws : List ℕ) → each_region b (plans_in n ws) ≡ true → (h : ℕ) → h < n → get_or ws (70 * h + 5) 0 ≤ 32
unfolding each_region plans_in plan_in region_rule map_rule map_in
few_runs b zero ws e h l = absurd (not-suc-le-zero l)
few_runs b (suc n) ws e zero l =
    let p = plan_in (take 70 ws) in
    let rule : region_rule b p ≡ true = and_left (region_rule b p) (each_region b (plans_in n (drop 70 ws))) e in
    let runs : runs_rule p.map ≡ true = and_left (runs_rule p.map) _ (and_right (generation_rule p) _ rule) in
    omega (arith, leb-true (length p.map.more) 32 runs, runs_length (get_or (drop 2 (take 70 ws)) 3 0) (drop 4 (drop 2 (take 70 ws))), count_word ws 0)
few_runs b (suc n) ws e (suc h) l =
    let behind = and_right (region_rule b (plan_in (take 70 ws))) (each_region b (plans_in n (drop 70 ws))) e in
    let place : 70 + (70 * h + 5) ≡ 70 * suc h + 5 = omega arith in
    let word : get_or (drop 70 ws) (70 * h + 5) 0 ≡ get_or ws (70 * suc h + 5) 0 = get_or-drop 70 ws (70 * h + 5) 0 ∙ ap (λ (k : ℕ). get_or ws k 0) place in
    omega (arith, word, few_runs b n (drop 70 ws) behind h (le_of_suc-le-suc l))
