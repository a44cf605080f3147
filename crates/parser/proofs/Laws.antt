-- The laws of the plan: by induction over the regions before, and over the further runs.
use mathlib.Core.Path.{◌≡◌, refl, ap, ◌∙◌}
use mathlib.Core.Bool.{false, and-false}
use mathlib.Core.List.{List, [], ◌∷◌, ◌++◌}
use Prim.Native.Nat.{ℕ, zero, suc, ◌+◌, ◌-◌, ◌*◌, ◌/◌, ◌≤◌, ◌<◌}
use native.Mathlib.Omega.{arith}
use lib.ListN.{length, take, drop, get_or, length-append, length-drop}
use lib.Seq.{length-take-le, take-append-le, drop-append-le, take-take, take-add, drop-drop, take_at, drop_at}
use borrow.Author.Tests.{lt-ltb, le-ltb, ne_eqb, lt-leb}
use Rattle.layout.specs.Pick.{pick}
use Rattle.regionmap.specs.Map.{Run}
use Rattle.regionmap.specs.Words.{runs_in, map_in}
use Rattle.model.specs.Opening.{region_rule, map_rule, generation_rule, plan_in, plans_in}
use Rattle.fields.specs.Fields.{spaces, num}
use Rattle.parser.specs.Openings.{region_word_in, words_from, region_words, plan_after}
use Rattle.parser.specs.Laws.{runs_of, region_of, PlanLaws}
use Rattle.parser.proofs.Words.{seventy}

-- from the sixth on a region's words are the line's fields
run_word : (j : ℕ) (cs : List ℕ) → 6 ≤ j → region_word_in j cs ≡ num j cs
unfolding region_word_in pick
run_word j cs h = rw (le-ltb j 5 (omega arith), ne_eqb j 5 (λ e. omega arith))

runs_told : (n m j : ℕ) (cs : List ℕ) → 2 * n ≤ m → 6 ≤ j → runs_in n (words_from m j cs) ≡ runs_of n j cs
unfolding runs_in runs_of words_from
runs_told zero m j cs h l = refl
runs_told (suc n) zero j cs h l = absurd (omega arith)
runs_told (suc n) (suc zero) j cs h l = absurd (omega arith)
runs_told (suc n) (suc (suc m)) j cs h l =
    let two : j + 1 + 1 ≡ j + 2 = omega arith in
    rw (run_word j cs l, run_word (j + 1) cs (omega arith), two, runs_told n m (j + 2) cs (omega arith) (omega arith))

told : (cs : List ℕ) → (spaces cs - 5) / 2 ≤ 32 → plan_in (region_words cs) ≡ region_of cs
unfolding plan_in map_in region_words words_from region_word_in pick region_of
told cs h =
    ap
    (λ (rs : List Run). record { id = num 1 cs; generation = num 2 cs; map = record { first = num 3 cs; more = rs; capacity = num 4 cs; data_length = num 5 cs } })
    (runs_told ((spaces cs - 5) / 2) 64 6 cs (omega arith) (omega arith))

runs_length : (n : ℕ) (ws : List ℕ) → length (runs_in n ws) ≡ n
unfolding runs_in
runs_length zero ws = refl
runs_length (suc n) ws = ap suc (runs_length n (drop 2 ws))

count_word : (cs : List ℕ) → get_or (drop 2 (region_words cs)) 3 0 ≡ (spaces cs - 5) / 2
unfolding region_words words_from region_word_in pick
count_word cs = refl

crowded : (b : ℕ) (cs : List ℕ) → 32 < (spaces cs - 5) / 2 → region_rule b (plan_in (region_words cs)) ≡ false
unfolding region_rule map_rule plan_in map_in
crowded b cs h =
    let words = drop 2 (region_words cs) in
    let long = runs_length (get_or words 3 0) (drop 4 words) in
    let count = count_word cs in
    rw (lt-leb (length (runs_in (get_or words 3 0) (drop 4 words))) 32 (omega arith)) (and-false (generation_rule (plan_in (region_words cs))))

-- the plan with words laid over it behind the first k regions
laid : List ℕ → ℕ → List ℕ → List ℕ
laid ws k plan = take (70 * k) plan ++ ws ++ drop (70 * k + 70) plan

module _ (ws : List ℕ) (long : length ws ≡ 70) where
  -- its first region, where there is one before
  laid_first : (k : ℕ) (plan : List ℕ) → 70 * suc k + 70 ≤ length plan → take 70 (laid ws (suc k) plan) ≡ take 70 plan
  unfolding laid
  laid_first k plan h =
      let front : length (take (70 * suc k) plan) ≡ 70 * suc k = length-take-le (70 * suc k) plan (omega arith) in
      let both : length (take (70 * suc k) plan ++ ws) ≡ 70 * suc k + 70 = length-append (take (70 * suc k) plan) ws ∙ omega arith in
      take-append-le 70 (take (70 * suc k) plan ++ ws) (drop (70 * suc k + 70) plan) (omega arith)
      ∙ take-append-le 70 (take (70 * suc k) plan) ws (omega arith)
      ∙ take-take 70 (70 * suc k) plan (omega arith)

  -- and the others
  behind : (k : ℕ) (plan : List ℕ) → 70 ≤ length plan → drop 70 (take (70 * suc k) plan) ≡ take (70 * k) (drop 70 plan)
  behind k plan h =
      let sum : 70 * suc k ≡ 70 + 70 * k = omega arith in
      rw (sum, take-add 70 (70 * k) plan) (drop_at (take 70 plan) (take (70 * k) (drop 70 plan)) 70 (length-take-le 70 plan h))

  laid_rest : (k : ℕ) (plan : List ℕ) → 70 * suc k + 70 ≤ length plan → drop 70 (laid ws (suc k) plan) ≡ laid ws k (drop 70 plan)
  unfolding laid
  laid_rest k plan h =
      let front : length (take (70 * suc k) plan) ≡ 70 * suc k = length-take-le (70 * suc k) plan (omega arith) in
      let both : length (take (70 * suc k) plan ++ ws) ≡ 70 * suc k + 70 = length-append (take (70 * suc k) plan) ws ∙ omega arith in
      let sum : 70 + (70 * k + 70) ≡ 70 * suc k + 70 = omega arith in
      drop-append-le 70 (take (70 * suc k) plan ++ ws) (drop (70 * suc k + 70) plan) (omega arith)
      ∙ rw (drop-append-le 70 (take (70 * suc k) plan) ws (omega arith), behind k plan (omega arith), drop-drop (70 * k + 70) 70 plan, sum)

  listed : (k : ℕ) (plan : List ℕ) → 70 * k + 70 ≤ length plan → plans_in (k + 1) (laid ws k plan) ≡ plans_in k plan ++ (plan_in ws ∷ [])
  unfolding plans_in laid
  listed zero plan h = ap (λ (l : List ℕ). plan_in l ∷ []) (take_at ws (drop 70 plan) 70 long)
  listed (suc k) plan h =
      let next : suc k + 1 ≡ suc (k + 1) = omega arith in
      let rest = length-drop 70 plan in
      rw (next, laid_first k plan h, laid_rest k plan h, listed k (drop 70 plan) (omega arith))

added : (cs plan : List ℕ) (k : ℕ) → k < 8 → 70 * k + 70 ≤ length plan → plans_in (k + 1) (plan_after cs k plan) ≡ plans_in k plan ++ (plan_in (region_words cs) ∷ [])
unfolding plan_after pick laid
added cs plan k h room = rw (lt-ltb k 8 h) (listed (region_words cs) (seventy cs) k plan room)

pub plan_laws : PlanLaws
plan_laws = record { added = added; told = told; crowded = crowded }
