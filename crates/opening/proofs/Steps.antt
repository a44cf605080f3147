-- What lies in words, taken apart at its j-th: the first of those that are left, and the others. By the definitions' clauses at n − j.
use mathlib.Core.Path.{◌≡◌, ap, ap₂, ◌∙◌}
use mathlib.Core.List.{List, [], ◌∷◌}
use Prim.Native.Nat.{ℕ, suc, ◌+◌, ◌-◌, ◌*◌, ◌≤◌, ◌<◌}
use native.Mathlib.Omega.{arith}
use lib.Dec.{lit<}
use lib.ListN.{length, get_or, drop, take, length-drop}
use lib.Seq.{get_or-drop, get_or-take, drop-drop, take_all}
use Rattle.regionmap.specs.Map.{Run}
use Rattle.model.specs.Opening.{plan_in, plans_in}
use Rattle.opening.specs.Plans.{plans_from}
use Rattle.regionmap.specs.Words.{runs_in}

-- the j-th further run of a map in words
abbrev pub run_words : List ℕ → ℕ → Run
run_words ws j = record { start = get_or ws (4 + 2 * j) 0; offset = get_or ws (5 + 2 * j) 0 }

-- the further runs of a map of n in words, from the j-th on
abbrev pub runs_from : List ℕ → ℕ → ℕ → List Run
runs_from ws n j = runs_in (n - j) (drop (4 + 2 * j) ws)

-- n − j is one more than n − (j + 1), and nothing where j is n
pub one_left : (n j : ℕ) → j < n → n - j ≡ suc (n - (j + 1))
one_left n j l = omega arith

pub none_left : (n j : ℕ) → n ≤ j → n - j ≡ 0
none_left n j l = omega arith

-- one word at another place
same_word : (ws : List ℕ) {a b : ℕ} → a ≡ b → get_or ws a 0 ≡ get_or ws b 0
same_word ws e = ap (λ (k : ℕ). get_or ws k 0) e

pub runs_step : (ws : List ℕ) (n j : ℕ) → j < n → runs_from ws n j ≡ run_words ws j ∷ runs_from ws n (j + 1)
unfolding runs_in
runs_step ws n j l =
    let start : get_or (drop (4 + 2 * j) ws) 0 0 ≡ get_or ws (4 + 2 * j) 0 = get_or-drop (4 + 2 * j) ws 0 0 ∙ same_word ws {a = 4 + 2 * j + 0} {b = 4 + 2 * j} (omega arith) in
    let offset : get_or (drop (4 + 2 * j) ws) 1 0 ≡ get_or ws (5 + 2 * j) 0 = get_or-drop (4 + 2 * j) ws 1 0 ∙ same_word ws {a = 4 + 2 * j + 1} {b = 5 + 2 * j} (omega arith) in
    let two : 4 + 2 * j + 2 ≡ 4 + 2 * (j + 1) = omega arith in
    let rest : drop 2 (drop (4 + 2 * j) ws) ≡ drop (4 + 2 * (j + 1)) ws = drop-drop 2 (4 + 2 * j) ws ∙ ap (λ (k : ℕ). drop k ws) two in
    ap (λ (k : ℕ). runs_in k (drop (4 + 2 * j) ws)) (one_left n j l)
    ∙ ap₂ (λ (r : Run) (rs : List Run). r ∷ rs) (λ i. record { start = start i; offset = offset i }) (ap (λ (v : List ℕ). runs_in (n - (j + 1)) v) rest)

pub runs_end : (ws : List ℕ) (n j : ℕ) → n ≤ j → runs_from ws n j ≡ []
unfolding runs_in
runs_end ws n j l = ap (λ (k : ℕ). runs_in k (drop (4 + 2 * j) ws)) (none_left n j l)

-- before the first turn all are left
pub runs_all : (ws : List ℕ) (n : ℕ) → runs_from ws n 0 ≡ runs_in n (drop 4 ws)
runs_all ws n =
    let none : n - 0 ≡ n = omega arith in
    ap (λ (k : ℕ). runs_in k (drop 4 ws)) none

pub ruleset runs_taken = (runs_step, runs_end, runs_all)

-- a part up to the end
pub to_the_end : (k : ℕ) (ws : List ℕ) → take (length ws - k) (drop k ws) ≡ drop k ws
to_the_end k ws = take_all (length ws - k) (drop k ws) (simp length-drop (omega arith))

-- the words of the h-th region of a plan
abbrev pub region_words : List ℕ → ℕ → List ℕ
region_words ws h = take 70 (drop (70 * h) ws)

pub plans_step : (ws : List ℕ) (n h : ℕ) → h < n → plans_from ws n h ≡ plan_in (region_words ws h) ∷ plans_from ws n (h + 1)
unfolding plans_in
plans_step ws n h l =
    let one : 70 * h + 70 ≡ 70 * (h + 1) = omega arith in
    let rest : drop 70 (drop (70 * h) ws) ≡ drop (70 * (h + 1)) ws = drop-drop 70 (70 * h) ws ∙ ap (λ (k : ℕ). drop k ws) one in
    ap (λ (k : ℕ). plans_in k (drop (70 * h) ws)) (one_left n h l)
    ∙ ap (λ (v : List ℕ). plan_in (region_words ws h) ∷ plans_in (n - (h + 1)) v) rest

pub plans_end : (ws : List ℕ) (n h : ℕ) → n ≤ h → plans_from ws n h ≡ []
unfolding plans_in
plans_end ws n h l = ap (λ (k : ℕ). plans_in k (drop (70 * h) ws)) (none_left n h l)

pub plans_all : (ws : List ℕ) (n : ℕ) → plans_from ws n 0 ≡ plans_in n ws
plans_all ws n =
    let none : n - 0 ≡ n = omega arith in
    ap (λ (k : ℕ). plans_in k ws) none

-- the h-th region's id is the first of its words
pub id_word : (ws : List ℕ) (h : ℕ) → (plan_in (region_words ws h)).id ≡ get_or ws (70 * h) 0
unfolding plan_in
id_word ws h = get_or-take 70 (drop (70 * h) ws) 0 0 (lit< tt) ∙ get_or-drop (70 * h) ws 0 0 ∙ same_word ws {a = 70 * h + 0} {b = 70 * h} (omega arith)

-- as a part of the plan
pub part_of_70 : (ws : List ℕ) (h : ℕ) → take (70 * h + 70 - 70 * h) (drop (70 * h) ws) ≡ region_words ws h
part_of_70 ws h =
    let all : 70 * h + 70 - 70 * h ≡ 70 = omega arith in
    ap (λ (k : ℕ). take k (drop (70 * h) ws)) all
