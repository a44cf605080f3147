-- The words of a map: what the halving keeps, and that the k-th run that it finds is the map's run of the position. The starts ascend, so
-- if the k-th start is not above a position, no earlier one is; by induction over the words, two for each run.
use Rattle.std.proofs.Common.{◌≡◌, ℕ, zero, suc, ◌+◌, ◌-◌, ◌*◌, ◌<◌, ◌≤◌, true, List, get_or, drop, sym, refl, ap, ◌∙◌, subst, le_trans, le_refl, le_of_suc-le-suc, not-suc-le-zero, arith, get_or-drop}
use Rattle.regionmap.specs.Map.{Run, span, span_from, map_run, ascends}
use Rattle.regionmap.proofs.RunsFacts.{rises, span_here, span_behind}
use Rattle.regionmap.specs.Words.{runs_in, map_in, position_of, offset_of}
use Rattle.regionmap.specs.Found.{HoldsMap, start_in, LastStart, found_of}

-- the run behind the k-th
pub start_next : (ws : List ℕ) (k : ℕ) → get_or ws (2 * k + 4) 0 ≡ start_in ws (k + 1)
start_next ws k = ap (λ (i : ℕ). get_or ws i 0) (omega arith)

-- lo and hi bracket the answer: the lo-th start is not above p, and the one behind the hi-th is above p
pub record Bracket (ws : List ℕ) (n p lo hi : ℕ) : Type 0 where
  pub ordered : lo ≤ hi
  pub among : hi ≤ n
  pub reached : 0 < lo → start_in ws lo ≤ p
  pub passed : hi < n → p < start_in ws (hi + 1)

pub all_runs : (ws : List ℕ) (n p : ℕ) → Bracket ws n p 0 n
all_runs ws n p = record { ordered = omega arith; among = le_refl n; reached = λ l. absurd (omega arith); passed = λ l. absurd (omega arith) }

module _ {ws : List ℕ} {n p lo hi : ℕ} (b : Bracket ws n p lo hi) (mid : ℕ) where
  pub upper : mid < hi → get_or ws (2 * mid + 4) 0 ≤ p → Bracket ws n p (mid + 1) hi
  upper l h = record {
    ordered = omega arith;
    among = b.among;
    reached = λ _. subst (λ (x : ℕ). x ≤ p) (start_next ws mid) h;
    passed = b.passed;
  }

  pub lower : lo ≤ mid → mid < hi → p < get_or ws (2 * mid + 4) 0 → Bracket ws n p lo mid
  lower g l h = record {
    ordered = g;
    among = omega (arith, b.among);
    reached = b.reached;
    passed = λ _. subst (λ (x : ℕ). p < x) (start_next ws mid) h;
  }

pub met : {ws : List ℕ} {n p lo hi : ℕ} → Bracket ws n p lo hi → hi ≤ lo → LastStart ws n p lo
met {ws} {n} {p} {lo} {hi} b h =
    let e : hi ≡ lo = omega (arith, b.ordered) in
    record {
      among = omega (arith, b.among, b.ordered);
      reached = b.reached;
      passed = λ l. subst (λ (x : ℕ). x < n → p < start_in ws (x + 1)) e b.passed l;
    }

-- a word of the rest of the words, counted from their front
word_on : (n : ℕ) (vs : List ℕ) (i j : ℕ) → n + i ≡ j → get_or (drop n vs) i 0 ≡ get_or vs j 0
word_on n vs i j e = get_or-drop n vs i 0 ∙ ap (λ (x : ℕ). get_or vs x 0) e

two_on : (vs : List ℕ) (k : ℕ) → get_or (drop 2 vs) (2 * k) 0 ≡ get_or vs (2 * suc k) 0
two_on vs k = word_on 2 vs (2 * k) (2 * suc k) (omega arith)

-- the first of ascending starts is the least
first_least : (n k lo cap : ℕ) (vs : List ℕ) → ascends lo (runs_in n vs) cap ≡ true → k < n → get_or vs 0 0 ≤ get_or vs (2 * k) 0
unfolding runs_in
first_least zero k lo cap vs up l = absurd (not-suc-le-zero l)
first_least (suc n) zero lo cap vs up l = le_refl (get_or vs 0 0)
first_least (suc zero) (suc k) lo cap vs up l = absurd (not-suc-le-zero (le_of_suc-le-suc l))
first_least (suc (suc n)) (suc k) lo cap vs up l =
    let behind = (rises up).rest in
    let more : get_or (drop 2 vs) 0 0 ≤ get_or (drop 2 vs) (2 * k) 0 = first_least (suc n) k (get_or vs 0 0) cap (drop 2 vs) behind (le_of_suc-le-suc l) in
    omega (arith, two_on vs k, (rises behind).above)

-- the run that lies first in words
abbrev first : List ℕ → Run
first vs = record { start = get_or vs 0 0; offset = get_or vs 1 0 }

-- the k-th of the runs that follow r in words, r itself for 0
abbrev run_at : Run → List ℕ → ℕ → Run
run_at r vs zero = r
run_at r vs (suc k) = record { start = get_or vs (2 * k) 0; offset = get_or vs (2 * k + 1) 0 }

run_on : (r : Run) (vs : List ℕ) (k : ℕ) → run_at (first vs) (drop 2 vs) k ≡ run_at r vs (suc k)
run_on r vs zero = refl
run_on r vs (suc k) = λ i. record { start = two_on vs k i; offset = word_on 2 vs (2 * k + 1) (2 * suc k + 1) (omega arith) i }

-- of n runs in words the k-th is the last that starts not above p, and ends before e
record Last (vs : List ℕ) (n cap p k e : ℕ) : Type 0 where
  among : k ≤ n
  reached : (j : ℕ) → k ≡ suc j → get_or vs (2 * j) 0 ≤ p
  passed : k < n → p < get_or vs (2 * k) 0
  next : k < n → e ≡ get_or vs (2 * k) 0
  none : n ≤ k → e ≡ cap

last_on : {vs : List ℕ} {n cap p k e : ℕ} → Last vs (suc n) cap p (suc k) e → Last (drop 2 vs) n cap p k e
last_on {vs} {n} {cap} {p} {k} {e} h = record {
  among = le_of_suc-le-suc h.among;
  reached = λ j q. subst (λ (x : ℕ). x ≤ p) (sym (two_on vs j)) (h.reached (suc j) (ap suc q));
  passed = λ l. subst (λ (x : ℕ). p < x) (sym (two_on vs k)) (h.passed (omega arith));
  next = λ l. h.next (omega arith) ∙ sym (two_on vs k);
  none = λ l. h.none (omega arith);
}

last_run : (r : Run) (n k lo cap p e : ℕ) (vs : List ℕ) → ascends lo (runs_in n vs) cap ≡ true → Last vs n cap p k e
    → span_from r (runs_in n vs) cap p ≡ span (run_at r vs k) e
unfolding runs_in span_from
last_run r zero zero lo cap p e vs up h = ap (span r) (sym (h.none (le_refl 0)))
last_run r zero (suc k) lo cap p e vs up h = absurd (not-suc-le-zero h.among)
last_run r (suc n) zero lo cap p e vs up h =
    span_here r (first vs) (runs_in n (drop 2 vs)) cap p (h.passed (omega arith)) ∙ ap (span r) (sym (h.next (omega arith)))
last_run r (suc n) (suc k) lo cap p e vs up h =
    span_behind r (first vs) (runs_in n (drop 2 vs)) cap p (le_trans (first_least (suc n) k lo cap vs up h.among) (h.reached k refl))
    ∙ last_run (first vs) n k (get_or vs 0 0) cap p e (drop 2 vs) (rises up).rest (last_on h)
    ∙ ap (λ (x : Run). span x e) (run_on r vs k)

-- where the code sees the run behind the k-th, or none
pub record EndIs (ws : List ℕ) (n k e : ℕ) : Type 0 where
  next : k < n → e ≡ get_or ws (2 * k + 4) 0
  none : n ≤ k → e ≡ get_or ws 1 0

pub end_next : {ws : List ℕ} {n k e : ℕ} → k < n → e ≡ get_or ws (2 * k + 4) 0 → EndIs ws n k e
end_next l q = record { next = λ _. q; none = λ g. absurd (omega arith) }

pub end_last : {ws : List ℕ} {n k e : ℕ} → n ≤ k → e ≡ get_or ws 1 0 → EndIs ws n k e
end_last l q = record { next = λ g. absurd (omega arith); none = λ _. q }

-- the run of a position, by what the halving and the code found
module _ (ws : List ℕ) (h : HoldsMap ws) (p k e : ℕ) (l : LastStart ws (get_or ws 3 0) p k) (ends : EndIs ws (get_or ws 3 0) k e) where
  at_four : (j : ℕ) → get_or (drop 4 ws) (2 * j) 0 ≡ get_or ws (2 * j + 4) 0
  at_four j = word_on 4 ws (2 * j) (2 * j + 4) (omega arith)

  last : Last (drop 4 ws) (get_or ws 3 0) (get_or ws 1 0) p k e
  last = record {
    among = l.among;
    reached = λ j q. subst (λ (x : ℕ). x ≤ p) (sym (word_on 4 ws (2 * j) (2 * k + 2) (omega arith))) (l.reached (omega arith));
    passed = λ b. subst (λ (x : ℕ). p < x) (sym (start_next ws k) ∙ sym (at_four k)) (l.passed b);
    next = λ b. ends.next b ∙ sym (at_four k);
    none = ends.none;
  }

  run_is : (j : ℕ) → k ≡ j → map_run (map_in ws) p ≡ span (run_at (record { start = 0; offset = get_or ws 0 0 }) (drop 4 ws) j) e
  unfolding map_run map_in
  run_is j q =
      last_run _ (get_or ws 3 0) k 0 (get_or ws 1 0) p e (drop 4 ws) h.rising last
      ∙ ap (λ (x : ℕ). span (run_at (record { start = 0; offset = get_or ws 0 0 }) (drop 4 ws) x) e) q

  pub found_first : k ≡ 0 → record { start = position_of 0; file = offset_of (get_or ws 0 0); end = position_of e } ≡ found_of (map_run (map_in ws) p)
  unfolding found_of
  found_first q = ap found_of (sym (run_is 0 q))

  further : (j : ℕ) → k ≡ suc j → map_run (map_in ws) p ≡ record { start = get_or ws (2 * k + 2) 0; offset = get_or ws (2 * k + 2 + 1) 0; end = e }
  further j q =
      run_is (suc j) q
      ∙ (λ i. record { start = word_on 4 ws (2 * j) (2 * k + 2) (omega arith) i; offset = word_on 4 ws (2 * j + 1) (2 * k + 2 + 1) (omega arith) i; end = e })

  pub found_further : 0 < k
      → record { start = position_of (get_or ws (2 * k + 2) 0); file = offset_of (get_or ws (2 * k + 2 + 1) 0); end = position_of e } ≡ found_of (map_run (map_in ws) p)
  unfolding found_of
  found_further q = ap found_of (sym (further (k - 1) (omega arith)))
