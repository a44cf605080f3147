-- The Rust's map is document 01's: the loop of `run_of` brackets the first run that starts past the position, and in ascending starts the run before that one is
-- the position's. By induction over the turns of the loop, and over the runs.
use mathlib.Core.Path.{◌≡◌, refl, sym, ap, ◌∙◌, subst}
use mathlib.Core.Bool.{true}
use mathlib.Core.List.{List, [], ◌∷◌}
use Prim.Native.Nat.{ℕ, zero, suc, ◌+◌, ◌-◌, ◌/◌, ◌≤◌, ◌<◌, min}
use native.Mathlib.Nat.{not-suc-le-zero, le_refl, le_trans, le_of_suc-le-suc, sub-zero}
use native.Mathlib.Omega.{arith}
use borrow.Author.Tests.{ltb-true, ltb-false, leb-true, leb-false, eqb-true, lt-ltb, le-ltb, ne_eqb}
use lib.Dec.{leb, ltb, eqb, leb-suc-suc}
use lib.ListN.{length, get_or}
use Rattle.layout.specs.Pick.{pick}
use Rattle.regionmap.specs.Map.{Map, Run, Span, span, first_run, span_from, map_run, map_run_end, map_run_left, place, ascends}
use Rattle.regionmap.specs.Laws.{Lawful}
use Rattle.regionmap.proofs.RunsFacts.{rises, span_here, span_behind}
use Rattle.model.specs.Opening.{opened}
use Rattle.step.specs.Run.{plans_of, opened_by}
use Rattle.step.proofs.Picked.{by_pick}
use Rattle.step.proofs.Laws.{step_laws}
use Rattle.rusttable.specs.RegionMap.{run, searched, run_of, locate, run_end, run_left, MapAsRust}

-- the run at a place of a list
abbrev at : List Run → ℕ → Run
at xs j = get_or xs j (record { start = 0; offset = 0 })

-- ---- the loop

-- of n runs the one before lo starts not past p, and the one at hi past p
record Bracket (xs : List Run) (p lo hi : ℕ) : Type 0 where
  ordered : lo ≤ hi
  among : hi ≤ length xs
  reached : (j : ℕ) → lo ≡ suc j → (at xs j).start ≤ p
  passed : hi < length xs → p < (at xs hi).start

module _ (m : Map) (p : ℕ) where
  -- what the loop has behind some turns, and that it is over if they were enough
  record Met (enough : Type 0) (z : ℕ × ℕ) : Type 0 where
    between : Bracket m.more p z.0 z.1
    over : enough → z.1 ≤ z.0

  -- so many turns are enough for the runs that are left
  bracketed : (turns lo hi : ℕ) → Bracket m.more p lo hi → Met (hi ≤ lo + turns) (searched turns m p lo hi)
  unfolding searched run
  bracketed zero lo hi b = record { between = b; over = λ few. omega (arith, few) }
  bracketed (suc turns) lo hi b =
      by_pick (ltb lo hi) (Met (hi ≤ lo + suc turns))
      (λ more.
      let below = ltb-true lo hi more in
      by_pick (leb (at m.more (lo + (hi - lo) / 2)).start p) (Met (hi ≤ lo + suc turns))
      (λ reached. behind (bracketed turns (lo + (hi - lo) / 2 + 1) hi
      (record { ordered = omega (arith, below); among = b.among; reached = λ j e. subst (λ (x : ℕ). (at m.more x).start ≤ p) (omega (arith, e)) (leb-true _ p reached); passed = b.passed }))
      (λ few. omega (arith, below, few)))
      (λ past. behind (bracketed turns lo (lo + (hi - lo) / 2)
      (record { ordered = omega (arith, below); among = omega (arith, b.among, below); reached = b.reached; passed = λ l. leb-false _ p past }))
      (λ few. omega (arith, below, few))))
      (λ none. record { between = b; over = λ few. ltb-false lo hi none })
    where
      behind : {a : Type 0} {c : Type 0} {z : ℕ × ℕ} → Met c z → (a → c) → Met a z
      behind met fewer = record { between = met.between; over = λ few. met.over (fewer few) }

-- ---- the run

-- the k-th run, where r is the first and the others are a list, and where it ends
abbrev run_before : Run → List Run → ℕ → Run
run_before r xs zero = r
run_before r xs (suc k) = at xs k

abbrev end_of : List Run → ℕ → ℕ → ℕ
end_of xs cap k = pick (ltb k (length xs)) (at xs k).start cap

-- in ascending starts the first is the least
first_least : (xs : List Run) (x : Run) (k lo cap : ℕ) → ascends lo (x ∷ xs) cap ≡ true → k < length (x ∷ xs) → x.start ≤ (at (x ∷ xs) k).start
first_least xs x zero lo cap up l = le_refl x.start
first_least [] x (suc k) lo cap up l = absurd (not-suc-le-zero (le_of_suc-le-suc l))
first_least (y ∷ ys) x (suc k) lo cap up l =
    let behind = (rises up).rest in
    let more = first_least ys y k x.start cap behind (le_of_suc-le-suc l) in
    omega (arith, (rises behind).above, more)

-- past the first run
on_behind : {x : Run} {xs : List Run} {p k : ℕ} → Bracket (x ∷ xs) p (suc k) (suc k) → Bracket xs p k k
on_behind b = record { ordered = le_refl _; among = le_of_suc-le-suc b.among; reached = λ j e. b.reached (suc j) (ap suc e); passed = λ l. b.passed (omega arith) }

further : (r x : Run) (xs : List Run) (cap k : ℕ) → span (run_before x xs k) (end_of xs cap k) ≡ span (run_before r (x ∷ xs) (suc k)) (end_of (x ∷ xs) cap (suc k))
further r x xs cap zero = rw (leb-suc-suc 1 (length xs)) refl
further r x xs cap (suc k) = rw (leb-suc-suc (suc (suc k)) (length xs)) refl

last_run : (r : Run) (xs : List Run) (k lo cap p : ℕ) → ascends lo xs cap ≡ true → Bracket xs p k k → span_from r xs cap p ≡ span (run_before r xs k) (end_of xs cap k)
unfolding span_from pick
last_run r [] zero lo cap p up b = refl
last_run r [] (suc k) lo cap p up b = absurd (not-suc-le-zero b.among)
last_run r (x ∷ xs) zero lo cap p up b = span_here r x xs cap p (b.passed (omega arith)) ∙ rw (lt-ltb 0 (suc (length xs)) (omega arith)) refl
last_run r (x ∷ xs) (suc k) lo cap p up b =
    span_behind r x xs cap p (le_trans (first_least xs x k lo cap up b.among) (b.reached k refl))
    ∙ last_run x xs k x.start cap p (rises up).rest (on_behind b) ∙ further r x xs cap k

-- ---- the map

module _ (m : Map) (p : ℕ) where
  abbrev count : ℕ
  count = length m.more

  abbrev lo : ℕ
  lo = (searched count m p 0 count).0

  -- the loop's bounds behind some turns
  searching : (turns : ℕ) → Met m p (count ≤ 0 + turns) (searched turns m p 0 count)
  searching turns = bracketed m p turns 0 count (record { ordered = omega arith; among = le_refl count; reached = λ j e. absurd (omega arith); passed = λ l. absurd (omega arith) })

  over : (searched count m p 0 count).1 ≤ lo
  over = (searching count).over (omega arith)

  met : Bracket m.more p lo lo
  met = subst (Bracket m.more p lo) (omega (arith, over, (searching count).between.ordered)) (searching count).between

  turn_asks : (turns : ℕ) → let z = searched turns m p 0 count in z.0 < z.1 → z.0 + (z.1 - z.0) / 2 < count
  turn_asks turns more = omega (arith, more, (searching turns).between.among)

  before_asks : 0 < lo → lo - 1 < count
  before_asks some = omega (arith, some, met.among)

  -- `match lo { 0 => (0, self.first), k => self.run(k - 1) }`
  before_is : (k : ℕ) → pick (eqb k 0) (0, m.first) (run m (k - 1)) ≡ ((run_before (first_run m) m.more k).start, (run_before (first_run m) m.more k).offset)
  unfolding pick run
  before_is zero = refl
  before_is (suc k) = let less : suc k - 1 ≡ k = omega arith in rw (ne_eqb (suc k) 0 (λ e. omega arith), less) refl

  -- what `run_of` has behind its loop
  found_is : run_of m p count ≡ ((run_before (first_run m) m.more lo).start, (run_before (first_run m) m.more lo).offset, end_of m.more m.capacity lo)
  unfolding run_of run
  found_is = λ j. ((before_is lo j).0, (before_is lo j).1, end_of m.more m.capacity lo)

  begins : (run_of m p count).0 ≤ p
  begins = subst (λ (r : ℕ × ℕ × ℕ). r.0 ≤ p) (sym found_is) (by_place lo met.reached)
    where
      by_place : (k : ℕ) → ((j : ℕ) → k ≡ suc j → (at m.more j).start ≤ p) → (run_before (first_run m) m.more k).start ≤ p
      by_place zero h = omega arith
      by_place (suc k) h = h k refl

  -- one run is the first
  one_run : count ≡ 0 → map_run m p ≡ span (first_run m) m.capacity
  unfolding map_run span_from
  one_run = by_runs m.more
    where
      by_runs : (xs : List Run) → length xs ≡ 0 → span_from (first_run m) xs m.capacity p ≡ span (first_run m) m.capacity
      by_runs [] e = refl
      by_runs (x ∷ xs) e = absurd (omega arith)

  abbrev Found : Type 0
  Found = run_of m p count ≡ ((map_run m p).start, (map_run m p).offset, (map_run m p).end)

  -- by the run that is found
  end_by : Found → m.data_length ≤ m.capacity → run_end m p ≡ map_run_end m p
  unfolding run_end map_run_end
  end_by found within =
      by_pick (eqb count 0) (λ (n : ℕ). n ≡ min (map_run m p).end m.data_length)
      (λ none. omega (arith, within, ap (λ (s : Span). s.end) (one_run (eqb-true count 0 none))))
      (λ some. ap (λ (r : ℕ × ℕ × ℕ). min r.2 m.data_length) found)

  place_by : Found → (n : ℕ) → locate m p n ≡ place m p
  unfolding locate place
  place_by found n =
      by_pick (eqb count 0) (λ (o : ℕ). o ≡ (map_run m p).offset + (p - (map_run m p).start))
      (λ none. ap (λ (n : ℕ). m.first + n) (sym (sub-zero p)) ∙ ap (λ (s : Span). s.offset + (p - s.start)) (sym (one_run (eqb-true count 0 none))))
      (λ some. ap (λ (r : ℕ × ℕ × ℕ). r.1 + (p - r.0)) found)

run_of_lem : (m : Map) → Lawful m → (p : ℕ) → Found m p
unfolding map_run
run_of_lem m law p = found_is m p ∙ ap (λ (s : Span). (s.start, s.offset, s.end)) (sym (last_run (first_run m) m.more (lo m p) 0 m.capacity p law.rising (met m p)))

pub map_as_rust : MapAsRust
unfolding run_left map_run_left opened_by plans_of opened
map_as_rust = record {
  opened = λ x h l. ((step_laws.opening x.opening x.plan x.lengths x.pool x.admitted x.whole).each h l).lawful;
  run_of_lem = run_of_lem;
  run_end_lem = λ m law pos. end_by m pos (run_of_lem m law pos) law.within;
  run_left_lem = λ m law pos. ap (λ (e : ℕ). e - pos) (end_by m pos (run_of_lem m law pos) law.within);
  locate_is = λ m law pos len. place_by m pos (run_of_lem m law pos) len;
  loop_ends = λ m pos. le-ltb _ _ (over m pos);
  turn_asks = turn_asks;
  before_asks = before_asks;
  begins = begins;
}
