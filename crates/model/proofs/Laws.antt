-- The laws of an admitted opening. The words of a region in the store are those of the plan, so its map is the plan's; the remembered lengths are read
-- back from where they were written; a range's pieces act like one transfer by the map's laws, since no two positions share a card byte.
use mathlib.Core.Path.{◌≡◌, refl, sym, ap, ◌∙◌, subst}
use mathlib.Core.Bool.{true}
use mathlib.Core.List.{List, [], ◌++◌}
use Prim.Native.Nat.{ℕ, zero, suc, ◌+◌, ◌*◌, ◌≤◌, ◌<◌}
use native.Mathlib.Nat.{suc-mul, mul-le-mul_right, add_left_cancel, not-suc-le-zero, le_of_suc-le-suc}
use native.Mathlib.Decide.{ℕ_discrete}
use native.Mathlib.Omega.{arith}
use borrow.Author.Tests.{le-leb, eqb-true, eq-eqb}
use lib.Dec.{leb, eqb}
use lib.ListN.{length, get_or, take, drop, length-append, length-take, length-drop, get_or-append}
use lib.Seq.{length-take-le, drop-drop, get_or-take, get_or-drop, ext_get_or}
use Rattle.layout.proofs.Tests.{and_left, and_right, and_both}
use Rattle.regionmap.specs.Map.{Map, ascends}
use Rattle.regionmap.specs.Words.{map_in}
use Rattle.regionmap.specs.Found.{HoldsMap}
use Rattle.posix.specs.Transfer.{CardAndPool, Operation, wrote, read_in, whole, Accepted, Distinct, OneWrite, OneRead}
use Rattle.posix.proofs.Theorem.{transfers}
use Rattle.model.specs.declared.Opening.{Opening}
use Rattle.model.specs.declared.Lengths.{Lengths}
use Rattle.model.specs.Opening.{Plan, plan_in, plans_in, opens}
use Rattle.model.specs.Memory.{same_lengths, store_head, over, store_opened}
use Rattle.model.specs.Laws.{map_at, map_words_at, operation_at, Asked, OpeningLaws}
use Rattle.model.proofs.Rules.{numbers_hold, room_holds, plan_listed, pool_holds}
use Rattle.model.proofs.Opened.{opened_state}
use Rattle.model.proofs.Maps.{runs_length, plans_length, inside, plan_maps, opened_maps}

-- ---- the words of a region

-- the words of the h-th region of a plan
abbrev region_words : List ℕ → ℕ → List ℕ
region_words ws h = take 70 (drop (70 * h) ws)

plan_at_lem : (n : ℕ) (ws : List ℕ) (h : ℕ) (d : Plan) → h < n → get_or (plans_in n ws) h d ≡ plan_in (region_words ws h)
unfolding plans_in
plan_at_lem zero ws h d l = absurd (not-suc-le-zero l)
plan_at_lem (suc n) ws zero d l = refl
plan_at_lem (suc n) ws (suc h) d l =
    let next : 70 + 70 * h ≡ 70 * suc h = omega arith in
    plan_at_lem n (drop 70 ws) h d (le_of_suc-le-suc l) ∙ ap (λ (v : List ℕ). plan_in (take 70 v)) (drop-drop (70 * h) 70 ws ∙ ap (λ (k : ℕ). drop k ws) next)

module _ (o : Opening) (plan store : List ℕ) (l : Lengths) (ok : opens o plan l ≡ true) (h : ℕ) (lt : h < o.regions) where
  -- behind the head lie the plan's regions
  abbrev n : ℕ
  n = 70 * o.regions

  behind_head : drop 48 (store_opened o plan l store) ≡ take n plan ++ drop (length (store_head o l ++ take n plan)) store
  unfolding store_opened store_head over
  behind_head = refl

  listed : n ≤ length plan
  listed = plan_listed o plan l ok

  front_long : length (store_head o l ++ take n plan) ≡ 48 + n
  unfolding store_head
  front_long = length-append (store_head o l) (take n plan) ∙ ap (λ (k : ℕ). 48 + k) (length-take-le n plan listed)

  long : 48 + n ≤ length (store_opened o plan l store)
  unfolding store_opened over
  long = omega (arith, front_long, length-append (store_head o l ++ take n plan) (drop (length (store_head o l ++ take n plan)) store))

  -- the j-th word of the region's map
  word_at : (j : ℕ) → j < 68 → get_or (store_opened o plan l store) (50 + 70 * h + j) 0 ≡ get_or plan (70 * h + (2 + j)) 0
  word_at j s =
      let here : 48 + (70 * h + (2 + j)) ≡ 50 + 70 * h + j = omega arith in
      let inside : 70 * h + (2 + j) < n = omega arith in
      let in_plan : 70 * h + (2 + j) < length (take n plan) = subst (λ (k : ℕ). 70 * h + (2 + j) < k) (sym (length-take-le n plan listed)) inside in
      ap (λ (k : ℕ). get_or (store_opened o plan l store) k 0) (sym here)
      ∙ sym (get_or-drop 48 (store_opened o plan l store) (70 * h + (2 + j)) 0)
      ∙ ap (λ (v : List ℕ). get_or v (70 * h + (2 + j)) 0) behind_head
      ∙ get_or-append (take n plan) (drop (length (store_head o l ++ take n plan)) store) 0 (70 * h + (2 + j)) in_plan
      ∙ get_or-take n plan (70 * h + (2 + j)) 0 inside

  words_long : length (map_words_at (store_opened o plan l store) h) ≡ 68
  words_long = simp (length-take, length-drop) (omega (arith, long))

  words_are : map_words_at (store_opened o plan l store) h ≡ drop 2 (region_words plan h)
  words_are =
      let right : length (drop 2 (region_words plan h)) ≡ 68 = simp (length-drop, length-take) (omega (arith, listed)) in
      ext_get_or 0 _ _ (words_long ∙ sym right) (λ j s.
      let at : j < 68 = subst (λ (k : ℕ). j < k) words_long s in
      let two : 2 + j < 70 = omega arith in
      get_or-take 68 (drop (50 + 70 * h) (store_opened o plan l store)) j 0 at
      ∙ get_or-drop (50 + 70 * h) (store_opened o plan l store) j 0
      ∙ word_at j at
      ∙ sym (get_or-drop 2 (region_words plan h) j 0 ∙ get_or-take 70 (drop (70 * h) plan) (2 + j) 0 two ∙ get_or-drop (70 * h) plan (2 + j) 0))

  map_is : map_in (map_words_at (store_opened o plan l store) h) ≡ map_at o plan h
  unfolding plan_in
  map_is = ap map_in words_are ∙ sym (ap (λ (p : Plan). p.map) (plan_at_lem o.regions plan h (plan_in []) lt))

  -- the count of further runs is that of the map
  count_is : get_or (map_words_at (store_opened o plan l store) h) 3 0 ≡ length (map_at o plan h).more
  unfolding map_in
  count_is = sym (runs_length _ _) ∙ ap (λ (m : Map). length m.more) map_is

  pub held : HoldsMap (map_words_at (store_opened o plan l store) h) × (map_in (map_words_at (store_opened o plan l store) h) ≡ map_at o plan h)
  held =
      let few = (opened_maps o plan l ok).runs h (inside o plan h lt) in (
        record {
          room = omega (arith, few, count_is, words_long);
          rising = ap (λ (m : Map). ascends 0 m.more m.capacity) map_is ∙ ((opened_maps o plan l ok).lawful h (inside o plan h lt)).rising;
        },
        map_is,
      )

-- ---- the lengths of a later call

module _ (o : Opening) (plan store : List ℕ) (l later : Lengths) (ok : opens o plan l ≡ true) where
  pub same : same_lengths later (store_opened o plan l store) ≡ true → later ≡ l
  unfolding same_lengths store_opened store_head over
  same e =
      let s = store_opened o plan l store in
      let e₁ = and_right (leb 48 (length s)) _ e in
      let e₂ = and_right (eqb later.rows l.rows) _ e₁ in
      let e₃ = and_right (eqb later.store l.store) _ e₂ in
      let e₄ = and_right (eqb later.free l.free) _ e₃ in
      let e₅ = and_right (eqb later.ready l.ready) _ e₄ in
      let rows = eqb-true later.rows l.rows (and_left (eqb later.rows l.rows) _ e₁) in
      let words = eqb-true later.store l.store (and_left (eqb later.store l.store) _ e₂) in
      let free = eqb-true later.free l.free (and_left (eqb later.free l.free) _ e₃) in
      let ready = eqb-true later.ready l.ready (and_left (eqb later.ready l.ready) _ e₄) in
      let owners = eqb-true later.owners l.owners (and_left (eqb later.owners l.owners) _ e₅) in
      let pool = eqb-true later.pool l.pool (and_right (eqb later.owners l.owners) _ e₅) in
      λ i. record { rows = rows i; store = words i; free = free i; ready = ready i; owners = owners i; pool = pool i }

  own : same_lengths l (store_opened o plan l store) ≡ true
  unfolding same_lengths store_opened store_head over
  own =
      let s = store_opened o plan l store in
      let some : 48 ≤ length s = omega (arith, long o plan store l ok 0 (numbers_hold o plan l ok).some_regions) in
      and_both (leb 48 (length s)) _ (le-leb 48 (length s) some)
      (and_both (eqb l.rows l.rows) _ (eq-eqb l.rows l.rows refl)
      (and_both (eqb l.store l.store) _ (eq-eqb l.store l.store refl)
      (and_both (eqb l.free l.free) _ (eq-eqb l.free l.free refl)
      (and_both (eqb l.ready l.ready) _ (eq-eqb l.ready l.ready refl)
      (and_both (eqb l.owners l.owners) _ (eq-eqb l.owners l.owners refl) (eq-eqb l.pool l.pool refl))))))

  pub asked : later ≡ l → same_lengths later (store_opened o plan l store) ≡ true
  asked e = ap (λ (x : Lengths). same_lengths x (store_opened o plan l store)) e ∙ own

-- ---- one transfer

module _ (o : Opening) (plan : List ℕ) (l : Lengths) (ok : opens o plan l ≡ true) (h b start total : ℕ) (a : Asked o plan h b start total) where
  abbrev it : Operation
  it = operation_at o plan h b start total

  accepted : (pool : List ℕ) → length pool ≡ l.pool → Accepted it pool
  accepted pool e = record {
    lawful = (opened_maps o plan l ok).lawful h (inside o plan h a.region);
    in_data = a.in_data;
    in_buffer = a.length;
    in_pool =
        let one : b * o.capacity + o.capacity ≡ suc b * o.capacity = sym (suc-mul b o.capacity) in
        let all : suc b * o.capacity ≤ o.buffers * o.capacity = mul-le-mul_right o.capacity a.buffer in
        omega (arith, pool_holds o plan l ok);
  }

  in_capacity : (i : ℕ) → i < total → start + i < (map_at o plan h).capacity
  in_capacity i li = omega (arith, a.in_data, ((opened_maps o plan l ok).lawful h (inside o plan h a.region)).within)

  distinct : Distinct it
  distinct i j li lj e = by_case (ℕ_discrete i j)
    where
      by_case : Dec (i ≡ j) → i ≡ j
      by_case (yes p) = p
      by_case (no other) = absurd ((opened_maps o plan l ok).apart h (start + i) (start + j) (inside o plan h a.region) (in_capacity i li) (in_capacity j lj) (λ q. other (add_left_cancel start q)) e)

  pub one_write : (s : CardAndPool) → length s.pool ≡ l.pool → OneWrite it s (whole wrote it s)
  one_write s e = transfers.write it s (accepted s.pool e) distinct

  pub one_read : (s : CardAndPool) → length s.pool ≡ l.pool → OneRead it s (whole read_in it s)
  one_read s e = transfers.read it s (accepted s.pool e)

pub opening_laws : OpeningLaws
opening_laws = record {
  numbers = numbers_hold;
  room = room_holds;
  state = opened_state;
  plans = plan_maps;
  maps = opened_maps;
  regions = λ o plan. plans_length o.regions plan;
  held = held;
  lengths = λ o plan store l later ok. (same o plan store l later ok, asked o plan store l later ok);
  write = one_write;
  read = one_read;
}
