-- The laws of the queue. What is published changes the 16 words of one place; as fewer than a whole ring are ready, none of the others lies there.
use mathlib.Core.Path.{◌≡◌, refl, sym, ap, ap₂, ◌∙◌, subst}
use mathlib.Core.Logic.{◌⊎◌, inl, inr, ⊎_elim}
use mathlib.Core.List.{List, [], ◌∷◌, ◌++◌}
use Prim.Native.Nat.{ℕ, zero, suc, ◌+◌, ◌-◌, ◌*◌, ◌≤◌, ◌<◌, ◌%◌, min}
use native.Mathlib.Nat.{mod-lt, mod-add-mod, mod-eq_of_lt, mod-eq-sub-mod, mod-mod, suc-mod, add-zero}
use native.Mathlib.Numerals.{add-one}
use native.Mathlib.Decide.{dec_lt}
use native.Mathlib.Omega.{arith}
use lib.ListN.{length, get_or, take, drop, length-append, length-take, length-drop, length-set, get_or-append}
use lib.Seq.{length-take-le, take_at, drop_at, drop-drop, get_or-take, get_or-drop, get_or-append-add, drop-set-lt, ext_get_or, get_or-set_same}
use Rattle.layout.proofs.Tests.{true_or_false}
use Rattle.completion.specs.declared.Completion.{Completion}
use Rattle.model.specs.declared.Opening.{Opening}
use Rattle.model.specs.Memory.{over, completion_in, ready_in, completion_words, CompletionFits}
use Rattle.model.proofs.Completions.{completion_laws}
use Rattle.ring.specs.Queue.{Ring, ring_in, place_in, placed, published, oldest_in, popped, QueueLaws}
use Rattle.ring.proofs.Places.{ring_holds, ring_true, place_room, published_in, published_not, popped_in, popped_not}

-- ---- what is placed

module _ (k : ℕ) (xs ws : List ℕ) (room : k + length xs ≤ length ws) where
  front_long : length (take k ws) ≡ k
  front_long = length-take-le k ws (omega arith)

  pub placed_long : length (placed k xs ws) ≡ length ws
  unfolding placed over
  placed_long =
      omega (arith, length-append (take k ws) (xs ++ drop (length xs) (drop k ws)), length-append xs (drop (length xs) (drop k ws)), front_long, length-drop (length xs) (drop k ws), length-drop k ws)

  -- there
  pub placed_there : take (length xs) (drop k (placed k xs ws)) ≡ xs
  unfolding placed over
  placed_there = ap (take (length xs)) (drop_at (take k ws) (xs ++ drop (length xs) (drop k ws)) k front_long) ∙ take_at xs (drop (length xs) (drop k ws)) (length xs) refl

  -- before and behind
  placed_before : (m : ℕ) → m < k → get_or (placed k xs ws) m 0 ≡ get_or ws m 0
  unfolding placed
  placed_before m l = get_or-append (take k ws) _ 0 m (omega (arith, l, front_long)) ∙ get_or-take k ws m 0 l

  placed_behind : (t : ℕ) → get_or (placed k xs ws) (k + (length xs + t)) 0 ≡ get_or ws (k + (length xs + t)) 0
  unfolding placed over
  placed_behind t =
      let n = length xs in
      ap (λ (m : ℕ). get_or (take k ws ++ (xs ++ drop n (drop k ws))) (m + (n + t)) 0) (sym front_long)
      ∙ get_or-append-add (take k ws) (xs ++ drop n (drop k ws)) (n + t) 0
      ∙ get_or-append-add xs (drop n (drop k ws)) t 0
      ∙ get_or-drop n (drop k ws) t 0
      ∙ get_or-drop k ws (n + t) 0

  pub placed_other : (m : ℕ) → (m < k) ⊎ (k + length xs ≤ m) → get_or (placed k xs ws) m 0 ≡ get_or ws m 0
  placed_other m (inl l) = placed_before m l
  placed_other m (inr g) =
      let at : k + (length xs + (m - (k + length xs))) ≡ m = omega arith in
      subst (λ (j : ℕ). get_or (placed k xs ws) j 0 ≡ get_or ws j 0) at (placed_behind (m - (k + length xs)))

-- parts of two lists of one length that have the same elements
module _ (a : ℕ) (us vs : List ℕ) (e : length us ≡ length vs) where
  take_same : (n : ℕ) → ((j : ℕ) → j < n → get_or us (a + j) 0 ≡ get_or vs (a + j) 0) → take n (drop a us) ≡ take n (drop a vs)
  take_same n same =
      let long : length (take n (drop a us)) ≡ length (take n (drop a vs)) = simp (length-take, length-drop) (ap (λ (k : ℕ). min n (k - a)) e) in
      ext_get_or 0 _ _ long (λ j s.
      let l : j < n = omega (arith, s, length-take n (drop a us)) in
      get_or-take n (drop a us) j 0 l ∙ get_or-drop a us j 0 ∙ same j l ∙ sym (get_or-take n (drop a vs) j 0 l ∙ get_or-drop a vs j 0))

  drop_same : ((j : ℕ) → get_or us (a + j) 0 ≡ get_or vs (a + j) 0) → drop a us ≡ drop a vs
  drop_same same =
      let long : length (drop a us) ≡ length (drop a vs) = simp length-drop (ap (λ (k : ℕ). k - a) e) in
      ext_get_or 0 _ _ long (λ j s. get_or-drop a us j 0 ∙ same j ∙ sym (get_or-drop a vs j 0))

-- ---- the places of a ring

-- fewer steps than a whole turn do not lead back
apart : (d a k : ℕ) → 0 < d → 0 < k → k < d → (a + k) % d ≡ a % d → ⊥
apart d a k some up below e = by_case (dec_lt (a % d + k) d)
  where
    there : (a % d + k) % d ≡ a % d
    there = mod-add-mod a d k ∙ e

    by_case : Dec (a % d + k < d) → ⊥
    by_case (yes l) = omega (arith, up, sym (mod-eq_of_lt l) ∙ there)
    by_case (no g) =
        let over : d ≤ a % d + k = omega arith in
        let small : a % d + k - d < d = omega (arith, mod-lt a some) in
        omega (arith, below, over, sym (mod-eq_of_lt small) ∙ sym (mod-eq-sub-mod over) ∙ there)

-- the words of place q
abbrev block_at : ℕ → List ℕ → List ℕ
block_at q vs = take 16 (drop (16 * q) vs)

module _ (o : Opening) (d : ℕ) where
  -- the places are counted mod d
  ready_mod : (a b n : ℕ) (vs : List ℕ) → a % d ≡ b % d → ready_in o d a n vs ≡ ready_in o d b n vs
  unfolding ready_in
  ready_mod a b zero vs e = refl
  ready_mod a b (suc n) vs e =
      ap₂ (λ (k : ℕ) (cs : List Completion). completion_in o (block_at k vs) ∷ cs) e (ready_mod (suc a) (suc b) n vs (suc-mod a d ∙ ap (λ (k : ℕ). suc k % d) e ∙ sym (suc-mod b d)))

  -- the last of them
  ready_last : (i n : ℕ) (vs : List ℕ) → ready_in o d i (suc n) vs ≡ ready_in o d i n vs ++ (completion_in o (block_at ((i + n) % d) vs) ∷ [])
  unfolding ready_in
  ready_last i zero vs = ap (λ (k : ℕ). completion_in o (block_at (k % d) vs) ∷ []) (sym (add-zero i))
  ready_last i (suc n) vs =
      let next : suc i + n ≡ i + suc n = omega arith in
      ap (λ (cs : List Completion). completion_in o (block_at (i % d) vs) ∷ cs)
      (ready_last (suc i) n vs ∙ ap (λ (k : ℕ). ready_in o d (suc i) n vs ++ (completion_in o (block_at (k % d) vs) ∷ [])) next)

  -- words that have the same in n places have the same n completions
  ready_same : (i n : ℕ) (us vs : List ℕ) → ((j : ℕ) → j < n → block_at ((i + j) % d) us ≡ block_at ((i + j) % d) vs) → ready_in o d i n us ≡ ready_in o d i n vs
  unfolding ready_in
  ready_same i zero us vs same = refl
  ready_same i (suc n) us vs same =
      let first : block_at (i % d) us ≡ block_at (i % d) vs = subst (λ (k : ℕ). block_at (k % d) us ≡ block_at (k % d) vs) (add-zero i) (same 0 (omega arith)) in
      ap₂ (λ (ws : List ℕ) (cs : List Completion). completion_in o ws ∷ cs) first
      (ready_same (suc i) n us vs (λ j s.
      let next : i + suc j ≡ suc i + j = omega arith in
      subst (λ (k : ℕ). block_at (k % d) us ≡ block_at (k % d) vs) next (same (suc j) (omega (arith, s)))))

-- ---- publishing

module _ (d n : ℕ) (c : Completion) (ws : List ℕ) (r : Ring d ws) where
  abbrev at : ℕ
  at = place_in d n ws

  long : length (completion_words c) ≡ 16
  long = completion_laws.long c

  room : at + length (completion_words c) ≤ length ws
  room = omega (arith, long, place_room d ws n r)

  abbrev new : List ℕ
  new = placed at (completion_words c) ws

  -- the words from place 1 on
  new_long : length (drop 1 new) ≡ length (drop 1 ws)
  new_long = simp length-drop (ap (λ (k : ℕ). k - 1) (placed_long at (completion_words c) ws room))

  there : block_at ((get_or ws 0 0 + n) % d) (drop 1 new) ≡ completion_words c
  unfolding place_in
  there =
      let q = (get_or ws 0 0 + n) % d in
      ap (take 16) (drop-drop (16 * q) 1 new) ∙ subst (λ (k : ℕ). take k (drop at new) ≡ completion_words c) long (placed_there at (completion_words c) ws room)

  elsewhere : (q : ℕ) → (q ≡ (get_or ws 0 0 + n) % d → ⊥) → block_at q (drop 1 new) ≡ block_at q (drop 1 ws)
  unfolding place_in
  elsewhere q other = take_same (16 * q) (drop 1 new) (drop 1 ws) new_long 16 (λ j s.
      get_or-drop 1 new (16 * q + j) 0 ∙ placed_other at (completion_words c) ws room (1 + (16 * q + j)) (side j s) ∙ sym (get_or-drop 1 ws (16 * q + j) 0))
    where
      p : ℕ
      p = (get_or ws 0 0 + n) % d

      side : (j : ℕ) → j < 16 → (1 + (16 * q + j) < at) ⊎ (at + length (completion_words c) ≤ 1 + (16 * q + j))
      side j s = by_case (dec_lt q p)
        where
          by_case : Dec (q < p) → (1 + (16 * q + j) < at) ⊎ (at + length (completion_words c) ≤ 1 + (16 * q + j))
          by_case (yes l) = inl (omega (arith, l, s))
          by_case (no g) = inr (omega (arith, g, other, s, long))

  is_new : published d n c ws ≡ new
  is_new = published_in d n c ws (ring_true d ws r)

  module _ (o : Opening) (fewer : n < d) (fits : CompletionFits o c) where
    others : ready_in o d (get_or ws 0 0) n (drop 1 new) ≡ ready_in o d (get_or ws 0 0) n (drop 1 ws)
    others = ready_same o d (get_or ws 0 0) n (drop 1 new) (drop 1 ws) (λ j s.
        let i = get_or ws 0 0 in
        let far : i + j + (n - j) ≡ i + n = omega (arith, s) in
        elsewhere ((i + j) % d) (λ e. apart d (i + j) (n - j) r.some (omega (arith, s)) (omega (arith, s, fewer)) (ap (λ (k : ℕ). k % d) far ∙ sym e)))

    pub last_ready : ready_in o d (get_or ws 0 0) (n + 1) (drop 1 (published d n c ws)) ≡ ready_in o d (get_or ws 0 0) n (drop 1 ws) ++ (c ∷ [])
    last_ready =
        let i = get_or ws 0 0 in
        ap₂ (λ (k : ℕ) (vs : List ℕ). ready_in o d i k (drop 1 vs)) (add-one n) is_new
        ∙ ready_last o d i n (drop 1 new)
        ∙ ap₂ (λ (cs : List Completion) (x : Completion). cs ++ (x ∷ [])) others (ap (completion_in o) there ∙ completion_laws.held o c fits)

  oldest_stays : get_or (published d n c ws) 0 0 ≡ get_or ws 0 0
  unfolding place_in
  oldest_stays = ap (λ (vs : List ℕ). get_or vs 0 0) is_new ∙ placed_other at (completion_words c) ws room 0 (inl (omega arith))

  length_stays : length (published d n c ws) ≡ length ws
  length_stays = ap length is_new ∙ placed_long at (completion_words c) ws room

  behind_stays : drop (1 + 16 * d) (published d n c ws) ≡ drop (1 + 16 * d) ws
  unfolding place_in
  behind_stays =
      let most : (get_or ws 0 0 + n) % d < d = mod-lt (get_or ws 0 0 + n) r.some in
      ap (drop (1 + 16 * d)) is_new
      ∙ drop_same (1 + 16 * d) new ws (placed_long at (completion_words c) ws room) (λ j. placed_other at (completion_words c) ws room (1 + 16 * d + j) (inr (omega (arith, most, long))))

-- what holds of the words with the completion in its place, and of the words as they are, holds of what is published
either : (P : List ℕ → Type 0) (d n : ℕ) (c : Completion) (ws : List ℕ) → (Ring d ws → P (published d n c ws)) → P ws → P (published d n c ws)
either P d n c ws in-ring as_is =
    ⊎_elim (λ e. in-ring (ring_holds d ws e)) (λ e. subst P (sym (published_not d n c ws e)) as_is) (true_or_false (ring_in d ws))

-- ---- the oldest

oldest_first : (o : Opening) (n : ℕ) (ws : List ℕ) → ready_in o o.depth (get_or ws 0 0) (n + 1) (drop 1 ws) ≡ oldest_in o ws ∷ ready_in o o.depth (suc (get_or ws 0 0)) n (drop 1 ws)
unfolding ready_in oldest_in place_in
oldest_first o n ws =
    let d = o.depth in
    let i = get_or ws 0 0 in
    ap (λ (k : ℕ). ready_in o d i k (drop 1 ws)) (add-one n)
    ∙ ap (λ (vs : List ℕ). completion_in o (take 16 vs) ∷ ready_in o d (suc i) n (drop 1 ws))
    (drop-drop (16 * (i % d)) 1 ws ∙ ap (λ (k : ℕ). drop (1 + 16 * (k % d)) ws) (sym (add-zero i)))

-- ---- taking it

module _ (d : ℕ) (ws : List ℕ) where
  abbrev next : ℕ
  next = suc (get_or ws 0 0) % d

  pub popped_ready : (o : Opening) (n : ℕ) → Ring d ws → ready_in o d (get_or (popped d ws) 0 0) n (drop 1 (popped d ws)) ≡ ready_in o d (suc (get_or ws 0 0)) n (drop 1 ws)
  popped_ready o n r =
      let is = popped_in d ws (ring_true d ws r) in
      let some : 0 < length ws = omega (arith, r.room) in
      ap₂ (λ (k : ℕ) (vs : List ℕ). ready_in o d k n vs)
      (ap (λ (vs : List ℕ). get_or vs 0 0) is ∙ get_or-set_same ws 0 next 0 some)
      (ap (drop 1) is ∙ drop-set-lt 1 ws 0 next (omega arith))
      ∙ ready_mod o d next (suc (get_or ws 0 0)) n (drop 1 ws) (mod-mod (suc (get_or ws 0 0)) d)

  pub popped_long : length (popped d ws) ≡ length ws
  popped_long = ⊎_elim (λ e. ap length (popped_in d ws e) ∙ length-set ws 0 next) (λ e. ap length (popped_not d ws e)) (true_or_false (ring_in d ws))

  pub popped_behind : drop (1 + 16 * d) (popped d ws) ≡ drop (1 + 16 * d) ws
  popped_behind =
      ⊎_elim (λ e. ap (drop (1 + 16 * d)) (popped_in d ws e) ∙ drop-set-lt (1 + 16 * d) ws 0 next (omega arith)) (λ e. ap (drop (1 + 16 * d)) (popped_not d ws e)) (true_or_false (ring_in d ws))

pub queue_laws : QueueLaws
queue_laws = record {
  publish = λ o d n c ws r fewer fits. last_ready d n c ws r o fewer fits;
  publish_oldest = λ d n c ws. either (λ vs. get_or vs 0 0 ≡ get_or ws 0 0) d n c ws (oldest_stays d n c ws) refl;
  publish_length = λ d n c ws. either (λ vs. length vs ≡ length ws) d n c ws (length_stays d n c ws) refl;
  publish_behind = λ d n c ws. either (λ vs. drop (1 + 16 * d) vs ≡ drop (1 + 16 * d) ws) d n c ws (behind_stays d n c ws) refl;
  oldest = oldest_first;
  pop = λ o d n ws r. popped_ready d ws o n r;
  pop_length = popped_long;
  pop_behind = popped_behind;
}
