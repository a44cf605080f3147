-- The laws of turns and stretches (`TurnLaws`): the bytes that turn are cut off, all of them turned, and put back before the rest; a pool is cut
-- at the two ends of a stretch.
use mathlib.Core.Path.{◌≡◌, refl, sym, ap, ◌∙◌, subst}
use mathlib.Core.Logic.{◌≢◌, ◌⊎◌, inl, inr, ⊎_elim}
use mathlib.Core.Bool.{Bool}
use mathlib.Core.List.{List, [], ◌∷◌, ◌++◌, append_assoc, append-nil}
use Prim.Native.Nat.{ℕ, ◌+◌, ◌-◌, ◌*◌, ◌≤◌, ◌<◌, min}
use native.Mathlib.Nat.{suc-mul, mul-le-mul_right, lt_of_not-le}
use native.Mathlib.Decide.{dec_le, dec_lt}
use native.Mathlib.Omega.{arith}
use lib.ListN.{length, get_or, take, drop, length-append, length-take, length-drop, take-append-drop, drop_of_length-le, get_or-append}
use lib.Seq.{length-take-le, take_all, take-append-le, drop-append-le, get_or-append-add, get_or-take, get_or-drop, take-take, drop-drop, take-add, take_at, drop_at}
use borrow.Author.Tests.{le-leb, lt-leb}
use Rattle.layout.specs.Pick.{pick}
use Rattle.layout.proofs.Cuts.{take_cut, drop_cut}
use Rattle.iobuf.specs.Turn.{turned, stretch, with_stretch, turned_in}
use Rattle.iobuf.specs.TurnLaws.{TurnLaws, Fits, turns, sum_of}
use Rattle.iobuf.proofs.Parts.{window}
use Rattle.iobuf.proofs.ShiftParts.{rot}

-- ---- turns

-- a turn of the first n bytes is a turn of all of them before the rest
turned_is : (n k : ℕ) (l : List ℕ) → turned n k l ≡ rot k (take n l) ++ drop n l
unfolding turned
turned_is n k l = sym (append_assoc (drop k (take n l)) (take k (take n l)) (drop n l))

pub turned_part : (n k e : ℕ) (l p : List ℕ) → e ≡ min n (length l) → p ≡ rot k (take e l) → p ++ drop e l ≡ turned n k l
turned_part n k e l p c q =
    (λ i. q i ++ drop e l)
    ∙ (λ i. rot k (take_cut n e l c i) ++ drop_cut n e l c i)
    ∙ sym (turned_is n k l)

-- a turn by nothing, and one by all of the bytes or more, changes nothing
pub turned_none : (n k : ℕ) (l : List ℕ) → k ≡ 0 → turned n k l ≡ l
turned_none n k l z =
    turned_is n k l ∙ ap (λ (m : ℕ). rot m (take n l) ++ drop n l) z
    ∙ ap (λ (r : List ℕ). r ++ drop n l) (append-nil (take n l)) ∙ take-append-drop n l

pub turned_all : (n k : ℕ) (l : List ℕ) → min n (length l) ≤ k → turned n k l ≡ l
turned_all n k l h =
    let long : length (take n l) ≤ k = rw length-take h in
    turned_is n k l
    ∙ (λ i. (drop_of_length-le (take n l) {i = k} long i ++ take_all k (take n l) long i) ++ drop n l)
    ∙ take-append-drop n l

rot_long : (k : ℕ) (l : List ℕ) → length (rot k l) ≡ length l
rot_long k l = simp (length-append, length-take, length-drop) (omega arith)

length_kept : (n k : ℕ) (l : List ℕ) → length (turned n k l) ≡ length l
length_kept n k l =
    ap length (turned_is n k l) ∙ length-append (rot k (take n l)) (drop n l) ∙ ap (λ (m : ℕ). m + length (drop n l)) (rot_long k (take n l))
    ∙ sym (length-append (take n l) (drop n l)) ∙ ap length (take-append-drop n l)

at_front : (n k i : ℕ) (l : List ℕ) → n ≤ length l → k ≤ n → i < n - k → get_or (turned n k l) i 0 ≡ get_or l (k + i) 0
unfolding turned
at_front n k i l h b c =
    get_or-append (drop k (take n l)) _ 0 i (simp (length-drop, length-take) (omega arith))
    ∙ get_or-drop k (take n l) i 0 ∙ get_or-take n l (k + i) 0 (omega arith)

at_back : (n k i : ℕ) (l : List ℕ) → n ≤ length l → k ≤ n → i < k → get_or (turned n k l) (n - k + i) 0 ≡ get_or l i 0
unfolding turned
at_back n k i l h b c =
    let long : length (drop k (take n l)) ≡ n - k = simp (length-drop, length-take) (omega arith) in
    ap (λ (m : ℕ). get_or (turned n k l) (m + i) 0) (sym long)
    ∙ get_or-append-add (drop k (take n l)) (take k (take n l) ++ drop n l) i 0
    ∙ get_or-append (take k (take n l)) (drop n l) 0 i (simp length-take (omega arith))
    ∙ get_or-take k (take n l) i 0 c ∙ get_or-take n l i 0 (omega arith)

at_past : (n k i : ℕ) (l : List ℕ) → n ≤ i → get_or (turned n k l) i 0 ≡ get_or l i 0
at_past n k i l h =
    let e : ℕ = min n (length l) in
    let long : length (rot k (take n l)) ≡ e = rot_long k (take n l) ∙ length-take n l in
    let on : e + (i - e) ≡ i = omega arith in
    (λ t. get_or ((turned_is n k l ∙ ap (λ (r : List ℕ). rot k (take n l) ++ r) (sym (drop_cut n e l refl))) t) ((sym on ∙ ap (λ (m : ℕ). m + (i - e)) (sym long)) t) 0)
    ∙ get_or-append-add (rot k (take n l)) (drop e l) (i - e) 0 ∙ get_or-drop e l (i - e) 0 ∙ ap (λ (m : ℕ). get_or l m 0) on

-- two turns of all the bytes are one by the sum
rot_rot : (a b : ℕ) (l : List ℕ) → a + b ≤ length l → rot b (rot a l) ≡ rot (a + b) l
rot_rot a b l h =
    let long : b ≤ length (drop a l) = simp length-drop (omega arith) in
    (λ i. drop-append-le b (drop a l) (take a l) long i ++ take-append-le b (drop a l) (take a l) long i)
    ∙ append_assoc (drop b (drop a l)) (take a l) (take b (drop a l))
    ∙ (λ i. drop-drop b a l i ++ sym (take-add a b l) i)

twice : (n a b : ℕ) (l : List ℕ) → a + b ≤ n → n ≤ length l → turned n b (turned n a l) ≡ turned n (a + b) l
twice n a b l h within =
    let x : List ℕ = take n l in
    let z : List ℕ = drop n l in
    let whole : length x ≡ n = length-take-le n l within in
    let long : length (rot a x) ≡ n = rot_long a x ∙ whole in
    ap (turned n b) (turned_is n a l) ∙ turned_is n b (rot a x ++ z)
    ∙ (λ i. rot b (take_at (rot a x) z n long i) ++ drop_at (rot a x) z n long i)
    ∙ ap (λ (r : List ℕ). r ++ z) (rot_rot a b x (omega arith)) ∙ sym (turned_is n (a + b) l)

summed : (n : ℕ) (ks l : List ℕ) → sum_of ks ≤ n → n ≤ length l → turns n ks l ≡ turned n (sum_of ks) l
unfolding turns sum_of
summed n [] l h within = sym (turned_none n 0 l refl)
summed n (k ∷ ks) l h within =
    summed n ks (turned n k l) (omega arith) (rw length_kept within) ∙ twice n k (sum_of ks) l h within

back : (n d : ℕ) (l : List ℕ) → d ≤ n → n ≤ length l → turned n (n - d) (turned n d l) ≡ l
back n d l h within = twice n d (n - d) l (omega arith) within ∙ turned_all n (d + (n - d)) l (omega arith)

back_turns : (n d : ℕ) (ks l : List ℕ) → sum_of ks ≡ d → d ≤ n → n ≤ length l → turned n (n - d) (turns n ks l) ≡ l
back_turns n d ks l e h within =
    ap (turned n (n - d)) (summed n ks l (omega arith) within ∙ ap (λ (m : ℕ). turned n m l) e) ∙ back n d l h within

-- ---- stretches

stretch_length : (capacity b : ℕ) (pool : List ℕ) → Fits capacity b pool → length (stretch capacity b pool) ≡ capacity
unfolding stretch
stretch_length capacity b pool h = simp (length-take, length-drop) (omega arith)

-- a pool with other bytes in a stretch, from the stretch's start on
filled_rest : (capacity b : ℕ) (bytes pool : List ℕ) → Fits capacity b pool
    → drop (b * capacity) (with_stretch capacity b bytes pool) ≡ bytes ++ drop (b * capacity + capacity) pool
unfolding with_stretch
filled_rest capacity b bytes pool h = drop_at (take (b * capacity) pool) _ (b * capacity) (length-take-le (b * capacity) pool (omega arith))

-- and past the stretch
filled_past : (capacity b : ℕ) (bytes pool : List ℕ) → Fits capacity b pool → length bytes ≡ capacity
    → drop (b * capacity + capacity) (with_stretch capacity b bytes pool) ≡ drop (b * capacity + capacity) pool
filled_past capacity b bytes pool h e =
    sym (drop-drop capacity (b * capacity) (with_stretch capacity b bytes pool)) ∙ ap (drop capacity) (filled_rest capacity b bytes pool h)
    ∙ drop_at bytes (drop (b * capacity + capacity) pool) capacity e

-- and before it
filled_before : (capacity b m : ℕ) (bytes pool : List ℕ) → Fits capacity b pool → m ≤ b * capacity → take m (with_stretch capacity b bytes pool) ≡ take m pool
unfolding with_stretch
filled_before capacity b m bytes pool h c =
    let long : length (take (b * capacity) pool) ≡ b * capacity = length-take-le (b * capacity) pool (omega arith) in
    take-append-le m (take (b * capacity) pool) _ (omega arith) ∙ take-take m (b * capacity) pool c

stretch_filled : (capacity b : ℕ) (bytes pool : List ℕ) → Fits capacity b pool → length bytes ≡ capacity → stretch capacity b (with_stretch capacity b bytes pool) ≡ bytes
unfolding stretch
stretch_filled capacity b bytes pool h e =
    ap (take capacity) (filled_rest capacity b bytes pool h) ∙ take_at bytes (drop (b * capacity + capacity) pool) capacity e

filled_length : (capacity b : ℕ) (bytes pool : List ℕ) → Fits capacity b pool → length bytes ≡ capacity → length (with_stretch capacity b bytes pool) ≡ length pool
unfolding with_stretch
filled_length capacity b bytes pool h e = simp (length-append, length-take, length-drop) (omega arith)

filled_own : (capacity b : ℕ) (pool : List ℕ) → with_stretch capacity b (stretch capacity b pool) pool ≡ pool
unfolding with_stretch stretch
filled_own capacity b pool =
    ap (λ (r : List ℕ). take (b * capacity) pool ++ r)
    (ap (λ (r : List ℕ). stretch capacity b pool ++ r) (sym (drop-drop capacity (b * capacity) pool)) ∙ take-append-drop capacity (drop (b * capacity) pool))
    ∙ take-append-drop (b * capacity) pool

filled_twice : (capacity b : ℕ) (bytes bytes' pool : List ℕ) → Fits capacity b pool → length bytes ≡ capacity
    → with_stretch capacity b bytes' (with_stretch capacity b bytes pool) ≡ with_stretch capacity b bytes' pool
unfolding with_stretch
filled_twice capacity b bytes bytes' pool h e =
    λ i. filled_before capacity b (b * capacity) bytes pool h (omega arith) i ++ (bytes' ++ filled_past capacity b bytes pool h e i)

-- of two buffers the one with the lower number ends where the other starts, or before
apart : (capacity a b : ℕ) → a < b → a * capacity + capacity ≤ b * capacity
apart capacity a b h = subst (λ (m : ℕ). m ≤ b * capacity) (suc-mul a capacity) (mul-le-mul_right capacity h)

below_above : (a b : ℕ) → a ≢ b → (a < b) ⊎ (b < a)
below_above a b ne = elim (dec_lt a b) [ yes h ↦ inl h | no h ↦ inr (omega arith) ]

stretch_other : (capacity b b' : ℕ) (bytes pool : List ℕ) → Fits capacity b pool → length bytes ≡ capacity → b' ≢ b
    → stretch capacity b' (with_stretch capacity b bytes pool) ≡ stretch capacity b' pool
unfolding stretch
stretch_other capacity b b' bytes pool h e ne =
    let x : ℕ = b * capacity in
    let y : ℕ = b' * capacity in
    let w : List ℕ = with_stretch capacity b bytes pool in
    ⊎_elim
    (λ below.
    let end : y + capacity ≤ x = apart capacity b' b below in
    let long : length w ≡ length pool = filled_length capacity b bytes pool h e in
    window y capacity w (omega arith) ∙ ap (drop y) (filled_before capacity b (y + capacity) bytes pool h end) ∙ sym (window y capacity pool (omega arith)))
    (λ above.
    let start : x + capacity ≤ y = apart capacity b b' above in
    let on : x + capacity + (y - (x + capacity)) ≡ y = omega arith in
    ap (take capacity)
    (ap (λ (m : ℕ). drop m w) (sym on) ∙ sym (drop-drop (y - (x + capacity)) (x + capacity) w)
    ∙ ap (drop (y - (x + capacity))) (filled_past capacity b bytes pool h e)
    ∙ drop-drop (y - (x + capacity)) (x + capacity) pool ∙ ap (λ (m : ℕ). drop m pool) on))
    (below_above b' b ne)

-- ---- turns in a pool

turned_in_lem : (capacity b n k : ℕ) (pool : List ℕ) → Fits capacity b pool → turned_in capacity b n k pool ≡ with_stretch capacity b (turned n k (stretch capacity b pool)) pool
unfolding turned_in pick
turned_in_lem capacity b n k pool h = ap (λ (t : Bool). pick t (with_stretch capacity b (turned n k (stretch capacity b pool)) pool) pool) (le-leb _ _ h)

turned_out : (capacity b n k : ℕ) (pool : List ℕ) → length pool < b * capacity + capacity → turned_in capacity b n k pool ≡ pool
unfolding turned_in pick
turned_out capacity b n k pool h = ap (λ (t : Bool). pick t (with_stretch capacity b (turned n k (stretch capacity b pool)) pool) pool) (lt-leb _ _ h)

in_or_out : (capacity b : ℕ) (pool : List ℕ) → Fits capacity b pool ⊎ (length pool < b * capacity + capacity)
in_or_out capacity b pool = elim (dec_le (b * capacity + capacity) (length pool)) [ yes h ↦ inl h | no h ↦ inr (lt_of_not-le h) ]

turned_long : (capacity b n k : ℕ) (pool : List ℕ) → Fits capacity b pool → length (turned n k (stretch capacity b pool)) ≡ capacity
turned_long capacity b n k pool h = length_kept n k (stretch capacity b pool) ∙ stretch_length capacity b pool h

turned_in_length : (capacity b n k : ℕ) (pool : List ℕ) → length (turned_in capacity b n k pool) ≡ length pool
turned_in_length capacity b n k pool =
    ⊎_elim (λ h. ap length (turned_in_lem capacity b n k pool h) ∙ filled_length capacity b _ pool h (turned_long capacity b n k pool h))
    (λ h. ap length (turned_out capacity b n k pool h)) (in_or_out capacity b pool)

turned_in_own : (capacity b n k : ℕ) (pool : List ℕ) → Fits capacity b pool → stretch capacity b (turned_in capacity b n k pool) ≡ turned n k (stretch capacity b pool)
turned_in_own capacity b n k pool h =
    ap (stretch capacity b) (turned_in_lem capacity b n k pool h) ∙ stretch_filled capacity b _ pool h (turned_long capacity b n k pool h)

turned_in_other : (capacity b b' n k : ℕ) (pool : List ℕ) → b' ≢ b → stretch capacity b' (turned_in capacity b n k pool) ≡ stretch capacity b' pool
turned_in_other capacity b b' n k pool ne =
    ⊎_elim (λ h. ap (stretch capacity b') (turned_in_lem capacity b n k pool h) ∙ stretch_other capacity b b' _ pool h (turned_long capacity b n k pool h) ne)
    (λ h. ap (stretch capacity b') (turned_out capacity b n k pool h)) (in_or_out capacity b pool)

-- a buffer with no bytes has nothing to turn
pub turned_empty : (capacity b n k : ℕ) (pool : List ℕ) → capacity ≡ 0 → turned_in capacity b n k pool ≡ pool
turned_empty capacity b n k pool z =
    ⊎_elim
    (λ h.
    let long : length (stretch capacity b pool) ≡ 0 = stretch_length capacity b pool h ∙ z in
    turned_in_lem capacity b n k pool h ∙ ap (λ (r : List ℕ). with_stretch capacity b r pool) (turned_all n k (stretch capacity b pool) (omega arith)) ∙ filled_own capacity b pool)
    (turned_out capacity b n k pool) (in_or_out capacity b pool)

pub turn_laws : TurnLaws
turn_laws = record {
  length_kept = length_kept;
  at_front = at_front;
  at_back = at_back;
  at_past = at_past;
  twice = twice;
  summed = summed;
  back = back;
  back_turns = back_turns;
  stretch_length = stretch_length;
  stretch_filled = stretch_filled;
  stretch_other = stretch_other;
  filled_own = filled_own;
  filled_twice = filled_twice;
  filled_length = filled_length;
  turned_in_lem = turned_in_lem;
  turned_out = turned_out;
  turned_in_length = turned_in_length;
  turned_in_own = turned_in_own;
  turned_in_other = turned_in_other;
}
