-- The laws of the map. The run of a position is the only run that holds it (Runs), so positions up to its end share it, and their offsets
-- are consecutive; runs that share no card byte give different offsets (Extents).
use Rattle.std.proofs.Common.{◌≡◌, ℕ, zero, suc, ◌+◌, ◌-◌, ◌^◌, ◌<◌, ◌≤◌, true, ◌≢◌, length, sym, refl, ap, ◌∙◌, subst, ⊎_elim, suc-le-suc, zero-le, le_refl, mod-eq_of_lt, arith}
use mathlib.Core.List.Memᴰ
use mathlib.Core.List.{Memᴰ}
use Rattle.regionmap.specs.Map.{Map, Span, first_run, map_run, map_run_end, map_run_left, place, piece_size, pieces_up_to, pieces}
use Rattle.regionmap.specs.Map.{spans, Extent, extent, extents, apart, all_apart, all_within}
use Rattle.regionmap.specs.Found.{wrap64}
use Rattle.regionmap.specs.Laws.{Lawful, Holds, OneRun, OnePiece, Chain, Separate, MapLaws, ExtentLaws}
use Rattle.regionmap.proofs.RunsFacts.{listed, holds, only}
use Rattle.regionmap.proofs.Extents.{apart_cases, apart_first, apart_second, apart_between, same_or_apart, within_each, within_first, within_second}

one_run : (m : Map) → Lawful m → (p : ℕ) → p < m.capacity → OneRun m p
unfolding map_run spans
one_run m law p below = record {
  listed = listed (first_run m) m.more m.capacity p;
  holds = holds (first_run m) m.more m.capacity p zero-le below;
  only = λ s. only (first_run m) m.more m.capacity p s law.rising;
}

-- positions of one run have consecutive offsets
consecutive : (m : Map) → Lawful m → (p j : ℕ) → p + j < (map_run m p).end → p + j < m.capacity → place m (p + j) ≡ place m p + j
unfolding place
consecutive m law p j l below =
    let at : OneRun m p = one_run m law p (omega arith) in
    let inside : Holds (map_run m p) (p + j) = record { from = omega (arith, at.holds.from); before = l } in
    let same : map_run m p ≡ map_run m (p + j) = (one_run m law (p + j) below).only (map_run m p) at.listed inside in
    ap (λ (s : Span). s.offset + (p + j - s.start)) (sym same) ∙ omega (arith, at.holds.from)

one_piece : (m : Map) → Lawful m → (p left : ℕ) → 0 < left → p < m.data_length → OnePiece m p left
unfolding piece_size map_run_left map_run_end
one_piece m law p left some below =
    let h : Holds (map_run m p) p = (one_run m law p (omega (arith, law.within))).holds in
    record {
      some = omega (arith, h.before);
      most = omega arith;
      uncrossed = omega (arith, h.before);
      in_data = omega arith;
      consecutive = λ j l. consecutive m law p j (omega arith) (omega (arith, law.within));
    }

chain : (k : ℕ) (m : Map) → Lawful m → (p left : ℕ) → left ≤ k → p + left ≤ m.data_length → Chain m p (pieces_up_to k m p left) (p + left)
unfolding pieces_up_to Chain
chain zero m law p left l within = omega arith
chain (suc k) m law p zero l within = omega arith
chain (suc k) m law p (suc n) l within =
    let c = piece_size m p (suc n) in
    let one : OnePiece m p (suc n) = one_piece m law p (suc n) (suc-le-suc zero-le) (omega arith) in
    let rest : Chain m (p + c) (pieces_up_to k m (p + c) (suc n - c)) (p + c + (suc n - c)) =
    chain k m law (p + c) (suc n - c) (omega (arith, one.some)) (omega (arith, one.most)) in
    let end : p + c + (suc n - c) ≡ p + suc n = omega (arith, one.most) in
    let size : c ≡ piece_size m p (p + suc n - p) = ap (piece_size m p) (omega arith) in
    (refl, size, one.some, subst (Chain m (p + c) (pieces_up_to k m (p + c) (suc n - c))) end rest)

covered : (m : Map) → Lawful m → (p n : ℕ) → p + n ≤ m.data_length → Chain m p (pieces m p n) (p + n)
unfolding pieces
covered m law p n within = chain n m law p n (le_refl n) within

few : (k : ℕ) (m : Map) (p left : ℕ) → length (pieces_up_to k m p left) ≤ k
unfolding pieces_up_to
few zero m p left = zero-le
few (suc k) m p zero = zero-le
few (suc k) m p (suc l) = suc-le-suc (few k m (p + piece_size m p (suc l)) (suc l - piece_size m p (suc l)))

finite : (m : Map) (p n : ℕ) → length (pieces m p n) ≤ n
unfolding pieces
finite m p n = few n m p n

-- an offset of a position lies in the extent of its run
record In (x : Extent) (o : ℕ) : Type 0 where
  from : x.offset ≤ o
  before : o < x.offset + x.size

inside : (m : Map) → Lawful m → (p : ℕ) → p < m.capacity → In (extent (map_run m p)) (place m p)
unfolding place extent
inside m law p l =
    let h : Holds (map_run m p) p = (one_run m law p l).holds in
    record { from = omega arith; before = omega (arith, h.from, h.before) }

-- extents that are apart have no offset in common
no_common : (a b : Extent) (o : ℕ) → apart a b ≡ true → In a o → In b o → ⊥
no_common a b o e h k =
    ⊎_elim (λ (l : a.offset + a.size ≤ b.offset). omega (arith, h.before, k.from))
    (λ (l : b.offset + b.size ≤ a.offset). omega (arith, h.from, k.before))
    (apart_cases a b e)

-- one run gives one offset to one position only
same_run : (m : Map) → Lawful m → (p q : ℕ) → p < m.capacity → q < m.capacity → map_run m p ≡ map_run m q → place m p ≡ place m q → p ≡ q
unfolding place
same_run m law p q lp lq same equal =
    omega (
      arith,
      equal,
      ap (λ (s : Span). s.offset) same,
      ap (λ (s : Span). s.start) same,
      (one_run m law p lp).holds.from,
      (one_run m law q lq).holds.from,
    )

injective : (m : Map) → Lawful m → all_apart (extents m) ≡ true → (p q : ℕ) → p < m.capacity → q < m.capacity → p ≢ q → place m p ≢ place m q
unfolding extents
injective m law e p q lp lq differ equal =
    ⊎_elim (λ (same : map_run m p ≡ map_run m q). differ (same_run m law p q lp lq same equal))
    (λ (t : apart (extent (map_run m p)) (extent (map_run m q)) ≡ true). no_common (extent (map_run m p)) (extent (map_run m q)) (place m p) t (inside m law p lp)
    (subst (In (extent (map_run m q))) (sym equal) (inside m law q lq)))
    (same_or_apart (spans m) (map_run m p) (map_run m q) e (one_run m law p lp).listed (one_run m law q lq).listed)

member : (m : Map) → Lawful m → (p : ℕ) → p < m.capacity → Memᴰ (extent (map_run m p)) (extents m)
unfolding extents
member m law p l = Memᴰ.map extent (one_run m law p l).listed

between : (m m' : Map) → Lawful m → Lawful m' → Separate (extents m) (extents m') → (p q : ℕ) → p < m.capacity → q < m'.capacity
    → place m p ≢ place m' q
between m m' law law' apart p q lp lq equal =
    no_common (extent (map_run m p)) (extent (map_run m' q)) (place m p) (apart _ _ (member m law p lp) (member m' law' q lq)) (inside m law p lp)
    (subst (In (extent (map_run m' q))) (sym equal) (inside m' law' q lq))

within_card : (m : Map) → Lawful m → (size : ℕ) → all_within size (extents m) ≡ true → (p : ℕ) → p < m.capacity → place m p < size
within_card m law size e p l = omega (arith, (inside m law p l).before, within_each size (extents m) e (extent (map_run m p)) (member m law p l))

fits : (m : Map) → Lawful m → (size : ℕ) → all_within size (extents m) ≡ true → size < 2 ^ 63 → (p : ℕ) → p < m.capacity
    → wrap64 (place m p) ≡ place m p
unfolding wrap64
fits m law size e small p l = mod-eq_of_lt (omega (arith, within_card m law size e p l))

pub map_laws : MapLaws
map_laws = record {
  one_run = one_run;
  one_piece = one_piece;
  covered = covered;
  finite = finite;
  injective = injective;
  between = between;
  within_card = within_card;
  fits = fits;
}

pub extent_laws : ExtentLaws
extent_laws = record {
  apart_first = apart_first;
  apart_second = apart_second;
  apart_between = apart_between;
  within_first = within_first;
  within_second = within_second;
}
