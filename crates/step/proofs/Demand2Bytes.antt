-- The bytes of an operation whose first d bytes are done: behind those left of the old ones stand the new ones, then the buffer's others. A piece whose bytes
-- are new turns behind them; with the last piece the first arrangement is back. And a piece's bytes on the card.
use mathlib.Core.Path.{◌≡◌, refl, sym, ap, ◌∙◌}
use mathlib.Core.List.{List, ◌++◌, append_assoc}
use Prim.Native.Nat.{ℕ, zero, suc, ◌+◌, ◌-◌, ◌≤◌, ◌<◌}
use native.Mathlib.Decide.{dec_lt}
use native.Mathlib.Omega.{arith}
use lib.ListN.{length, take, drop, get_or, length-append, length-drop, take-append-drop, drop_of_length-le}
use lib.Seq.{length-take-le, take_all, take-append-le, drop-append-le, get_or-take, get_or-drop, drop-drop, take-add, ext_get_or}
use Rattle.regionmap.specs.Map.{Map, place}
use Rattle.iobuf.specs.Turn.{turned}
use Rattle.posix.specs.Posix.{Card, pread, pwrite}
use Rattle.posix.proofs.Laws.{transfer_laws}
use Rattle.posix.specs.Transfer.{gathered}
use Rattle.posix.proofs.Turned.{turned_parts}

-- ---- the buffer

-- as it lies while bytes are left
abbrev pub lying : List ℕ → List ℕ → List ℕ → ℕ → List ℕ
lying new old tail d = drop d old ++ (take d new ++ tail)

module _ (new old tail : List ℕ) (total : ℕ) (long_new : length new ≡ total) (long_old : length old ≡ total) where
  pub lying_first : lying new old tail 0 ≡ old ++ tail
  lying_first = refl

  pub lying_last : lying new old tail total ≡ new ++ tail
  lying_last = rw (drop_of_length-le old {i = total} (omega arith), take_all total new (omega arith))

  -- the front of it is what is left of the old bytes
  pub lying_front : (d n : ℕ) → d + n ≤ total → take n (lying new old tail d) ≡ take n (drop d old)
  lying_front d n le = take-append-le n (drop d old) (take d new ++ tail) (omega (arith, length-drop d old))

  module _ (d n : ℕ) (le : d + n ≤ total) (bytes : List ℕ) (front : take n bytes ≡ take n (drop d new)) (behind : drop n bytes ≡ drop n (lying new old tail d)) where
    abbrev piece : List ℕ
    piece = take n (drop d new)

    abbrev rest : List ℕ
    rest = drop (d + n) old

    all : bytes ≡ piece ++ ((rest ++ take d new) ++ tail)
    all =
        sym (take-append-drop n bytes) ∙ (λ j. front j ++ behind j)
        ∙ ap (λ (l : List ℕ). piece ++ l)
        (drop-append-le n (drop d old) (take d new ++ tail) (omega (arith, length-drop d old)) ∙ ap (λ (l : List ℕ). l ++ (take d new ++ tail)) (drop-drop n d old) ∙ sym (append_assoc rest (take d new) tail))

    piece_long : length piece ≡ n
    piece_long = length-take-le n (drop d new) (omega (arith, length-drop d new))

    both_long : length piece + length (rest ++ take d new) ≡ total
    both_long = omega (arith, piece_long, length-append rest (take d new), length-drop (d + n) old, length-take-le d new (omega arith))

    -- the turn by a piece
    pub turned_on : turned total n bytes ≡ lying new old tail (d + n)
    turned_on =
        ap (turned total n) all ∙ turned_parts total n piece (rest ++ take d new) tail piece_long both_long
        ∙ append_assoc rest (take d new) (piece ++ tail)
        ∙ ap (λ (l : List ℕ). rest ++ l) (sym (append_assoc (take d new) piece tail) ∙ ap (λ (l : List ℕ). l ++ tail) (sym (take-add d n new)))

    -- the turn back after the last
    pub turned_last : d + n ≡ total → turned total (total - d) bytes ≡ new ++ tail
    turned_last e =
        ap (λ (k : ℕ). turned total k bytes) (omega arith) ∙ turned_on ∙ ap (lying new old tail) e ∙ lying_last

-- ---- the card

pub gathered_length : (card : Card) (m : Map) (p n : ℕ) → length (gathered card m p n) ≡ n
unfolding gathered
gathered_length card m p zero = refl
gathered_length card m p (suc n) = ap suc (gathered_length card m (suc p) n)

pub gathered_at : (card : Card) (m : Map) (p n i : ℕ) → i < n → get_or (gathered card m p n) i 0 ≡ card (place m (p + i))
unfolding gathered
gathered_at card m p zero i h = absurd (omega arith)
gathered_at card m p (suc n) zero h = ap (λ (q : ℕ). card (place m q)) (omega arith)
gathered_at card m p (suc n) (suc i) h = gathered_at card m (suc p) n i (omega arith) ∙ ap (λ (q : ℕ). card (place m q)) (omega arith)

-- the offsets of an operation's bytes, of which n from the d-th on follow one another
module _ (at : ℕ → ℕ) (new : List ℕ) (d n : ℕ) (le : d + n ≤ length new) (consecutive : (j : ℕ) → j < n → at (d + j) ≡ at d + j) where
  piece_length_lem : length (take n (drop d new)) ≡ n
  piece_length_lem = length-take-le n (drop d new) (omega (arith, length-drop d new))

  piece_at : (j : ℕ) → j < n → get_or (take n (drop d new)) j 0 ≡ get_or new (d + j) 0
  piece_at j lt = get_or-take n (drop d new) j 0 lt ∙ get_or-drop d new j 0

  -- what is read there
  pub piece_read : (card : Card) → ((i : ℕ) → i < length new → card (at i) ≡ get_or new i 0) → pread card (at d) n ≡ take n (drop d new)
  piece_read card same =
      let long = transfer_laws.count card (at d) n in
      ext_get_or 0 (pread card (at d) n) (take n (drop d new)) (long ∙ sym piece_length_lem)
      (λ j h. let lt : j < n = omega (arith, h, long) in
      transfer_laws.reads card (at d) n j lt ∙ ap card (sym (consecutive j lt)) ∙ same (d + j) (omega arith) ∙ sym (piece_at j lt))

  -- what is written there
  pub piece_written : (card : Card) → ((i j : ℕ) → i < length new → j < length new → at i ≡ at j → i ≡ j) → (i : ℕ) → (i < d → card (at i) ≡ get_or new i 0)
      → i < d + n → pwrite card (at d) (take n (drop d new)) (at i) ≡ get_or new i 0
  piece_written card distinct i same lt = by_case (dec_lt i d)
    where
      by_case : Dec (i < d) → pwrite card (at d) (take n (drop d new)) (at i) ≡ get_or new i 0
      by_case (yes h) =
          transfer_laws.others card (at d) (take n (drop d new)) (at i)
          (λ j l e. let k : j < n = omega (arith, l, piece_length_lem) in
          let z = distinct (d + j) i (omega arith) (omega arith) (consecutive j k ∙ e) in omega arith)
          ∙ same h
      by_case (no h) =
          let j = i - d in
          let k : j < n = omega arith in
          let e : d + j ≡ i = omega arith in
          ap (pwrite card (at d) (take n (drop d new))) (ap at (sym e) ∙ consecutive j k)
          ∙ transfer_laws.replaces card (at d) (take n (drop d new)) j (omega (arith, k, piece_length_lem))
          ∙ piece_at j k
          ∙ ap (λ (l : ℕ). get_or new l 0) e
