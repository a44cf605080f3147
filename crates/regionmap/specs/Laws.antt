-- The laws of the map: what other crates use instead of the definitions' text. Each is proved in proofs/Laws.antt.
use Rattle.std.specs.Prelude.{◌≡◌, ℕ, ◌+◌, ◌-◌, ◌^◌, ◌<◌, ◌≤◌, true, ◌≢◌, List, [], ◌∷◌, ◌++◌, length}
use mathlib.Core.List.{Memᴰ}
use Rattle.regionmap.specs.Map.{Map, Span, map_run, place, piece_size, Piece, pieces, ascends, spans, Extent, extents, apart, all_apart, all_within}
use Rattle.regionmap.specs.Found.{wrap64}

-- the two of the opening's rules on one map that its laws need: "Starts strictly ascend, above 0 and below the capacity", and "a data length of at
-- most the capacity"
pub record Lawful (m : Map) : Type 0 where
  pub rising : ascends 0 m.more m.capacity ≡ true
  pub within : m.data_length ≤ m.capacity

-- p lies in the run s
pub record Holds (s : Span) (p : ℕ) : Type 0 where
  pub from : s.start ≤ p
  pub before : p < s.end

-- a position below the capacity, and so each below the data length, has exactly one card offset: it lies in one of the map's runs and in no other
pub record OneRun (m : Map) (p : ℕ) : Type 0 where
  pub listed : Memᴰ (map_run m p) (spans m)
  pub holds : Holds (map_run m p) p
  pub only : (s : Span) → Memᴰ s (spans m) → Holds s p → s ≡ map_run m p

-- a piece never crosses a run, is never empty, and its bytes are consecutive on the card
pub record OnePiece (m : Map) (p left : ℕ) : Type 0 where
  pub some : 0 < piece_size m p left
  pub most : piece_size m p left ≤ left
  pub uncrossed : p + piece_size m p left ≤ (map_run m p).end
  pub in_data : p + piece_size m p left ≤ m.data_length
  pub consecutive : (j : ℕ) → j < piece_size m p left → place m (p + j) ≡ place m p + j

-- the pieces of a list follow one another from p to e, and each is the map's at its position, of the bytes left there
unfoldable pub Chain : Map → ℕ → List Piece → ℕ → Type 0
Chain m p [] e = p ≡ e
Chain m p (x ∷ xs) e = (x.position ≡ p) × (x.count ≡ piece_size m p (e - p)) × (0 < x.count) × Chain m (p + x.count) xs e

-- no extent of one list shares a card byte with one of the other
abbrev pub Separate : List Extent → List Extent → Type 0
Separate xs ys = (x y : Extent) → Memᴰ x xs → Memᴰ y ys → apart x y ≡ true

pub record MapLaws : Type 0 where
  pub one_run : (m : Map) → Lawful m → (p : ℕ) → p < m.capacity → OneRun m p
  pub one_piece : (m : Map) → Lawful m → (p left : ℕ) → 0 < left → p < m.data_length → OnePiece m p left
  -- the pieces of a range, in order, cover it exactly once and are finitely many
  pub covered : (m : Map) → Lawful m → (p n : ℕ) → p + n ≤ m.data_length → Chain m p (pieces m p n) (p + n)
  pub finite : (m : Map) (p n : ℕ) → length (pieces m p n) ≤ n
  -- two positions of a map whose runs share no card byte have two card offsets
  pub injective : (m : Map) → Lawful m → all_apart (extents m) ≡ true → (p q : ℕ) → p < m.capacity → q < m.capacity → p ≢ q → place m p ≢ place m q
  -- nor do positions of two maps share one
  pub between : (m m' : Map) → Lawful m → Lawful m' → Separate (extents m) (extents m') → (p q : ℕ) → p < m.capacity → q < m'.capacity
      → place m p ≢ place m' q
  -- "all lie within the card's size, at most 2^63 − 1": a card offset is on the card, and fits 64 bits
  pub within_card : (m : Map) → Lawful m → (size : ℕ) → all_within size (extents m) ≡ true → (p : ℕ) → p < m.capacity → place m p < size
  pub fits : (m : Map) → Lawful m → (size : ℕ) → all_within size (extents m) ≡ true → size < 2 ^ 63 → (p : ℕ) → p < m.capacity
      → wrap64 (place m p) ≡ place m p

-- what the tests of one list of extents say of its two parts
pub record ExtentLaws : Type 0 where
  pub apart_first : (xs ys : List Extent) → all_apart (xs ++ ys) ≡ true → all_apart xs ≡ true
  pub apart_second : (xs ys : List Extent) → all_apart (xs ++ ys) ≡ true → all_apart ys ≡ true
  pub apart_between : (xs ys : List Extent) → all_apart (xs ++ ys) ≡ true → Separate xs ys
  pub within_first : (size : ℕ) (xs ys : List Extent) → all_within size (xs ++ ys) ≡ true → all_within size xs ≡ true
  pub within_second : (size : ℕ) (xs ys : List Extent) → all_within size (xs ++ ys) ≡ true → all_within size ys ≡ true
