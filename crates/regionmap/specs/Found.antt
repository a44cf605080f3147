-- What the code finds in a map's words: a run, and a piece.
use Rattle.std.specs.Prelude.{◌≡◌, ℕ, ◌+◌, ◌*◌, ◌%◌, ◌^◌, ◌<◌, ◌≤◌, true, List, length, slice_index}
use Rattle.regionmap.specs.declared.{FoundRun.FoundRun, FoundPiece.FoundPiece}
use Rattle.regionmap.specs.Map.{Map, Span, place, piece_size, ascends}
use Rattle.regionmap.specs.Words.{map_in, position_of, offset_of}

-- the words hold all of the map's runs, and the starts ascend: true of the words of each region of an opened table (the model's Laws, held)
pub record HoldsMap (ws : List ℕ) : Type 0 where
  pub room : 4 + 2 * slice_index ws 3 ≤ length ws
  pub rising : ascends 0 (map_in ws).more (map_in ws).capacity ≡ true

-- the start of the k-th further run, counted from 1
abbrev pub start_in : List ℕ → ℕ → ℕ
start_in ws k = slice_index ws (2 * k + 2)

-- "the last start not above it": of n further runs the k-th starts not above p, and the one behind it above p
pub record LastStart (ws : List ℕ) (n p k : ℕ) : Type 0 where
  pub among : k ≤ n
  pub reached : 0 < k → start_in ws k ≤ p
  pub passed : k < n → p < start_in ws (k + 1)

-- the run that is found
unfoldable pub found_of : Span → FoundRun
found_of s = record { start = position_of s.start; file = offset_of s.offset; end = position_of s.end }

-- a card offset as a number of 64 bits; that of a position below the capacity of a map that lies within the card is its own (Laws, fits; D-7)
unfoldable pub wrap64 : ℕ → ℕ
wrap64 n = n % 2 ^ 64

-- the piece at a position, of the bytes left there
unfoldable pub piece_found : Map → ℕ → ℕ → FoundPiece
piece_found m p left = record { offset = offset_of (wrap64 (place m p)); count = piece_size m p left }
