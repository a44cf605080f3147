-- A piece of a region, found in the store's words.
use Rattle.std.specs.Prelude.{◌≡◌, List, ℕ}
use Rattle.regionmap.specs.declared.FoundPiece.{FoundPiece}
use Rattle.regionmap.specs.Words.{map_in}
use Rattle.regionmap.specs.Found.{HoldsMap, piece_found}
use Rattle.model.specs.Laws.{map_words_at}
use Rattle.memory.specs.Live.{InStore}

-- the map's piece at a position, of the bytes left there, of the region at handle h
abbrev pub PieceIn : List ℕ → ℕ → ℕ → ℕ → FoundPiece → Type 0
PieceIn store h p left r = InStore store h → HoldsMap (map_words_at store h) → r ≡ piece_found (map_in (map_words_at store h)) p left
