-- How a map lies in lent words: 0 the first card offset, 1 the capacity, 2 the data length, 3 the count of further runs, and from word 4 on
-- each further run's start position and card offset.
use Rattle.std.specs.Prelude.{ℕ, zero, suc, List, [], ◌∷◌, drop, slice_index}
use Rattle.regionmap.specs.declared.{Position.Position, Offset.Offset}
use Rattle.regionmap.specs.Map.{Run, Map}

-- n runs that lie one behind the other
unfoldable pub runs_in : ℕ → List ℕ → List Run
runs_in zero ws = []
runs_in (suc n) ws = record { start = slice_index ws 0; offset = slice_index ws 1 } ∷ runs_in n (drop 2 ws)

-- the map in words
unfoldable pub map_in : List ℕ → Map
map_in ws =
    record { first = slice_index ws 0; more = runs_in (slice_index ws 3) (drop 4 ws); capacity = slice_index ws 1; data_length = slice_index ws 2 }

-- positions and offsets in the code's own types
abbrev pub position_of : ℕ → Position
position_of n = record { 0 = n }

abbrev pub offset_of : ℕ → Offset
offset_of n = record { 0 = n }
