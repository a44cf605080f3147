-- The definitions run on a small operation, by computation. Its three pieces have 1, 1 and 3 bytes, so no two of the turns that a slip could
-- confuse agree.
use mathlib.Core.Path.{◌≡◌, refl}
use mathlib.Core.List.{List, [], ◌∷◌, map}
use Prim.Native.Nat.{ℕ}
use Rattle.layout.specs.Pick.{pick}
use Rattle.regionmap.specs.Map.{span_from, map_run, map_run_end, map_run_left, place, piece_size, pieces_up_to, pieces}
use Rattle.iobuf.specs.Turn.{turned, stretch, with_stretch, turned_in}
use Rattle.posix.specs.Posix.{pread, within, pwrite}
use Rattle.posix.specs.Transfer.{CardAndPool, Operation, wrote, read_in, turn_after, transferred, whole}

-- five bytes at position 1, of the second of two buffers of six bytes
abbrev pub small : Operation
small = record { map = record { first = 100; more = record { start = 2; offset = 200 } ∷ record { start = 3; offset = 300 } ∷ []; capacity = 7; data_length = 7 }; capacity = 6; buffer = 1; start = 1; total = 5 }

-- the pool's bytes, and a card whose every byte is its offset
abbrev pub at_first_lem : CardAndPool
at_first_lem = record { card = λ x. x; pool = 10 ∷ 11 ∷ 12 ∷ 13 ∷ 14 ∷ 15 ∷ 16 ∷ 17 ∷ 18 ∷ 19 ∷ 20 ∷ 21 ∷ [] }

-- the card's bytes of the range, and those beside them
abbrev pub shown : List ℕ
shown = 100 ∷ 101 ∷ 102 ∷ 199 ∷ 200 ∷ 201 ∷ 299 ∷ 300 ∷ 301 ∷ 302 ∷ 303 ∷ []

pub record Runs : Type 0 where
  pub taken : pieces small.map 1 5 ≡ record { position = 1; count = 1 } ∷ record { position = 2; count = 1 } ∷ record { position = 3; count = 3 } ∷ []
  pub written : map (whole wrote small at_first_lem).card shown ≡ 100 ∷ 16 ∷ 102 ∷ 199 ∷ 17 ∷ 201 ∷ 299 ∷ 18 ∷ 19 ∷ 20 ∷ 303 ∷ []
  pub written_from : (whole wrote small at_first_lem).pool ≡ at_first_lem.pool
  pub read_from : map (whole read_in small at_first_lem).card shown ≡ shown
  pub read : (whole read_in small at_first_lem).pool ≡ 10 ∷ 11 ∷ 12 ∷ 13 ∷ 14 ∷ 15 ∷ 101 ∷ 200 ∷ 300 ∷ 301 ∷ 302 ∷ 21 ∷ []

pub runs : Runs
unfolding whole transferred wrote read_in turn_after turned_in turned stretch with_stretch pread pwrite within place pieces pieces_up_to piece_size map_run_left map_run_end map_run span_from pick
runs = record { taken = refl; written = refl; written_from = refl; read_from = refl; read = refl }
