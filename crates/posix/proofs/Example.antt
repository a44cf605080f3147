-- The theorem is not empty: at document 01's figures its suppositions hold, of a range that meets the second run and of one that starts at no
-- multiple of the block.
use mathlib.Core.Path.{◌≡◌, refl}
use mathlib.Core.List.{List, [], ◌∷◌}
use Prim.Native.Nat.{ℕ, ◌+◌, ◌-◌, ◌≤◌, ◌<◌}
use native.Mathlib.Omega.{arith}
use native.Mathlib.Decide.{dec_lt}
use lib.ListN.{length, replicate, length-replicate}
use lib.Dec.{lit≤}
use borrow.Author.Tests.{le-leb, lt-leb}
use Rattle.layout.specs.Pick.{pick}
use Rattle.regionmap.specs.Map.{Map, span_from, map_run, map_run_end, map_run_left, place, piece_size, pieces_up_to, pieces, ascends}
use Rattle.regionmap.specs.Laws.{Lawful, MapLaws}
use Rattle.posix.specs.Transfer.{CardAndPool, Operation, wrote, read_in, whole, Accepted, Distinct, OneWrite, OneRead}
use Rattle.posix.proofs.Theorem.{transfers_by}

-- "first offset 1,024, one further run (1,024, 8,192), capacity and data 2,048"
abbrev pub figures : Map
figures = record { first = 1024; more = record { start = 1024; offset = 8192 } ∷ []; capacity = 2048; data_length = 2048 }

-- 1,024 bytes of buffer 0 at a position; of "three buffers of 2,048"
abbrev pub operation : ℕ → Operation
operation start = record { map = figures; capacity = 2048; buffer = 0; start = start; total = 1024 }

pub lawful : Lawful figures
unfolding ascends
lawful = record { rising = refl; within = lit≤ tt }

pub accepted : (start : ℕ) → start ≤ 1024 → (pool : List ℕ) → length pool ≡ 6144 → Accepted (operation start) pool
accepted start h pool e = record { lawful = lawful; in_data = omega arith; in_buffer = lit≤ tt; in_pool = omega arith }

-- the two runs' offsets
place_first : (p : ℕ) → p < 1024 → place figures p ≡ 1024 + p
unfolding place map_run span_from pick
place_first p h = rw (lt-leb 1024 p h) (omega arith)

place_second : (p : ℕ) → 1024 ≤ p → place figures p ≡ 8192 + (p - 1024)
unfolding place map_run span_from pick
place_second p h = rw (le-leb 1024 p h)

-- no two positions of the map have one offset
pub apart : (p q : ℕ) → p < 2048 → q < 2048 → place figures p ≡ place figures q → p ≡ q
apart p q h k e = go (dec_lt p 1024) (dec_lt q 1024)
  where
    go : Dec (p < 1024) → Dec (q < 1024) → p ≡ q
    go (yes a) (yes b) = omega (arith, place_first p a, place_first q b)
    go (yes a) (no b) = omega (arith, place_first p a, place_second q (omega arith))
    go (no a) (yes b) = omega (arith, place_second p (omega arith), place_first q b)
    go (no a) (no b) = omega (arith, place_second p (omega arith), place_second q (omega arith))

pub distinct : (start : ℕ) → start ≤ 1024 → Distinct (operation start)
distinct start h i j a b e = omega (arith, apart (start + i) (start + j) (omega arith) (omega arith) e)

-- at 512, over a pool of zeros
pub accepted_512 : Accepted (operation 512) (replicate 6144 0)
accepted_512 = accepted 512 (lit≤ tt) (replicate 6144 0) (length-replicate {A = ℕ} 6144 0)

pub distinct_512 : Distinct (operation 512)
distinct_512 = distinct 512 (lit≤ tt)

-- so 1,024 bytes written at any position that has as many behind it are one write, and read there one read
pub one_write : MapLaws → (start : ℕ) → start ≤ 1024 → (s : CardAndPool) → length s.pool ≡ 6144 → OneWrite (operation start) s (whole wrote (operation start) s)
one_write laws start h s e = (transfers_by laws).write (operation start) s (accepted start h s.pool e) (distinct start h)

pub one_read : MapLaws → (start : ℕ) → start ≤ 1024 → (s : CardAndPool) → length s.pool ≡ 6144 → OneRead (operation start) s (whole read_in (operation start) s)
one_read laws start h s e = (transfers_by laws).read (operation start) s (accepted start h s.pool e)

-- "piece (1,536, 512)" and "piece (8,192, 512)", by their positions
pub pieces_512 : pieces figures 512 1024 ≡ record { position = 512; count = 512 } ∷ record { position = 1024; count = 512 } ∷ []
unfolding pieces pieces_up_to piece_size map_run_left map_run_end map_run span_from pick
pieces_512 = refl

-- "piece (1,536, 512)" and "piece (8,192, 512)"
pub offsets : (place figures 512 ≡ 1536) × (place figures 1024 ≡ 8192)
unfolding place map_run span_from pick
offsets = (refl, refl)
