-- What the host does to the pool's bytes in a trace: TRACE.md's `fill` and `sum`.
use Rattle.std.specs.Prelude.{List, [], ◌∷◌, ◌++◌, Bool, ◌&&◌, ℕ, zero, suc, ◌+◌, ◌*◌, ◌/◌, ◌%◌, ◌^◌, length, take, drop, leb, ltb}

-- "the host writes: byte i becomes (SEED + 7 i + i / 256) mod 256"; i counts from the first byte written
unfoldable pub fill_byte : ℕ → ℕ → ℕ
fill_byte seed i = (seed + 7 * i + i / 256) % 256

-- n bytes, of which the first is byte i
unfoldable pub fill_bytes : ℕ → ℕ → ℕ → List ℕ
fill_bytes seed i zero = []
fill_bytes seed i (suc n) = fill_byte seed i ∷ fill_bytes seed (i + 1) n

-- `fill BUFFER AT LENGTH SEED`: n bytes from a place of the pool on, and every other byte as it was
unfoldable pub filled : ℕ → ℕ → ℕ → List ℕ → List ℕ
filled at n seed pool = take at pool ++ fill_bytes seed 0 n ++ drop (at + n) pool

-- "for each byte s1 = (s1 + b) mod 4294967291, s2 = (s2 + s1) mod 4294967291; S = s2 × 2^32 + s1"
unfoldable pub sum_from : ℕ → ℕ → List ℕ → ℕ
sum_from s1 s2 [] = s2 * 2 ^ 32 + s1
sum_from s1 s2 (b ∷ bs) = sum_from ((s1 + b) % 4294967291) ((s2 + (s1 + b) % 4294967291) % 4294967291) bs

-- "`sum` is over the bytes b in their order: s1 = 1, s2 = 0"
unfoldable pub sum_of : List ℕ → ℕ
sum_of bytes = sum_from 1 0 bytes

-- "outside the pool" is what is not in a buffer of it: the buffer is one of the pool's, and the stretch ends within its capacity
unfoldable pub in_pool : ℕ → ℕ → List ℕ → ℕ → ℕ → ℕ → Bool
in_pool buffers capacity pool b at n = ltb b buffers && (leb (at + n) capacity && leb (b * capacity + capacity) (length pool))

-- where a stretch of buffer b begins: the buffer's stretch starts at b × capacity
abbrev pub place_in : ℕ → ℕ → ℕ → ℕ
place_in capacity b at = b * capacity + at
