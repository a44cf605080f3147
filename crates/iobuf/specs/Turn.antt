-- "the operation's bytes at the front of the buffer turn left by the piece"; "the buffer .. is turned back to its first arrangement".
-- "One buffer's stretch of the pool is lent on and turned there."
use Rattle.std.specs.Prelude.{List, ◌++◌, ℕ, ◌+◌, ◌*◌, length, take, drop, leb}
use Rattle.layout.specs.Pick.{pick}

-- the first n bytes turn left by k; the bytes past n stay where they lie
unfoldable pub turned : ℕ → ℕ → List ℕ → List ℕ
turned n k bytes = drop k (take n bytes) ++ (take k (take n bytes) ++ drop n bytes)

-- the bytes of buffer b in a pool of buffers of the given capacity: its stretch starts at b × capacity
unfoldable pub stretch : ℕ → ℕ → List ℕ → List ℕ
stretch capacity b pool = take capacity (drop (b * capacity) pool)

-- the pool with other bytes in buffer b's stretch, and every other byte as it was
unfoldable pub with_stretch : ℕ → ℕ → List ℕ → List ℕ → List ℕ
with_stretch capacity b bytes pool = take (b * capacity) pool ++ (bytes ++ drop (b * capacity + capacity) pool)

-- the pool with the first n bytes of buffer b turned left by k; a pool that has no such buffer stays as it is
unfoldable pub turned_in : ℕ → ℕ → ℕ → ℕ → List ℕ → List ℕ
turned_in capacity b n k pool =
    pick (leb (b * capacity + capacity) (length pool)) (with_stretch capacity b (turned n k (stretch capacity b pool)) pool) pool
