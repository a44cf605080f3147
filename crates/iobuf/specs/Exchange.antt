-- A step of a turn in place: the bytes that it exchanges, and how many they are.
use Rattle.std.specs.Prelude.{◌≡◌, List, ◌++◌, ℕ, ◌+◌, ◌-◌, ◌≤◌, ◌<◌, min, take, drop}

-- the m bytes at the front and the m bytes from k on exchange places; every other byte stays where it lies
unfoldable pub exchanged : ℕ → ℕ → List ℕ → List ℕ
exchanged k m bytes = take m (drop k bytes) ++ (drop m (take k bytes) ++ (take m bytes ++ drop (k + m) bytes))

-- m bytes are exchanged next where n bytes turn left by k: the whole of the shorter side, or nothing, which leaves a side of at most 2,048 bytes
pub record Next (n k m : ℕ) : Type 0 where
  pub first : m ≤ k
  pub second : k + m ≤ n
  pub whole : 0 < m → m < k → k + m ≡ n
  pub left : min k (n - k) ≤ m + 2048
