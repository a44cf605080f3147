-- What holds of a turn and of a buffer's stretch, whatever the numbers: where each byte goes, that turns add up, and that
-- the turn back by total − done undoes the turns so far.
use Rattle.std.specs.Prelude.{◌≡◌, ◌≢◌, List, [], ◌∷◌, ℕ, ◌+◌, ◌-◌, ◌*◌, ◌≤◌, ◌<◌, length, get_or}
use Rattle.iobuf.specs.Turn.{turned, stretch, with_stretch, turned_in}

-- the first n bytes turn left by each amount of a list, one after the other
unfoldable pub turns : ℕ → List ℕ → List ℕ → List ℕ
turns n [] l = l
turns n (k ∷ ks) l = turns n ks (turned n k l)

-- what a list of amounts adds up to
unfoldable pub sum_of : List ℕ → ℕ
sum_of [] = 0
sum_of (k ∷ ks) = k + sum_of ks

-- buffer b of the given capacity lies within the pool
abbrev pub Fits : ℕ → ℕ → List ℕ → Type 0
Fits capacity b pool = b * capacity + capacity ≤ length pool

pub record TurnLaws : Type 0 where
  -- a turn keeps the length
  pub length_kept : (n k : ℕ) (l : List ℕ) → length (turned n k l) ≡ length l
  -- each byte from k on goes k to the left
  pub at_front : (n k i : ℕ) (l : List ℕ) → n ≤ length l → k ≤ n → i < n - k → get_or (turned n k l) i 0 ≡ get_or l (k + i) 0
  -- each of the first k bytes goes behind them
  pub at_back : (n k i : ℕ) (l : List ℕ) → n ≤ length l → k ≤ n → i < k → get_or (turned n k l) (n - k + i) 0 ≡ get_or l i 0
  -- each byte past n stays where it lies
  pub at_past : (n k i : ℕ) (l : List ℕ) → n ≤ i → get_or (turned n k l) i 0 ≡ get_or l i 0
  -- two turns are one by the sum
  pub twice : (n a b : ℕ) (l : List ℕ) → a + b ≤ n → n ≤ length l → turned n b (turned n a l) ≡ turned n (a + b) l
  -- all the turns so far are one by their sum
  pub summed : (n : ℕ) (ks l : List ℕ) → sum_of ks ≤ n → n ≤ length l → turns n ks l ≡ turned n (sum_of ks) l
  -- the turn by what is left of n undoes a turn
  pub back : (n d : ℕ) (l : List ℕ) → d ≤ n → n ≤ length l → turned n (n - d) (turned n d l) ≡ l
  -- the turn by what is left of n undoes the turns so far, at any stage
  pub back_turns : (n d : ℕ) (ks l : List ℕ) → sum_of ks ≡ d → d ≤ n → n ≤ length l → turned n (n - d) (turns n ks l) ≡ l
  -- a stretch is as long as a buffer
  pub stretch_length : (capacity b : ℕ) (pool : List ℕ) → Fits capacity b pool → length (stretch capacity b pool) ≡ capacity
  -- a stretch that was filled holds what it was filled with
  pub stretch_filled : (capacity b : ℕ) (bytes pool : List ℕ) → Fits capacity b pool → length bytes ≡ capacity
      → stretch capacity b (with_stretch capacity b bytes pool) ≡ bytes
  -- every other buffer's stretch is as it was
  pub stretch_other : (capacity b b' : ℕ) (bytes pool : List ℕ) → Fits capacity b pool → length bytes ≡ capacity → b' ≢ b
      → stretch capacity b' (with_stretch capacity b bytes pool) ≡ stretch capacity b' pool
  -- the pool with a buffer's own bytes is the pool
  pub filled_own : (capacity b : ℕ) (pool : List ℕ) → with_stretch capacity b (stretch capacity b pool) pool ≡ pool
  -- of two fillings of a stretch the last counts
  pub filled_twice : (capacity b : ℕ) (bytes bytes' pool : List ℕ) → Fits capacity b pool → length bytes ≡ capacity
      → with_stretch capacity b bytes' (with_stretch capacity b bytes pool) ≡ with_stretch capacity b bytes' pool
  -- filling a stretch keeps the pool's length
  pub filled_length : (capacity b : ℕ) (bytes pool : List ℕ) → Fits capacity b pool → length bytes ≡ capacity
      → length (with_stretch capacity b bytes pool) ≡ length pool
  -- where the buffer lies within the pool its stretch is turned; where it does not the pool stays as it is
  pub turned_in_lem : (capacity b n k : ℕ) (pool : List ℕ) → Fits capacity b pool
      → turned_in capacity b n k pool ≡ with_stretch capacity b (turned n k (stretch capacity b pool)) pool
  pub turned_out : (capacity b n k : ℕ) (pool : List ℕ) → length pool < b * capacity + capacity → turned_in capacity b n k pool ≡ pool
  -- a turn in the pool keeps the pool's length, turns its own stretch, and leaves every other buffer's as it was
  pub turned_in_length : (capacity b n k : ℕ) (pool : List ℕ) → length (turned_in capacity b n k pool) ≡ length pool
  pub turned_in_own : (capacity b n k : ℕ) (pool : List ℕ) → Fits capacity b pool
      → stretch capacity b (turned_in capacity b n k pool) ≡ turned n k (stretch capacity b pool)
  pub turned_in_other : (capacity b b' n k : ℕ) (pool : List ℕ) → b' ≢ b
      → stretch capacity b' (turned_in capacity b n k pool) ≡ stretch capacity b' pool
