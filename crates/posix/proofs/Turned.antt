-- Two facts of the turn that the pieces of a transfer use: a front part goes behind the rest, and a turn in the pool is the turn of the bytes there.
-- By taking a list apart at known lengths, and by the turn's laws.
use mathlib.Core.Path.{◌≡◌, ◌∙◌}
use mathlib.Core.List.{List, ◌++◌, append_assoc}
use Prim.Native.Nat.{ℕ, ◌+◌, ◌*◌, ◌≤◌}
use lib.ListN.{length, length-append}
use lib.Seq.{take_at, drop_at}
use Rattle.iobuf.specs.Turn.{turned, with_stretch, turned_in}
use Rattle.iobuf.proofs.Laws.{turn_laws}

-- the turn by the length of a front part puts it behind the others of the first n bytes
pub turned_parts : (n k : ℕ) (a b t : List ℕ) → length a ≡ k → length a + length b ≡ n → turned n k (a ++ (b ++ t)) ≡ b ++ (a ++ t)
unfolding turned
turned_parts n k a b t p q =
    let r : length (a ++ b) ≡ n = length-append a b ∙ q in
    rw (← append_assoc a b t, take_at (a ++ b) t n r, drop_at (a ++ b) t n r, drop_at a b k p, take_at a b k p)

-- the turn in the pool is the turn of the bytes there
pub turned_with : (capacity b : ℕ) (pool : List ℕ) → b * capacity + capacity ≤ length pool → (x : List ℕ) → length x ≡ capacity → (n k : ℕ)
    → turned_in capacity b n k (with_stretch capacity b x pool) ≡ with_stretch capacity b (turned n k x) pool
turned_with capacity b pool fits x whole n k =
    turn_laws.turned_in_lem capacity b n k (with_stretch capacity b x pool) (rw (turn_laws.filled_length capacity b x pool fits whole) fits)
    ∙ (rw (turn_laws.stretch_filled capacity b x pool fits whole) (turn_laws.filled_twice capacity b x (turned n k x) pool fits whole))
