-- The equations of lists that the steps of a turn in place come down to: a list is cut into parts, and each side of an equation is those parts in order.
use mathlib.Core.Path.{◌≡◌, sym, ap, ◌∙◌}
use mathlib.Core.Logic.{◌⊎◌, inl, inr}
use mathlib.Core.List.{List, [], ◌++◌, append_assoc, append-nil}
use Prim.Native.Nat.{ℕ, ◌+◌, ◌-◌, ◌≤◌, ◌<◌}
use native.Mathlib.Nat.{le_antisymm}
use native.Mathlib.Omega.{arith}
use lib.ListN.{length, take, drop, length-take, length-drop, take-append-drop, drop_of_length-le}
use lib.Seq.{length-take-le, take_all, take-take, drop-drop, take-add, take_at, drop_at, slice_empty, length-slice}
use Rattle.iobuf.specs.Exchange.{exchanged, Next}
use Rattle.iobuf.proofs.ShiftParts.{rot, to_end, past_end}

-- once the front has been exchanged with the bytes at k it holds what belongs there, and the rest is cut as it came
exchanged_front : (l : List ℕ) (k m : ℕ) → k + m ≤ length l → take m (exchanged k m l) ≡ take m (drop k l)
unfolding exchanged
exchanged_front l k m h = take_at (take m (drop k l)) _ m (simp (length-take, length-drop) (omega arith))

exchanged_rest : (l : List ℕ) (k m : ℕ) → k + m ≤ length l → drop m (exchanged k m l) ≡ drop m (take k l) ++ (take m l ++ drop (k + m) l)
unfolding exchanged
exchanged_rest l k m h = drop_at (take m (drop k l)) _ m (simp (length-take, length-drop) (omega arith))

-- where the first side is the shorter, the rest is turned by as much as the whole
pub near : (l : List ℕ) (k : ℕ) → k + k ≤ length l → take k (exchanged k k l) ++ rot k (drop k (exchanged k k l)) ≡ rot k l
near l k h =
    let a : List ℕ = take k l in
    let z : List ℕ = drop (k + k) l in
    let long : length a ≡ k = length-take-le k l (omega arith) in
    let rest : drop k (exchanged k k l) ≡ a ++ z = exchanged_rest l k k h ∙ ap (λ (r : List ℕ). r ++ (a ++ z)) (slice_empty k l) in
    (λ i. exchanged_front l k k h i ++ rot k (rest i))
    ∙ (λ i. take k (drop k l) ++ (drop_at a z k long i ++ take_at a z k long i))
    ∙ sym (append_assoc (take k (drop k l)) z a)
    ∙ ap (λ (r : List ℕ). r ++ a) (ap (λ (r : List ℕ). take k (drop k l) ++ r) (sym (drop-drop k k l)) ∙ take-append-drop k (drop k l))

-- where the second side, of m bytes, is the shorter, the rest is turned by m less
pub far : (l : List ℕ) (k m : ℕ) → m ≤ k → k + m ≡ length l → take m (exchanged k m l) ++ rot (k - m) (drop m (exchanged k m l)) ≡ rot k l
far l k m b h =
    let a : List ℕ = take m l in
    let q : List ℕ = drop m (take k l) in
    let long : length q ≡ k - m = length-slice m k l (omega arith) in
    let front : take m (exchanged k m l) ≡ drop k l = exchanged_front l k m (omega arith) ∙ take_all m (drop k l) (simp length-drop (omega arith)) in
    let none : drop (k + m) l ≡ [] = drop_of_length-le l {i = k + m} (omega arith) in
    let rest : drop m (exchanged k m l) ≡ q ++ a =
    exchanged_rest l k m (omega arith) ∙ ap (λ (r : List ℕ). q ++ (a ++ r)) none ∙ ap (λ (r : List ℕ). q ++ r) (append-nil a) in
    (λ i. front i ++ rot (k - m) (rest i))
    ∙ (λ i. drop k l ++ (drop_at q a (k - m) long i ++ take_at q a (k - m) long i))
    ∙ ap (λ (r : List ℕ). drop k l ++ r) (ap (λ (r : List ℕ). r ++ q) (sym (take-take m k l b)) ∙ take-append-drop m (take k l))

-- a step on the part from `at` on, said of the whole: p is what the step leaves of the part, and its first m bytes are done
pub onward : (s p : List ℕ) (at m k : ℕ) → at ≤ length s
    → take (at + m) (take at s ++ p) ++ rot k (drop (at + m) (take at s ++ p)) ≡ take at s ++ (take m p ++ rot k (drop m p))
onward s p at m k h =
    let long : length (take at s) ≡ at = length-take-le at s h in
    let front : take (at + m) (take at s ++ p) ≡ take at s ++ take m p =
    take-add at m (take at s ++ p) ∙ (λ i. take_at (take at s) p at long i ++ take m (drop_at (take at s) p at long i)) in
    let rest : drop (at + m) (take at s ++ p) ≡ drop m p = sym (drop-drop m at (take at s ++ p)) ∙ ap (drop m) (drop_at (take at s) p at long) in
    (λ i. front i ++ rot k (rest i)) ∙ append_assoc (take at s) (take m p) (rot k (drop m p))

-- where the whole first side is exchanged, the amount is kept and what is left has room for it
closes : (at k m k' n : ℕ) → m ≡ k → k' ≡ k → at + k ≤ n → k + m ≤ n - at → (at + m) + k' ≤ n
closes at k m k' n e f h b = omega arith

twice : (k m n : ℕ) → m ≡ k → k + m ≤ n → k + k ≤ n
twice k m n e h = omega arith

-- a turn of the loop of exchanges: p is the part from `at` on after the exchange, and the rest is turned by k' to give what is wanted
pub step : (s p want : List ℕ) (at k k' m : ℕ) → at + k ≤ length s → Next (length s - at) k m → 0 < m
    → p ≡ exchanged k m (take (length s - at) (drop at s)) → take at s ++ rot k (drop at s) ≡ want → ((m < k) × (k' ≡ k - m)) ⊎ ((k ≤ m) × (k' ≡ k))
    → ((at + m) + k' ≤ length s)
    × (take (at + m) (take at s ++ (p ++ drop (length s - at) (drop at s))) ++ rot k' (drop (at + m) (take at s ++ (p ++ drop (length s - at) (drop at s)))) ≡ want)
step s p want at k k' m h b pos q e (inl (less, eq)) =
    let l : List ℕ = drop at s in
    let all : k + m ≡ length l = b.whole pos less ∙ sym (length-drop at s) in
    let p_is : p ≡ exchanged k m l = q ∙ ap (exchanged k m) (to_end s at) in (
      omega arith,
      (λ i. take (at + m) (past_end s p at i) ++ rot k' (drop (at + m) (past_end s p at i)))
          ∙ onward s p at m k' (omega arith)
          ∙ ap (λ (r : List ℕ). take at s ++ r) ((λ i. take m (p_is i) ++ rot (eq i) (drop m (p_is i))) ∙ far l k m b.first all)
          ∙ e,
    )
step s p want at k k' m h b pos q e (inr (more, eq)) =
    let l : List ℕ = drop at s in
    let same : m ≡ k = le_antisymm b.first more in
    let p_is : p ≡ exchanged k k l = q ∙ (λ i. exchanged k (same i) (to_end s at i)) in (
      closes at k m k' (length s) same eq h b.second,
      (λ i. take (at + m) (past_end s p at i) ++ rot k' (drop (at + m) (past_end s p at i)))
          ∙ onward s p at m k' (omega arith)
          ∙ ap (λ (r : List ℕ). take at s ++ r) ((λ i. take (same i) (p_is i) ++ rot (eq i) (drop (same i) (p_is i))) ∙ near l k (twice k m (length l) same (rw length-drop b.second)))
          ∙ e,
    )
