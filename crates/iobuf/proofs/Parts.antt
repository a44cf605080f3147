-- The equations of lists that the steps of a turn in place come down to: a list is cut into parts, and each side of an equation is those parts in order.
use mathlib.Core.Path.{◌≡◌, sym, ap, ◌∙◌}
use mathlib.Core.List.{List, ◌++◌, append_assoc}
use Prim.Native.Nat.{ℕ, ◌+◌, ◌≤◌}
use native.Mathlib.Omega.{arith}
use lib.ListN.{length, take, drop, length-append, length-take, length-drop}
use lib.Seq.{length-take-le, take-append-le, take-take, drop-drop, take-add, take_at, drop_at, paste}

-- a hop to the left takes the bytes moved so far to c bytes more
pub left_hop : (l d : List ℕ) (k at c : ℕ) → at + k ≤ length l → d ≡ take at (drop k l) ++ drop at l
    → paste d at (drop (at + k) d) c ≡ take (at + c) (drop k l) ++ drop (at + c) l
left_hop l d k at c h e =
    let long : length (take at (drop k l)) ≡ at = simp (length-take, length-drop) (omega arith) in
    let front : take at d ≡ take at (drop k l) = ap (take at) e ∙ take_at (take at (drop k l)) (drop at l) at long in
    let rest : drop at d ≡ drop at l = ap (drop at) e ∙ drop_at (take at (drop k l)) (drop at l) at long in
    let swap : at + k ≡ k + at = omega arith in
    let moved : drop (at + k) d ≡ drop at (drop k l) = sym (drop-drop k at d) ∙ ap (drop k) rest ∙ drop-drop k at l ∙ ap (λ (n : ℕ). drop n l) swap ∙ sym (drop-drop at k l) in
    let past : drop (at + c) d ≡ drop (at + c) l = sym (drop-drop c at d) ∙ ap (drop c) rest ∙ drop-drop c at l in
    (λ i. (front i ++ take c (moved i)) ++ past i) ∙ ap (λ (r : List ℕ). r ++ drop (at + c) l) (sym (take-add at c (drop k l)))

-- the c bytes from e on, cut from either side
pub window : (e c : ℕ) (l : List ℕ) → e ≤ length l → take c (drop e l) ≡ drop e (take (e + c) l)
window e c l h = sym (ap (drop e) (take-add e c l) ∙ drop_at (take e l) (take c (drop e l)) e (length-take-le e l h))

-- a hop to the right, from e to e + k, takes the j bytes moved so far to c bytes more
pub right_hop : (l d : List ℕ) (k e c j : ℕ) → (e + c) + k ≤ length l → d ≡ take ((e + c) + k) l ++ take j (drop (e + c) l)
    → paste d (e + k) (drop e d) c ≡ take (e + k) l ++ take (c + j) (drop e l)
right_hop l d k e c j h q =
    let head : List ℕ = take ((e + c) + k) l in
    let tail : List ℕ = take j (drop (e + c) l) in
    let long : length head ≡ (e + c) + k = length-take-le ((e + c) + k) l h in
    let same : (n : ℕ) → n ≤ (e + c) + k → take n d ≡ take n l =
    λ n b. ap (take n) q ∙ take-append-le n head tail (omega arith) ∙ take-take n ((e + c) + k) l b in
    let within : length d ≡ (e + c) + k + length tail = ap length q ∙ length-append head tail ∙ ap (λ (n : ℕ). n + length tail) long in
    let piece : take c (drop e d) ≡ take c (drop e l) =
    window e c d (omega arith) ∙ ap (drop e) (same (e + c) (omega arith)) ∙ sym (window e c l (omega arith)) in
    let at : e + k + c ≡ (e + c) + k = omega arith in
    let past : drop (e + k + c) d ≡ tail = ap (λ (n : ℕ). drop n d) at ∙ ap (drop ((e + c) + k)) q ∙ drop_at head tail ((e + c) + k) long in
    (λ i. (same (e + k) (omega arith) i ++ piece i) ++ past i)
    ∙ append_assoc (take (e + k) l) (take c (drop e l)) tail
    ∙ ap (λ (r : List ℕ). take (e + k) l ++ r)
    (ap (λ (r : List ℕ). take c (drop e l) ++ take j r) (sym (drop-drop c e l)) ∙ sym (take-add c j (drop e l)))
