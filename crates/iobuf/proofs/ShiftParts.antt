-- The equations of lists that the steps of a turn in place come down to: a list is cut into parts, and each side of an equation is those parts in order.
use mathlib.Core.Path.{◌≡◌, ap, ◌∙◌}
use mathlib.Core.List.{List, ◌++◌, append-nil}
use Prim.Native.Nat.{ℕ, ◌-◌, ◌≤◌}
use native.Mathlib.Omega.{arith}
use lib.ListN.{length, take, drop, length-drop, drop_of_length-le}
use lib.Seq.{length-take-le, take_all, take_at, drop_at}

-- all of a list turned left by k
abbrev pub rot : ℕ → List ℕ → List ℕ
rot k l = drop k l ++ take k l

-- what stands at the front of a list whose first n bytes were replaced
pub front_held : (d e : List ℕ) (n : ℕ) → n ≤ length d → length e ≡ length (take n d) → take n (e ++ drop n d) ≡ e
front_held d e n h long = take_at e (drop n d) n (long ∙ length-take-le n d h)

-- a part that reaches to the end is what lies from its start on, and nothing lies past it
pub to_end : (s : List ℕ) (at : ℕ) → take (length s - at) (drop at s) ≡ drop at s
to_end s at = take_all (length s - at) (drop at s) (simp length-drop (omega arith))

pub end_long : (s : List ℕ) (at : ℕ) → length (take (length s - at) (drop at s)) ≡ length s - at
end_long s at = ap length (to_end s at) ∙ length-drop at s

pub past_end : (s p : List ℕ) (at : ℕ) → take at s ++ (p ++ drop (length s - at) (drop at s)) ≡ take at s ++ p
past_end s p at =
    ap (λ (r : List ℕ). take at s ++ (p ++ r)) (drop_of_length-le (drop at s) {i = length s - at} (simp length-drop (omega arith)))
    ∙ ap (λ (r : List ℕ). take at s ++ r) (append-nil p)

-- the saved first k bytes p put behind the others, which were moved to the front
pub put_behind : (l s p : List ℕ) (k : ℕ) → k ≤ length l → s ≡ drop k l ++ drop (length l - k) l → p ≡ take k l
    → take (length l - k) s ++ (p ++ drop (length s - (length l - k)) (drop (length l - k) s)) ≡ rot k l
put_behind l s p k h e q =
    past_end s p (length l - k)
    ∙ (λ i. take (length l - k) (e i) ++ q i)
    ∙ ap (λ (r : List ℕ). r ++ take k l) (take_at (drop k l) (drop (length l - k) l) (length l - k) (length-drop k l))

-- the saved bytes p from k on put before the others, which were moved to the back
pub put_before : (l s p : List ℕ) (k : ℕ) → k ≤ length l → s ≡ take (length l - k) l ++ take (length l - (length l - k)) l → p ≡ drop k l
    → p ++ drop (length l - k) s ≡ rot k l
put_before l s p k h e q =
    let back : length l - (length l - k) ≡ k = omega arith in
    (λ i. q i ++ drop (length l - k) (e i))
    ∙ ap (λ (r : List ℕ). drop k l ++ r)
    (drop_at (take (length l - k) l) (take (length l - (length l - k)) l) (length l - k) (length-take-le (length l - k) l (omega arith))
    ∙ ap (λ (n : ℕ). take n l) back)
