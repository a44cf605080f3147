-- A list cut at n where n is above its length is cut at its length.
use mathlib.Core.Path.{◌≡◌, sym, ap, ◌∙◌}
use mathlib.Core.List.{List}
use Prim.Native.Nat.{ℕ, min}
use lib.ListN.{length, take, drop, length-take, take-append-drop}
use lib.Seq.{take-append_seam, drop-append_seam}

pub take_cut : (n k : ℕ) (l : List ℕ) → k ≡ min n (length l) → take k l ≡ take n l
take_cut n k l e =
    ap (λ (i : ℕ). take i l) (e ∙ sym (length-take n l)) ∙ ap (take (length (take n l))) (sym (take-append-drop n l)) ∙ take-append_seam (take n l) (drop n l)

pub drop_cut : (n k : ℕ) (l : List ℕ) → k ≡ min n (length l) → drop k l ≡ drop n l
drop_cut n k l e =
    ap (λ (i : ℕ). drop i l) (e ∙ sym (length-take n l)) ∙ ap (drop (length (take n l))) (sym (take-append-drop n l)) ∙ drop-append_seam (take n l) (drop n l)
