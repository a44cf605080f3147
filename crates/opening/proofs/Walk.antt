-- A test of each of n things: `rest j` is whether those from the j-th on pass. It is what `all` over the range of them from j on answers.
use mathlib.Core.Path.{◌≡◌, refl, sym, ap, ◌∙◌, subst}
use mathlib.Core.Bool.{Bool, true, false, not, ◌&&◌}
use Prim.Native.Nat.{ℕ, zero, suc, ◌+◌, ◌≤◌, ◌<◌}
use native.Mathlib.Omega.{arith}
use lib.ListN.{length}
use Rattle.std.specs.Bool.{MatchBool}
use Rattle.std.specs.List.{AllWithin, HoldsAt, range_with_len}
use Rattle.std.proofs.lemmas.List.FromFn.{length-range_with_len, get_or-range_with_len}

pub record Walk (n : ℕ) (test rest : ℕ → Bool) : Type 0 where
  pub step : (j : ℕ) → j < n → rest j ≡ (test j && rest (j + 1))
  pub end : (j : ℕ) → n ≤ j → rest j ≡ true

module _ {n : ℕ} {test rest : ℕ → Bool} (w : Walk n test rest) where
  all_pass : (d j : ℕ) → j + d ≡ n → ((k : ℕ) → k < d → test (j + k) ≡ true) → rest j ≡ true
  all_pass zero j e h = w.end j (omega arith)
  all_pass (suc d) j e h =
      let here : test j ≡ true = subst (λ (k : ℕ). test k ≡ true) (omega arith) (h 0 (omega arith)) in
      let behind : rest (j + 1) ≡ true =
      all_pass d (j + 1) (omega arith) (λ k g. subst (λ (i : ℕ). test i ≡ true) (omega arith) (h (suc k) (omega arith))) in
      w.step j (omega arith) ∙ (λ i. here i && behind i)

  one_fails : (k j : ℕ) → j + k < n → test (j + k) ≡ false → rest j ≡ false
  one_fails zero j l f =
      let here : test j ≡ false = subst (λ (i : ℕ). test i ≡ false) (omega arith) f in
      w.step j (omega arith) ∙ ap (λ (t : Bool). t && rest (j + 1)) here
  one_fails (suc k) j l f =
      let behind : rest (j + 1) ≡ false = one_fails k (j + 1) (omega arith) (subst (λ (i : ℕ). test i ≡ false) (omega arith) f) in
      w.step j (omega arith) ∙ ap (λ (t : Bool). test j && t) behind ∙ and_false (test j)
    where
      and_false : (t : Bool) → (t && false) ≡ false
      and_false true = refl
      and_false false = refl

  -- by what `all` answers over the range of those from j on
  pub asked : (j d : ℕ) → j + d ≡ n → (r : Bool)
      → MatchBool r (AllWithin (λ (k : ℕ). test k ≡ true) (range_with_len j d) 0 (length (range_with_len j d)))
      ((k : ℕ) × (k < length (range_with_len j d)) × HoldsAt (λ (i : ℕ). test i ≡ false) (range_with_len j d) k)
      → r ≡ rest j
  asked j d e true h =
      sym (all_pass d j e
      (λ k g. subst (λ (i : ℕ). test i ≡ true) (get_or-range_with_len j d k 0 g) (h k 0 (omega arith) (rw length-range_with_len g))))
  asked j d e false (k, g, f) =
      let less : k < d = rw length-range_with_len at g in
      sym (one_fails k j (omega arith) (subst (λ (i : ℕ). test i ≡ false) (get_or-range_with_len j d k 0 less) (f 0)))

  -- and what `any` answers, where it asks whether a test fails
  pub asked_any : (j d : ℕ) → j + d ≡ n → (r : Bool)
      → MatchBool r ((k : ℕ) × (k < length (range_with_len j d)) × HoldsAt (λ (i : ℕ). test i ≡ false) (range_with_len j d) k)
      (AllWithin (λ (k : ℕ). test k ≡ true) (range_with_len j d) 0 (length (range_with_len j d)))
      → r ≡ not (rest j)
  asked_any j d e true h = ap not (asked j d e false h)
  asked_any j d e false h = ap not (asked j d e true h)
