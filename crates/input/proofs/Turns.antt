-- A turn: the line is answered where the step in the input made it whole.
use Rattle.std.proofs.Common.{◌≡◌, ℕ, true, false, List, sym, ap, ◌∙◌, subst}
use Rattle.layout.proofs.Tests.{not_both}
use Rattle.fields.specs.Trace.{Kept}
use Rattle.input.specs.declared.Input.{Input}
use Rattle.input.specs.Input.{Next, Turned}

module _ {S : Type 0} (leaves : List ℕ → ℕ → S → S → Type 0) (i from : Input) (line line' chunk chunk' : List ℕ) (n : Next i from line line' chunk chunk')
    (s now : S) (same : now ≡ s) (to r : Input) (moved : to ≡ from) (stays : r ≡ to) where
  abbrev is : r ≡ from
  is = stays ∙ moved

  pub answered : from.whole ≡ true → (s' : S) → ((bytes : List ℕ) → Kept to.reader line' bytes → leaves bytes to.number now s') → Turned leaves i r line line' chunk chunk' s s'
  answered done s' a =
      let whole : r.whole ≡ true = ap (λ (j : Input). j.whole) is ∙ done in
      record {
        next = subst (λ (j : Input). Next i j line line' chunk chunk') (sym is) n;
        whole = λ e. subst (λ (x : Input × S). (bytes : List ℕ) → Kept x.0.reader line' bytes → leaves bytes x.0.number x.1 s') (λ j. (sym stays j, same j)) a;
        part = λ e. absurd (not_both whole e);
      }

  pub unanswered : from.whole ≡ false → Turned leaves i r line line' chunk chunk' s now
  unanswered not_yet =
      let open_yet : r.whole ≡ false = ap (λ (j : Input). j.whole) is ∙ not_yet in
      record {
        next = subst (λ (j : Input). Next i j line line' chunk chunk') (sym is) n;
        whole = λ e bytes k. absurd (not_both e open_yet);
        part = λ e. same;
      }
