-- How a line goes on as bytes are passed, up to its LF or through all.
use Rattle.std.proofs.Common.{◌≡◌, ℕ, ◌+◌, ◌<◌, ◌≤◌, Bool, true, false, cond, List, [], ◌∷◌, ◌++◌, length, get_or, drop, sym, refl, ap, ◌∙◌, subst, append_assoc, append-nil, add-one, arith, length-append, drop_of_length-le, drop-cons, eq-eqb, ne_eqb}
use Rattle.fields.specs.declared.reader.Reader.{Reader}
use Rattle.fields.specs.Trace.{Kept}
use Rattle.input.specs.declared.Input.{Input}
use Rattle.input.specs.Input.{up_to, has_end, past, Scanned}

-- the bytes passed are kept, and the line's end lies in those that are left
pub record Passed (i : Input) (line₀ chunk : List ℕ) (reader : Reader) (line : List ℕ) (at : ℕ) : Type 0 where
  pub passed : List ℕ
  pub kept : (bytes : List ℕ) → Kept i.reader line₀ bytes → Kept reader line (bytes ++ passed)
  pub rest : up_to (drop i.at chunk) ≡ passed ++ up_to (drop at chunk)
  pub ends : has_end (drop i.at chunk) ≡ has_end (drop at chunk)
  pub place : at ≡ i.at + length passed

module _ (i : Input) (line₀ chunk : List ℕ) where
  pub none_passed : Passed i line₀ chunk i.reader line₀ i.at
  none_passed = record { passed = []; kept = λ bytes k. rw append-nil k; rest = refl; ends = refl; place = omega arith }

  module _ (reader : Reader) (line : List ℕ) (at : ℕ) (p : Passed i line₀ chunk reader line at) where
    module _ (room : at < length chunk) where
      here : drop at chunk ≡ get_or chunk at 0 ∷ drop (at + 1) chunk
      here = rw (add-one, drop-cons chunk at 0)

      -- a byte that is no LF is passed
      pub one_passed : (get_or chunk at 0 ≡ 10 → ⊥) → (reader' : Reader) (line' : List ℕ)
          → ((bytes : List ℕ) → Kept reader line bytes → Kept reader' line' (bytes ++ (get_or chunk at 0 ∷ []))) → Passed i line₀ chunk reader' line' (at + 1)
      unfolding up_to has_end
      one_passed differs reader' line' fed =
          let b = get_or chunk at 0 in
          let long = length-append p.passed (b ∷ []) in
          let was = p.place in
          let other = ne_eqb b 10 differs in
          record {
            passed = p.passed ++ (b ∷ []);
            kept = λ bytes k. subst (λ (l : List ℕ). Kept reader' line' l) (append_assoc bytes p.passed (b ∷ [])) (fed (bytes ++ p.passed) (p.kept bytes k));
            rest =
                p.rest ∙ ap (λ (l : List ℕ). p.passed ++ up_to l) here ∙ ap (λ (t : Bool). p.passed ++ cond t [] (b ∷ up_to (drop (at + 1) chunk))) other
                ∙ sym (append_assoc p.passed (b ∷ []) (up_to (drop (at + 1) chunk)));
            ends = p.ends ∙ ap has_end here ∙ ap (λ (t : Bool). cond t true (has_end (drop (at + 1) chunk))) other;
            place = omega arith;
          }

    module _ (r : Input) (to : Bool) (next : ℕ)
        (e : (r.reader ≡ reader) × ((r.whole ≡ to) × ((r.at ≡ next) × ((r.number ≡ i.number) × ((r.got ≡ i.got) × (r.ended ≡ false)))))) where
      all : up_to (drop at chunk) ≡ [] → up_to (drop i.at chunk) ≡ p.passed
      all none = p.rest ∙ ap (λ (l : List ℕ). p.passed ++ l) none ∙ append-nil p.passed

      ends_here : up_to (drop at chunk) ≡ [] → has_end (drop at chunk) ≡ to → next ≡ i.at + past (drop i.at chunk) → Scanned i r line₀ line (drop i.at chunk)
      ends_here none is step =
          record {
            kept = λ bytes k. subst (λ (q : Reader). Kept q line (bytes ++ up_to (drop i.at chunk))) (sym e.0) (subst (λ (l : List ℕ). Kept reader line (bytes ++ l)) (sym (all none)) (p.kept bytes k));
            whole = e.1.0 ∙ sym (p.ends ∙ is);
            at = e.1.1.0 ∙ step;
            number = e.1.1.1.0;
            got = e.1.1.1.1.0;
            ended = e.1.1.1.1.1;
          }

      -- how far that is
      far : up_to (drop at chunk) ≡ [] → has_end (drop at chunk) ≡ to → past (drop i.at chunk) ≡ cond to (length p.passed + 1) (length p.passed)
      unfolding past
      far none is = λ j. cond ((p.ends ∙ is) j) (length (all none j) + 1) (length (all none j))

    -- the LF is found
    pub found : (r : Input) → at < length chunk → get_or chunk at 0 ≡ 10
        → (r.reader ≡ reader) × ((r.whole ≡ true) × ((r.at ≡ at + 1) × ((r.number ≡ i.number) × ((r.got ≡ i.got) × (r.ended ≡ false)))))
        → Scanned i r line₀ line (drop i.at chunk)
    unfolding up_to has_end
    found r room lf e =
        let yes = eq-eqb (get_or chunk at 0) 10 lf in
        let none : up_to (drop at chunk) ≡ [] = ap up_to (here room) ∙ ap (λ (t : Bool). cond t [] (get_or chunk at 0 ∷ up_to (drop (at + 1) chunk))) yes in
        let is : has_end (drop at chunk) ≡ true = ap has_end (here room) ∙ ap (λ (t : Bool). cond t true (has_end (drop (at + 1) chunk))) yes in
        let was = p.place in
        let to = far r true (at + 1) e none is in
        ends_here r true (at + 1) e none is (omega (arith, was, to))

    -- there is none
    pub through : (r : Input) → length chunk ≤ at
        → (r.reader ≡ reader) × ((r.whole ≡ false) × ((r.at ≡ at) × ((r.number ≡ i.number) × ((r.got ≡ i.got) × (r.ended ≡ false)))))
        → Scanned i r line₀ line (drop i.at chunk)
    unfolding up_to has_end
    through r far-enough e =
        let gone : drop at chunk ≡ [] = drop_of_length-le chunk far-enough in
        let was = p.place in
        let to = far r false at e (ap up_to gone) (ap has_end gone) in
        ends_here r false at e (ap up_to gone) (ap has_end gone) (omega (arith, was, to))
