-- A write counted as kept had its answered pieces all taken whole (demand 2's `kept`), so each byte on which it was quiet is followed as demand 2 follows the whole range;
-- with a completion got it names no row any more, so its pieces are done.
use mathlib.Core.Path.{◌≡◌, refl, sym, ◌∙◌, subst}
use mathlib.Core.Bool.{true}
use mathlib.Core.List.{List, [], ◌∷◌, ◌++◌}
use Prim.Native.Nat.{ℕ, ◌<◌}
use borrow.Author.Tests.{eqb-true, eq-eqb}
use lib.Dec.{eqb}
use Rattle.posix.specs.Posix.{Card}
use Rattle.model.specs.declared.Request.{Request}
use Rattle.model.specs.declared.Call.TheVariants.{Write}
use Rattle.model.specs.State.{State}
use Rattle.step.specs.Step.{row_at, row_of, names}
use Rattle.step.specs.Run.{Made.calls, Event, next, run, Start}
use Rattle.step.specs.Lists.{Completed}
use Rattle.step.specs.Demand2.{Accepted, submitted_in, PiecesDone, gets_in, Followed, AllWhole}
use Rattle.step.specs.Kept.{QuietAt, offset_then, Stands, KeptStands, Kept}
use Rattle.step.proofs.AloneTags.{clash}
use Rattle.step.proofs.Demand2.{quiet_along, demand2}

-- the front of a list
followed_front : (t : ℕ) (es₁ es₂ : List Event) (s : State) → Followed s (es₁ ++ es₂) t → Followed s es₁ t
unfolding Followed
followed_front t [] es₂ s f = tt
followed_front t (e ∷ es₁) es₂ s f = (f.0, f.1, followed_front t es₁ es₂ (next s e) f.2)

whole_front : (t : ℕ) (es₁ es₂ : List Event) (s : State) → AllWhole s (es₁ ++ es₂) t → AllWhole s es₁ t
unfolding AllWhole
whole_front t [] es₂ s f = tt
whole_front t (e ∷ es₁) es₂ s f = (f.0, whole_front t es₁ es₂ (next s e) f.1)

module _ (x : Start) (h : List Event) (e : Event) (t : ℕ) (q : Request) (a : Accepted x h e t q (calls (Write q))) (card : Card) (es : List Event) (followed : Followed (submitted_in x h e) es t) (whole : AllWhole (submitted_in x h e) es t)
    (i : ℕ) (quiet : QuietAt (submitted_in x h e) es t (offset_then x h q i)) where
  -- one byte is followed
  one_byte : (PiecesDone (run (submitted_in x h e) es) t → i < q.length → Stands x h e q card es i) × (names (row_at (run (submitted_in x h e) es) (row_of t)) t ≡ true → gets_in x h e t q es ≡ [])
  one_byte =
      let z = quiet_along x h e t q a (λ j. eqb j i) card es followed whole (λ j lt on. subst (λ (k : ℕ). QuietAt (submitted_in x h e) es t (offset_then x h q k)) (sym (eqb-true j i on)) quiet) in
      (λ done lt. z.0 done i lt (eq-eqb i i refl), z.1)

-- where its answered pieces were all taken whole and it has got a completion
whole_stands : (x : Start) (h : List Event) (e : Event) (t : ℕ) (q : Request) → Accepted x h e t q (calls (Write q)) → (card : Card) (es : List Event) → Followed (submitted_in x h e) es t → AllWhole (submitted_in x h e) es t
    → (it : Completed) (more : List Completed) → gets_in x h e t q es ≡ it ∷ more → KeptStands x h e t q card es
unfolding PiecesDone
whole_stands x h e t q a card es followed whole it more got = record {
  answered = λ es₁ es₂ front done i lt quiet.
      let followed₁ = followed_front t es₁ es₂ (submitted_in x h e) (subst (λ (l : List Event). Followed (submitted_in x h e) l t) front followed) in
      let whole₁ = whole_front t es₁ es₂ (submitted_in x h e) (subst (λ (l : List Event). AllWhole (submitted_in x h e) l t) front whole) in
      (one_byte x h e t q a card es₁ followed₁ whole₁ i quiet).0 done lt;
  completed = λ i lt quiet. let z = one_byte x h e t q a card es followed whole i quiet in z.0 (λ named. clash (let y = sym (z.1 named) ∙ got in cc)) lt;
}

pub kept : Kept
unfolding Kept
kept x h e t q a card es followed c bytes more got ok = whole_stands x h e t q a card es followed (demand2.kept x h e t q a es followed c bytes more got ok).0 (c, bytes) more got
