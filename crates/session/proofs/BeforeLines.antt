-- A line before `open`: by what the line says, the definition computes.
use mathlib.Core.Path.{◌≡◌, refl, sym, ◌∙◌, subst}
use mathlib.Core.List.{List, []}
use Prim.Native.Nat.{ℕ}
use Rattle.model.specs.declared.Opening.{Opening}
use Rattle.parser.specs.declared.preamble.OpenLine.{OpenLine}
use Rattle.parser.specs.declared.preamble.OpenLine.TheVariants.{Comment, Open, Region, Start, Bad}
use Rattle.parser.specs.Openings.{open_line_read}
use Rattle.printer.specs.Texts.{bad_text}
use Rattle.session.specs.declared.Stage.TheVariants.{Before, Planned}
use Rattle.session.specs.Unopened.{Stood, at_stage, Tells, before_line}

other_before : (x : OpenLine) → (x ≡ Comment → ⊥) → ((o : Opening) → x ≡ Open o → ⊥) → (n : ℕ) (s : Stood) (text : List ℕ) → text ≡ bad_text n → Tells (before_line x n s) (at_stage Before s) text
unfolding before_line
other_before Comment w v n s text p = absurd (w refl)
other_before (Open o) w v n s text p = absurd (v o refl)
other_before Region w v n s text p = (refl, p)
other_before Start w v n s text p = (refl, p)
other_before Bad w v n s text p = (refl, p)

module _ (line : OpenLine) (bytes : List ℕ) (read : line ≡ open_line_read bytes) (n : ℕ) (s : Stood) where
  pub comment_before : line ≡ Comment → Tells (before_line (open_line_read bytes) n s) (at_stage Before s) []
  unfolding before_line
  comment_before e = subst (λ (x : OpenLine). Tells (before_line x n s) (at_stage Before s) []) (sym e ∙ read) (refl, refl)

  pub open_before : (o : Opening) → line ≡ Open o → Tells (before_line (open_line_read bytes) n s) (at_stage (Planned o) s) []
  unfolding before_line
  open_before o e = subst (λ (x : OpenLine). Tells (before_line x n s) (at_stage (Planned o) s) []) (sym e ∙ read) (refl, refl)

  pub bad_before : (line ≡ Comment → ⊥) → ((o : Opening) → line ≡ Open o → ⊥) → (text : List ℕ) → text ≡ bad_text n → Tells (before_line (open_line_read bytes) n s) (at_stage Before s) text
  bad_before w v text p = subst (λ (x : OpenLine). Tells (before_line x n s) (at_stage Before s) text) read (other_before line w v n s text p)
