-- `lookup::writes_in` meets its contract, case by case.
use Rattle.std.proofs.Common.{◌≡◌, false, sym, refl, ap, ◌∙◌}
use Rattle.model.specs.declared.Awaits.{Awaits}
use Rattle.model.specs.declared.Awaits.TheVariants.{Nothing, Piece, Flush}
use Rattle.model.specs.declared.Kind.{Kind}
use Rattle.model.specs.declared.Kind.TheVariants.{Page, Read}
use Rattle.model.specs.declared.Split.{Split}
use Rattle.step.specs.Step.{writes_in}
use Rattle.optable.specs.Looked.{is_page}
use Rattle.optable.proofs.lookup.writes_in.Goals as goal

-- a write is a page's
of-piece : (k : Kind) (s : Split) → is_page k ≡ writes_in (Piece k s)
unfolding is_page writes_in
of-piece (Page a b) s = refl
of-piece (Read a b) s = refl

-- and where no piece is awaited no write is
no_piece : (w : Awaits) → ((k : Kind) → (s : Split) → w ≡ Piece k s → ⊥) → false ≡ writes_in w
unfolding writes_in
no_piece Nothing other = refl
no_piece (Piece k s) other = absurd (other k s refl)
no_piece (Flush t) other = refl

pub returns-in-Piece : goal.returns-in-Piece
returns-in-Piece c = c.is_page.ensures ∙ of-piece _ _ ∙ sym (ap writes_in c.in-Piece.is)

pub returns-in_default : goal.returns-in_default
returns-in_default c = no_piece c.args.awaits c.in_default.not-Piece
