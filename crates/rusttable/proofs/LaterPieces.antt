-- The piece that the reply to an answer issues is a later one: the piece that was answered was not empty, so bytes are done before it.
use mathlib.Core.Path.{◌≡◌, refl, sym, ap, ◌∙◌, subst}
use mathlib.Core.Bool.{Bool, true}
use mathlib.Core.Option.{some}
use Prim.Native.Nat.{ℕ, ◌<◌}
use native.Mathlib.Omega.{arith}
use borrow.Author.Tests.{lt-ltb}
use Rattle.std.specs.declared.option.Option.{Option}
use Rattle.platform.specs.declared.Answer.{Answer}
use Rattle.completion.specs.Buffers.{Buffer}
use Rattle.completion.specs.declared.Reply.{Reply}
use Rattle.model.specs.declared.Kind.{Kind}
use Rattle.model.specs.declared.Lengths.{Lengths}
use Rattle.model.specs.declared.Split.{Split}
use Rattle.model.specs.declared.Awaits.{Awaits}
use Rattle.model.specs.declared.Awaits.TheVariants.{Nothing, Piece, Flush}
use Rattle.model.specs.declared.Row.{Row}
use Rattle.model.specs.declared.Call.TheVariants.{Answer as Answers}
use Rattle.model.specs.State.{State}
use Rattle.model.specs.Opening.{Plan}
use Rattle.step.specs.Questions.{region_at}
use Rattle.step.specs.Rules.{split_after, Input.answered, Fate, Fate.away, Fate.awaits, Fate.ends, Fate.rejected}
use Rattle.step.specs.Step.{row_at, row_of, names, awaits_now, going, asks_for, rejection, settled, fate_of, called, step}
use Rattle.step.specs.Sound.{Sound}
use Rattle.step.proofs.AloneTags.{clash}
use Rattle.step.proofs.Fates.{Follows, Fitting, FateFits, fate_fits}
use Rattle.step.specs.Alone.{tag_given}
use Rattle.rusttable.specs.Domain.{compared}
use Rattle.rusttable.specs.AsStep.{is_later}
use Rattle.rusttable.proofs.Within.{called_step, found_under}
use Rattle.rusttable.proofs.Pieces.{row_going, some_bytes}

-- a rejection issues none
pub none_issued : (g : Plan) (a : Awaits) (x : Option ℕ) (b : Buffer) (u : ℕ) → tag_given (rejection g a x b) ≡ some u → ⊥
unfolding tag_given rejection
none_issued g Nothing x b u e = clash (cc)
none_issued g (Piece k sp) x b u e = clash (cc)
none_issued g (Flush ticket) x b u e = clash (cc)

module _ (s : State) (i : Sound s) (t : ℕ) (found : names (row_at s (row_of t)) t ≡ true) where
  abbrev row : Row
  row = row_at s (row_of t)

  some_done : (k : Kind) (sp : Split) (was : Awaits) → row.awaits ≡ was → Follows (region_at s row.handle) was (Piece k sp) → 0 < sp.done
  unfolding Follows split_after
  some_done k sp Nothing e f = absurd f
  some_done k sp (Flush ticket) e f = absurd f
  some_done k sp (Piece k₀ sp₀) e f = let z = some_bytes s i t found k₀ sp₀ e in let q = ap (λ (x : Split). x.done) f.1 in omega (arith, z, q)

  fate_later : (u : ℕ) (f : Fate) → FateFits s row f → tag_given (settled s t row f).1 ≡ some u → is_later (row_at (settled s t row f).0 (row_of u)).awaits ≡ true
  unfolding settled Fitting tag_given asks_for is_later going awaits_now
  fate_later u (away f) fits e = clash (cc)
  fate_later u (ends ending) fits e = clash (cc)
  fate_later u (rejected x b bytes) fits e = absurd (none_issued _ row.awaits x b u e)
  fate_later u (awaits Nothing bytes) fits e = clash (cc)
  fate_later u (awaits (Flush ticket) bytes) fits e = clash (cc)
  fate_later u (awaits (Piece k sp) bytes) fits e =
      let same : t ≡ u = cc in
      let to = going s (row_of t) row (Piece k sp) bytes in
      let at = row_going s t found (Piece k sp) bytes in
      ap (λ (n : ℕ). is_later (row_at to (row_of n)).awaits) (sym same) ∙ ap (λ (r : Row). is_later r.awaits) at ∙ lt-ltb 0 sp.done (some_done k sp row.awaits refl fits.0.follows)

pub later_piece : (s : State) (l : Lengths) (t : ℕ) (a : Answer) (back : Bool) (flushes : ℕ) → Sound s → compared (step s l (Answers t a back flushes)).1 ≡ true
    → (u : ℕ) → tag_given (step s l (Answers t a back flushes)).1 ≡ some u → is_later (row_at (step s l (Answers t a back flushes)).0 (row_of u)).awaits ≡ true
unfolding called
later_piece s l t a back flushes i h u =
    let z = called_step s l (Answers t a back flushes) h in
    let x = answered a back flushes in
    let f = found_under s t x (subst (λ (y : State × Reply). compared y.1 ≡ true) z h) in
    subst (λ (y : State × Reply). tag_given y.1 ≡ some u → is_later (row_at y.0 (row_of u)).awaits ≡ true) (sym (z ∙ f.settles))
    (fate_later s i t f.names_row u (fate_of s (row_at s (row_of t)) x) (fate_fits s (row_at s (row_of t)) x))
