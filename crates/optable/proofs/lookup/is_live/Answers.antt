-- `lookup::is_live` meets its contract, case by case.
use Rattle.std.proofs.Common.{◌≡◌, true, sym, refl, ap}
use Rattle.model.specs.declared.Awaits.{Awaits}
use Rattle.model.specs.declared.Awaits.TheVariants.{Nothing, Piece, Flush}
use Rattle.step.specs.Step.{is_live}
use Rattle.optable.proofs.lookup.is_live.Goals as goal

-- a row that awaits something is live
awaited : (w : Awaits) → (w ≡ Nothing → ⊥) → true ≡ is_live w
unfolding is_live
awaited Nothing other = absurd (other refl)
awaited (Piece k s) other = refl
awaited (Flush t) other = refl

pub returns-in-Nothing : goal.returns-in-Nothing
unfolding is_live
returns-in-Nothing c = sym (ap is_live c.in-Nothing.is)

pub returns-in_default : goal.returns-in_default
returns-in_default c = awaited c.args.awaits c.in_default.not-Nothing
