-- A call that is turned away leaves the state as it was. Of the rules' replies only that of a rejection could turn away, and a rejection is that of a piece.
use mathlib.Core.Path.{◌≡◌, refl, ap}
use mathlib.Core.Bool.{false}
use Prim.Native.Nat.{ℕ}
use Rattle.layout.proofs.Tests.{not_both}
use Rattle.std.specs.declared.option.Option.{Option}
use Rattle.completion.specs.Buffers.{Buffer}
use Rattle.completion.specs.declared.Refusal.{Refusal}
use Rattle.completion.specs.declared.Reply.{Reply}
use Rattle.completion.specs.declared.Reply.TheVariants.{No as turnedAway}
use Rattle.model.specs.declared.Lengths.{Lengths}
use Rattle.model.specs.declared.Awaits.{Awaits}
use Rattle.model.specs.declared.Awaits.TheVariants.{Nothing, Piece, Flush}
use Rattle.model.specs.declared.Row.{Row}
use Rattle.model.specs.declared.Call.{Call}
use Rattle.model.specs.State.{State}
use Rattle.model.specs.Opening.{Plan}
use Rattle.step.specs.Questions.{region_at}
use Rattle.step.specs.Rules.{Fate, Fate.away, Fate.awaits, Fate.ends, Fate.rejected}
use Rattle.step.specs.Step.{row_at, submitted, row_of, asks_for, rejection, plan_of, settled, fate_of, taken, step}
use Rattle.step.specs.Lists.{is_away}
use Rattle.step.proofs.Calls.{by_step}
use Rattle.step.proofs.Fates.{AwaitsPiece, Fitting, FateFits, fate_fits}

-- ---- replies that do not turn away

never : (x : Reply) (f : Refusal) → is_away x ≡ false → x ≡ turnedAway f → ⊥
unfolding is_away
never x f e q = not_both (ap is_away q) e

pub asks : (g : Plan) (t b : ℕ) (a : Awaits) → is_away (asks_for g t b a) ≡ false
unfolding is_away asks_for
asks g t b Nothing = refl
asks g t b (Piece k s) = refl
asks g t b (Flush ticket) = refl

pub rejects : (g : Plan) (a : Awaits) (e : Option ℕ) (b : Buffer) → AwaitsPiece a → is_away (rejection g a e b) ≡ false
unfolding is_away rejection AwaitsPiece
rejects g Nothing e b p = absurd p
rejects g (Piece k s) e b p = refl
rejects g (Flush t) e b p = absurd p

-- ---- the calls

module _ (s : State) where
  abbrev Unchanged : State × Reply → Type 0
  Unchanged z = (f : Refusal) → z.1 ≡ turnedAway f → z.0 ≡ s

  settled_away : (t : ℕ) (r : Row) (f : Fate) → FateFits s r f → Unchanged (settled s t r f)
  unfolding settled Fitting is_away
  settled_away t r (away f) w g e = refl
  settled_away t r (awaits a bytes) w g e = absurd (never _ g (asks (plan_of (region_at s r.handle)) t r.buffer a) e)
  settled_away t r (ends ending) w g e = absurd (never _ g refl e)
  settled_away t r (rejected x b bytes) w g e = absurd (never _ g (rejects (plan_of (region_at s r.handle)) r.awaits x b w.0) e)

  pub turned_away : (l : Lengths) (c : Call) → Unchanged (step s l c)
  unfolding submitted taken is_away
  turned_away =
      by_step s Unchanged (λ x f e. refl) (λ q r k p f e. absurd (never _ f refl e)) (λ t i. let r = row_at s (row_of t) in settled_away t r (fate_of s r i) (fate_fits s r i))
      (λ c more f e. absurd (never _ f refl e)) (λ h g same f e. absurd (never _ f refl e)) (λ cause f e. absurd (never _ f refl e))
