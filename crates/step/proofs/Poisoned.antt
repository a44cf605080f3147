-- The first cause is kept: a call leaves the poison of a poisoned store as it was. Only a write's end and a report touch it, and both keep the first.
use mathlib.Core.Path.{◌≡◌, ap}
use mathlib.Core.Option.{Option, none, some}
use Prim.Native.Nat.{ℕ}
use Rattle.domain.specs.declared.FirstCause.{FirstCause}
use Rattle.std.specs.declared.option.Option.{Option as StdOption}
use Rattle.std.specs.declared.option.Option.TheVariants.{Some}
use Rattle.domain.specs.Domain.{first_kept}
use Rattle.completion.specs.declared.Reply.{Reply}
use Rattle.model.specs.declared.Lengths.{Lengths}
use Rattle.model.specs.declared.Row.{Row}
use Rattle.model.specs.declared.Call.{Call}
use Rattle.model.specs.State.{State}
use Rattle.step.specs.Rules.{Fate, Fate.away, Fate.awaits, Fate.ends, Fate.rejected}
use Rattle.step.specs.Step.{submitted, accepted, row_at, row_of, poison_with, going, freeing, settled, fate_of, taken, with_regions, with_poison, step}
use Rattle.step.proofs.Calls.{by_step}

module _ (s : State) (first : FirstCause) (is : s.poison ≡ Some first) where
  abbrev Keeps : State × Reply → Type 0
  Keeps z = z.0.poison ≡ Some first

  kept_with : (cause : Option FirstCause) → poison_with s.poison cause ≡ Some first
  unfolding poison_with
  kept_with none = is
  kept_with (some c) = ap (λ (p : StdOption FirstCause). first_kept p c) is

  settled_keeps : (t : ℕ) (row : Row) (f : Fate) → Keeps (settled s t row f)
  unfolding settled going freeing
  settled_keeps t row (away f) = is
  settled_keeps t row (awaits a bytes) = is
  settled_keeps t row (ends ending) = kept_with ending.cause
  settled_keeps t row (rejected e b bytes) = kept_with none

  pub first_kept_lem : (l : Lengths) (c : Call) → Keeps (step s l c)
  unfolding submitted accepted taken with_regions with_poison
  first_kept_lem =
      by_step s Keeps (λ x. is) (λ q r k p. is) (λ t i. let r = row_at s (row_of t) in settled_keeps t r (fate_of s r i)) (λ c more. is) (λ h g e. is) (λ cause. ap (λ (p : StdOption FirstCause). first_kept p cause) is)
