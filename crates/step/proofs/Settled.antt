-- An answer or a flush result leaves a sound table, whatever becomes of the operation.
use mathlib.Core.Path.{◌≡◌}
use mathlib.Core.Bool.{true}
use mathlib.Core.List.{[], ◌∷◌}
use mathlib.Core.Option.{none}
use Prim.Native.Nat.{ℕ, ◌+◌, ◌<◌, ◌^◌}
use native.Mathlib.Nat.{mod-lt}
use lib.Dec.{lit<}
use Rattle.completion.specs.declared.Reply.{Reply}
use Rattle.model.specs.declared.Row.{Row}
use Rattle.model.specs.State.{Owner.host, Owner.table, State}
use Rattle.step.specs.Rules.{Input, Fate, Fate.away, Fate.awaits, Fate.ends, Fate.rejected}
use Rattle.step.specs.Step.{row_at, row_of, names, raised, kept_by, completion_of, settled, fate_of, under_tag}
use Rattle.step.specs.Sound.{Sound}
use Rattle.step.proofs.Picked.{by_pick}
use Rattle.step.proofs.Named.{named_live, named_below}
use Rattle.step.proofs.Fates.{Fitting, FateFits, fate_fits}
use Rattle.step.proofs.Going.{keeps_going}
use Rattle.step.proofs.Freed.{goes_completed, goes_back, keeps_freeing}

raised_small : (g : ℕ) → raised g < 2 ^ 32
unfolding raised
raised_small g = mod-lt (g + 1) (lit< tt)

module _ (s : State) (i : Sound s) (t : ℕ) where
  abbrev row : Row
  row = row_at s (row_of t)

  keeps_settled : names row t ≡ true → (f : Fate) → FateFits s row f → Sound (settled s t row f).0
  unfolding settled Fitting
  keeps_settled found (away f) w = i
  keeps_settled found (awaits a bytes) w = keeps_going s i (row_of t) (named_below s i t found) (named_live s i t found) a w.0 bytes w.1
  keeps_settled found (ends ending) w =
      keeps_freeing s i (row_of t) (named_below s i t found) (named_live s i t found) (raised row.generation) (raised_small row.generation)
      (completion_of row ending.outcome ending.buffer ∷ []) (kept_by table ending.buffer) (goes_completed row.buffer row ending.outcome ending.buffer w.0) ending.bytes ending.cause w.1
  keeps_settled found (rejected e b bytes) w =
      keeps_freeing s i (row_of t) (named_below s i t found) (named_live s i t found) row.generation (i.generations (row_of t) (named_below s i t found))
      [] (kept_by host b) (goes_back row.buffer b) bytes none w.2

  pub keeps_under : (x : Input) → Sound (under_tag s t x).0
  unfolding under_tag
  keeps_under x = by_pick (names row t) (λ (z : State × Reply). Sound z.0) (λ found. keeps_settled found (fate_of s row x) (fate_fits s row x)) (λ none_live. i)
