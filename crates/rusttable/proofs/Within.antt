-- What a call in the domain is known by: its lengths are the opening's, and an answer or a flush result names a live row.
use mathlib.Core.Path.{◌≡◌, refl}
use mathlib.Core.Bool.{true}
use Prim.Native.Nat.{ℕ}
use Rattle.layout.proofs.Tests.{not_both}
use Rattle.completion.specs.declared.Reply.{Reply}
use Rattle.completion.specs.Numbers.{number}
use Rattle.model.specs.declared.Lengths.{Lengths}
use Rattle.model.specs.declared.Call.{Call}
use Rattle.model.specs.State.{State}
use Rattle.step.specs.Rules.{Input}
use Rattle.step.specs.Step.{row_at, row_of, names, settled, fate_of, under_tag, eq_lengths, called, step}
use Rattle.step.proofs.Picked.{by_pick}
use Rattle.rusttable.specs.Domain.{compared}

pub called_step : (s : State) (l : Lengths) (c : Call) → compared (step s l c).1 ≡ true → step s l c ≡ called s c
unfolding step compared number
called_step s l c = by_pick (eq_lengths l s.lengths) (λ (z : State × Reply). compared z.1 ≡ true → z ≡ called s c) (λ same h. refl) (λ other h. absurd (not_both h refl))

pub record Found (s : State) (t : ℕ) (x : Input) (z : State × Reply) : Type 0 where
  pub names_row : names (row_at s (row_of t)) t ≡ true
  pub settles : z ≡ settled s t (row_at s (row_of t)) (fate_of s (row_at s (row_of t)) x)

pub found_under : (s : State) (t : ℕ) (x : Input) → compared (under_tag s t x).1 ≡ true → Found s t x (under_tag s t x)
unfolding under_tag compared number
found_under s t x =
    by_pick (names (row_at s (row_of t)) t) (λ (z : State × Reply). compared z.1 ≡ true → Found s t x z)
    (λ found h. record { names_row = found; settles = refl })
    (λ other h. absurd (not_both h refl))
