-- The events of one of demand 3's lists, one by one: what each comes to, and that its table is one of a history.
use mathlib.Core.Path.{◌≡◌}
use mathlib.Core.Bool.{true}
use mathlib.Core.List.{List, [], ◌∷◌}
use Prim.Native.Nat.{ℕ, zero, suc}
use lib.ListN.{take}
use Rattle.model.specs.declared.Kind.TheVariants.{Page, Read}
use Rattle.model.specs.declared.Awaits.{Awaits}
use Rattle.model.specs.declared.Awaits.TheVariants.{Nothing, Piece, Flush}
use Rattle.model.specs.declared.Row.{Row}
use Rattle.model.specs.State.{State}
use Rattle.step.specs.Questions.{region_at}
use Rattle.step.specs.Rules.{Input, Input.answered, Input.flushed}
use Rattle.step.specs.Step.{row_at}
use Rattle.step.specs.Run.{Event, leave, next, reply_to, Start}
use Rattle.step.specs.Lists.{plan_at, HostMay, Hosted}
use Rattle.step.specs.Alone.{Alones}
use Rattle.step.specs.Demand3.{is_listed, FairTo, Fair, Fits}
use Rattle.step.proofs.ProjectionReached.{Reached, next_alone, reached_left, reached_next}
use Rattle.step.proofs.ListsBrought.{listed_is}
use Rattle.step.proofs.ListsCame.{Came, FairCall, came}
use Rattle.step.proofs.ListsRows.{Moved, row_moved}

-- the host's writes do not bear on what is fair
fair_left : (s : State) (pool : List ℕ) (r : Row) (a : Awaits) (i : Input) → FairTo s r a i → FairTo (leave s pool) r a i
unfolding FairTo plan_at region_at leave
fair_left s pool r Nothing i f = f
fair_left s pool r (Piece (Page a b) sp) (answered x back flushes) f = f
fair_left s pool r (Piece (Page a b) sp) (flushed result) f = f
fair_left s pool r (Piece (Read a b) sp) (answered x back flushes) f = f
fair_left s pool r (Piece (Read a b) sp) (flushed result) f = f
fair_left s pool r (Flush t) i f = f

module _ (x : Start) (s : State) (a : Alones) (k : Reached x s a) (e : Event) (es : List Event) (f : Fits s (e ∷ es)) where
  abbrev s₁ : State
  s₁ = leave s e.leaves

  pub host_may : HostMay s e.leaves
  unfolding Fits
  host_may = f.0

  pub listed : is_listed e.made ≡ true
  unfolding Fits
  listed = f.1

  pub behind : Fits (next s e) es
  unfolding Fits
  behind = f.3

  pub fair_next : FairCall s₁ e.lengths e.made
  unfolding Fits Fair row_at leave reply_to
  fair_next i b h = fair_left s e.leaves _ _ i (f.2 i b h)

  pub came_next : Came s₁ e.lengths e.made
  came_next = came s₁ (reached_left x s a k e.leaves host_may).sound e.lengths e.made (listed_is e.made listed) fair_next

  pub reached : Reached x (next s e) (next_alone x s a e)
  reached = reached_next x s a k e host_may

  pub moved : (r : ℕ) → Moved (row_at s r) (row_at (next s e) r)
  unfolding next row_at leave
  moved r = row_moved s₁ e.lengths e.made came_next r

pub fits_hosted : (s : State) (l : List Event) → Fits s l → Hosted s l
unfolding Fits Hosted
fits_hosted s [] f = tt
fits_hosted s (e ∷ l) f = (f.0, fits_hosted (next s e) l f.3)

pub hosted_take : (s : State) (n : ℕ) (l : List Event) → Hosted s l → Hosted s (take n l)
unfolding Hosted
hosted_take s zero l h = tt
hosted_take s (suc n) [] h = tt
hosted_take s (suc n) (e ∷ l) h = (h.0, hosted_take (next s e) n l h.1)
