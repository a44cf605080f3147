-- What an operation is served with, of the card bytes that are followed: each of its pieces is taken whole, of a read with the card's bytes, and no piece of another write is
-- under way on such a byte. Demand 2's suppositions are that of its whole range; what is known of a write counted as kept is that of each byte on which it was quiet.
use mathlib.Core.Path.{◌≡◌, ap, ◌∙◌}
use mathlib.Core.Logic.{◌≢◌}
use mathlib.Core.Bool.{true, false}
use mathlib.Core.Option.{some}
use mathlib.Core.List.{List, [], ◌∷◌}
use Prim.Native.Nat.{ℕ, ◌+◌, ◌<◌}
use Rattle.layout.proofs.Tests.{not_both}
use Rattle.regionmap.specs.Map.{Map, place}
use Rattle.posix.specs.Posix.{Card}
use Rattle.model.specs.State.{State}
use Rattle.model.specs.Opening.{Plan}
use Rattle.step.specs.Questions.{region_at}
use Rattle.step.specs.Rules.{Input}
use Rattle.step.specs.Step.{row_at, row_of, names, plan_of}
use Rattle.step.specs.Run.{Event, leave, next, reply_to}
use Rattle.step.specs.Lists.{brought, is_away, plan_at, card_by, HostMay}
use Rattle.step.specs.Demand2.{WholeTo, HoldsCard, TakenWhole, BeingWritten, Undisturbed, Served, Followed, AllWhole}
use Rattle.step.specs.Kept.{QuietAt}
use Rattle.step.proofs.ProjectionFixed.{next_plans}
use Rattle.step.proofs.Demand2Fate.{pages}
use Rattle.step.proofs.Demand2Task.{Task, mapped_to}

module _ (w : Task) where
  unfoldable pub Taken : State → Event → Card → Type 0
  Taken s e card = (i : Input) → brought w.tag e.made ≡ some i → is_away (reply_to s e) ≡ false
      → WholeTo s (row_at s (row_of w.tag)) (row_at s (row_of w.tag)).awaits i
      × (pages w.kind ≡ false → HoldsCard (leave s e.leaves) (row_at s (row_of w.tag)) (row_at s (row_of w.tag)).awaits card)

  unfoldable pub Clear : State → Type 0
  Clear s = (i : ℕ) → i < w.request.length → w.watched i ≡ true → (r : ℕ) → r ≢ row_of w.tag → BeingWritten (plan_at s (row_at s r)) (row_at s r).awaits (mapped_to w i) → ⊥

  unfoldable pub ServedOf : State → List Event → Card → Type 0
  ServedOf s [] card = Unit {0}
  ServedOf s (e ∷ es) card = (names (row_at s (row_of w.tag)) w.tag ≡ true) × HostMay s e.leaves × Taken s e card × Clear s × ServedOf (next s e) es (card_by s e card)

  abbrev pub MapIs : State → Type 0
  MapIs s = (region_at s w.request.handle).map ≡ w.map

  pub map_next : (s : State) (e : Event) → MapIs s → MapIs (next s e)
  unfolding plan_of
  map_next s e is = ap (λ (g : Plan). g.map) (next_plans s e w.request.handle) ∙ is

  -- by demand 2's suppositions
  pub served_of : (es : List Event) (s : State) (card : Card) → MapIs s → Served s es w.tag w.request card → ServedOf s es card
  unfolding Served ServedOf Taken TakenWhole Clear Undisturbed
  served_of [] s card is served = tt
  served_of (e ∷ es) s card is served = (
    served.0,
    served.1,
    λ i bt heard. let z = served.2 i bt heard in (z.0, λ reads. z.1),
    λ i lt on r other written. served.3 r i (mapped_to w i) other written lt (ap (λ (m : Map). place m (w.request.offset.0 + i)) is),
    served_of es (next s e) (card_by s e card) (map_next s e is) served.4,
  )

  -- a write whose answered pieces were all taken whole, of bytes on which it was quiet
  pub quiet_of : pages w.kind ≡ true → (es : List Event) (s : State) (card : Card) → Followed s es w.tag → AllWhole s es w.tag
      → ((i : ℕ) → i < w.request.length → w.watched i ≡ true → QuietAt s es w.tag (mapped_to w i)) → ServedOf s es card
  unfolding Followed AllWhole QuietAt ServedOf Taken Clear
  quiet_of page [] s card followed whole quiet = tt
  quiet_of page (e ∷ es) s card followed whole quiet = (
    followed.0,
    followed.1,
    λ i bt heard. (whole.0 i bt heard, λ reads. absurd (not_both page reads)),
    λ i lt on. (quiet i lt on).0,
    quiet_of page es (next s e) (card_by s e card) followed.2 whole.1 (λ i lt on. (quiet i lt on).1),
  )
