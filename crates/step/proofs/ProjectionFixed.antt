-- What no call changes: beside the settings and the lengths (Histories) the regions, but for their marks.
use mathlib.Core.Path.{◌≡◌, refl, sym, ap, ◌∙◌}
use mathlib.Core.List.{List, []}
use Prim.Native.Nat.{ℕ}
use lib.ListN.{get_or, set, get_or-map}
use lib.Seq.{map-set_same}
use Rattle.regionmap.specs.Words.{runs_in, map_in}
use Rattle.completion.specs.declared.Reply.{Reply}
use Rattle.model.specs.declared.Lengths.{Lengths}
use Rattle.model.specs.declared.Row.{Row}
use Rattle.model.specs.State.{Region, no_region, State}
use Rattle.model.specs.Opening.{Plan, at_first, opened, plan_in}
use Rattle.step.specs.Questions.{region_at}
use Rattle.step.specs.Rules.{Fate, Fate.away, Fate.awaits, Fate.ends, Fate.rejected}
use Rattle.step.specs.Step.{accepted, submitted, row_at, row_of, going, freeing, plan_of, settled, fate_of, taken, with_regions, with_poison}
use Rattle.step.specs.Run.{Made, Made.calls, Made.looks, Event, leave, done, next, Start, plans_of, opened_by}
use Rattle.step.proofs.Calls.{by_step}
use Rattle.step.proofs.Histories.{done_stays}

-- the regions as the opening was given them
abbrev pub SamePlans : State → State → Type 0
SamePlans s s' = (h : ℕ) → plan_of (region_at s' h) ≡ plan_of (region_at s h)

-- ---- each call

module _ (s : State) where
  abbrev Same : State × Reply → Type 0
  Same z = SamePlans s z.0

  settled_plans : (t : ℕ) (row : Row) (f : Fate) → Same (settled s t row f)
  unfolding settled going freeing region_at
  settled_plans t row (away f) h = refl
  settled_plans t row (awaits a bytes) h = refl
  settled_plans t row (ends ending) h = refl
  settled_plans t row (rejected e b bytes) h = refl

-- a region's marks are set
pub plans_set : (l : List Region) (h : ℕ) (g : Region) → plan_of g ≡ plan_of (get_or l h no_region) → (k : ℕ) → plan_of (get_or (set l h g) k no_region) ≡ plan_of (get_or l k no_region)
plans_set l h g e k =
    sym (get_or-map plan_of (set l h g) k no_region) ∙ ap (λ (ps : List Plan). get_or ps k (plan_of no_region)) (map-set_same plan_of l h g no_region e) ∙ get_or-map plan_of l k no_region

module _ (s : State) where
  done_plans : (l : Lengths) (m : Made) → Same s (done s l m)
  unfolding done submitted accepted taken with_regions with_poison region_at
  done_plans l (calls c) =
      by_step s (Same s) (λ x h. refl) (λ q r k p h. refl) (λ t i. let r = row_at s (row_of t) in settled_plans s t r (fate_of s r i))
      (λ d more h. refl) (λ h g e. plans_set s.regions h g e) (λ cause h. refl) l c
  done_plans l (looks x) = λ h. refl

pub next_plans : (s : State) (e : Event) → SamePlans s (next s e)
unfolding next leave region_at
next_plans s e = done_plans (leave s e.leaves) e.lengths e.made

-- ---- every table of a history has the opening's

pub record Fixed (x : Start) (s : State) : Type 0 where
  pub settings : s.settings ≡ x.opening
  pub lengths : s.lengths ≡ x.lengths
  pub plans : (h : ℕ) → plan_of (region_at s h) ≡ get_or (plans_of x) h (plan_in [])

pub fixed_opened : (x : Start) → Fixed x (opened_by x)
unfolding opened_by opened region_at no_region at_first plan_in map_in runs_in plan_of
fixed_opened x = record { settings = refl; lengths = refl; plans = λ h. ap plan_of (get_or-map at_first (plans_of x) h (plan_in [])) }

pub fixed_left : (x : Start) (s : State) (pool : List ℕ) → Fixed x s → Fixed x (leave s pool)
unfolding leave region_at
fixed_left x s pool f = record { settings = f.settings; lengths = f.lengths; plans = f.plans }

pub fixed_next : (x : Start) (s : State) (e : Event) → Fixed x s → Fixed x (next s e)
unfolding next leave
fixed_next x s e f =
    let z = done_stays (leave s e.leaves) e.lengths e.made in
    record { settings = z.settings ∙ f.settings; lengths = z.lengths ∙ f.lengths; plans = λ h. next_plans s e h ∙ f.plans h }
