-- The tables of a history, with the operations alone beside them: an opening leaves such a pair, and every event that the host may make leaves another.
use mathlib.Core.Path.{◌≡◌, refl, sym, ap, ◌∙◌}
use mathlib.Core.Bool.{false}
use mathlib.Core.List.{List, [], ◌∷◌, ◌++◌}
use Prim.Native.Nat.{ℕ}
use lib.ListN.{get_or-map}
use Rattle.layout.proofs.Tests.{not_both}
use Rattle.regionmap.specs.Words.{runs_in, map_in}
use Rattle.model.specs.declared.Row.{Row}
use Rattle.model.specs.State.{Region, no_region, State, freed}
use Rattle.model.specs.Opening.{at_first, opened, plan_in}
use Rattle.step.specs.Questions.{region_at}
use Rattle.step.specs.Step.{row_at, is_live}
use Rattle.step.specs.Sound.{Sound}
use Rattle.step.specs.Run.{Event, leave, next, reply_to, run, Start, plans_of, opened_by}
use Rattle.step.specs.Lists.{HostMay, Hosted}
use Rattle.step.specs.Alone.{Alones, none_yet, alone_next, alones}
use Rattle.step.specs.Demand3.{Projected}
use Rattle.step.proofs.Counts.{all_alike}
use Rattle.step.proofs.Opened.{opened_sound}
use Rattle.step.proofs.Histories.{leaves, keeps_next}
use Rattle.step.proofs.Laws.{keeps}
use Rattle.step.proofs.AloneTags.{clash, freed_dead}
use Rattle.step.proofs.ProjectionFixed.{Fixed, fixed_opened, fixed_left, fixed_next}
use Rattle.step.proofs.ProjectionRows.{projected_left}
use Rattle.step.proofs.ProjectionCalls.{projected_done}
use Rattle.model.proofs.Maps.{plans_length}

pub record Reached (x : Start) (s : State) (a : Alones) : Type 0 where
  pub sound : Sound s
  pub fixed : Fixed x s
  pub projected : Projected s a

-- the operations alone after an event, and after a list of events
abbrev pub next_alone : Start → State → Alones → Event → Alones
next_alone x s a e = alone_next x.opening x.lengths a e (reply_to s e)

abbrev pub run_alone : Start → State → Alones → List Event → Alones
run_alone x s a l = alones x.opening x.lengths s a l

-- ---- the opening

opened_dead : (x : Start) (r : ℕ) → is_live (row_at (opened_by x) r).awaits ≡ false
unfolding opened_by opened row_at
opened_dead x r = ap (λ (y : Row). is_live y.awaits) (all_alike x.opening.depth r (freed 0)) ∙ freed_dead 0

opened_unforced : (x : Start) (h : ℕ) → (region_at (opened_by x) h).forced ≡ false
unfolding opened_by opened region_at no_region at_first plan_in map_in runs_in
opened_unforced x h = ap (λ (g : Region). g.forced) (get_or-map at_first (plans_of x) h (plan_in []))

pub projected_opened : (x : Start) → Projected (opened_by x) (none_yet (plans_of x))
unfolding none_yet
projected_opened x = record {
  each = λ r live. absurd (not_both live (opened_dead x r));
  only = λ t g r bytes e. clash (cc);
  regions = unfold opened_by opened plans_of in plans_length x.opening.regions x.plan;
  plans = λ h. sym ((fixed_opened x).plans h);
  forced = λ h lt. sym (opened_unforced x h);
  first = unfold opened_by opened in refl;
  count = unfold opened_by opened in refl;
}

module _ (x : Start) where
  pub reached_opened : Reached x (opened_by x) (none_yet (plans_of x))
  unfolding opened_by plans_of
  reached_opened = record {
    sound = opened_sound x.opening x.plan x.lengths x.pool x.admitted x.whole;
    fixed = fixed_opened x;
    projected = projected_opened x;
  }

  -- ---- an event

  pub reached_left : (s : State) (a : Alones) → Reached x s a → (pool : List ℕ) → HostMay s pool → Reached x (leave s pool) a
  reached_left s a k pool m = record {
    sound = leaves s pool k.sound m.count;
    fixed = fixed_left x s pool k.fixed;
    projected = projected_left s k.sound a k.projected pool m;
  }

  pub reached_next : (s : State) (a : Alones) → Reached x s a → (e : Event) → HostMay s e.leaves → Reached x (next s e) (next_alone x s a e)
  unfolding next reply_to alone_next leave
  reached_next s a k e m =
      let z = reached_left s a k e.leaves m in
      let s' = leave s e.leaves in
      record {
        sound = keeps_next keeps s e k.sound m.count;
        fixed = fixed_next x s e k.fixed;
        projected = projected_done x s' z.sound z.fixed a z.projected e.lengths e.made;
      }

  -- ---- a list of events

  pub reached_run : (s : State) (a : Alones) → Reached x s a → (l : List Event) → Hosted s l → Reached x (run s l) (run_alone x s a l)
  unfolding run alones Hosted
  reached_run s a k [] h = k
  reached_run s a k (e ∷ l) h = reached_run (next s e) (next_alone x s a e) (reached_next s a k e h.0) l h.1

pub run_append : (s : State) (h l : List Event) → run s (h ++ l) ≡ run (run s h) l
unfolding run
run_append s [] l = refl
run_append s (e ∷ h) l = run_append (next s e) h l

pub alone_append : (x : Start) (s : State) (a : Alones) (h l : List Event) → run_alone x s a (h ++ l) ≡ run_alone x (run s h) (run_alone x s a h) l
unfolding run alones
alone_append x s a [] l = refl
alone_append x s a (e ∷ h) l = alone_append x (next s e) (next_alone x s a e) h l
