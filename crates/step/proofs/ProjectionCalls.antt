-- Every call keeps the projection, and so does every event that the host may make.
use mathlib.Core.Path.{◌≡◌, refl, sym, ap, ◌∙◌, subst}
use mathlib.Core.Bool.{Bool, true, false}
use mathlib.Core.List.{List, [], ◌∷◌}
use Prim.Native.Nat.{ℕ, ◌<◌}
use native.Mathlib.Decide.{ℕ_discrete}
use native.Mathlib.Omega.{arith}
use borrow.Author.Tests.{ltb-true}
use lib.Dec.{ltb}
use lib.ListN.{get_or, set, get_or-map}
use lib.Seq.{get_or-set_same, get_or-set_other, map-set_same}
use Rattle.layout.specs.Pick.{pick}
use Rattle.completion.specs.declared.Completion.{Completion}
use Rattle.completion.specs.declared.Context.TheVariants.{None as bare}
use Rattle.completion.specs.declared.Refusal.TheVariants.{ForeignPosition, Unfit}
use Rattle.completion.specs.declared.Reply.{Reply}
use Rattle.completion.specs.declared.Reply.TheVariants.{No as turnedAway}
use Rattle.domain.specs.declared.FirstCause.{FirstCause}
use Rattle.domain.specs.Domain.{first_kept}
use Rattle.model.specs.declared.Lengths.{Lengths}
use Rattle.model.specs.declared.Call.{Call}
use Rattle.model.specs.declared.Call.TheVariants.{Write, ReadPage, Answer, Flushed, Take, SetGate, SetReadOnly, SetForced, ReportPoison}
use Rattle.model.specs.State.{Region, no_region, State}
use Rattle.step.specs.Questions.{region_at}
use Rattle.step.specs.Rules.{Input.answered, Input.flushed}
use Rattle.step.specs.Step.{write_verdict, read_verdict, plan_of, taken, with_regions, with_poison, marked, with_gate, with_read_only, with_forced, called, eq_lengths, step}
use Rattle.step.specs.Sound.{Sound}
use Rattle.step.specs.Run.{Made, Made.calls, Made.looks, done, Start}
use Rattle.step.specs.Alone.{Alones, put_at, heard_call, heard, first_as, forced_as}
use Rattle.step.specs.Demand3.{Projected}
use Rattle.step.proofs.Picked.{by_pick}
use Rattle.step.proofs.Answers.{write_passed, read_passed}
use Rattle.step.proofs.ProjectionFixed.{Fixed, plans_set}
use Rattle.step.proofs.ProjectionSet.{put_here, put_there}
use Rattle.step.proofs.ProjectionRows.{projected_rows, alike_kept}
use Rattle.step.proofs.ProjectionFed.{projected_fed}
use Rattle.step.proofs.ProjectionAccepted.{projected_submitted}

-- ---- the calls that replace no row

projected_taken : (s : State) (a : Alones) → Projected s a → (l : List Completion) → Projected (taken s l).0 a
unfolding taken region_at
projected_taken s a p [] = p
projected_taken s a p (c ∷ more) =
    projected_rows s (taken s (c ∷ more)).0 a a p
    (record { rows = refl; alike = λ r live. alike_kept s (taken s (c ∷ more)).0 refl refl (λ h. refl) _; regions = λ h. refl; settings = refl; plans = refl; ops = λ t. refl; forced = p.forced; first = p.first; count = p.count })

projected_poison : (s : State) (a : Alones) → Projected s a → (cause : FirstCause)
    → Projected (with_poison s (first_kept s.poison cause)) (first_as (first_kept a.first cause) a)
unfolding with_poison region_at
projected_poison s a p cause =
    projected_rows s (with_poison s (first_kept s.poison cause)) a _ p
    (record { rows = refl; alike = λ r live. alike_kept s (with_poison s (first_kept s.poison cause)) refl refl (λ h. refl) _; regions = λ h. refl; settings = refl; plans = refl; ops = λ t. refl; forced = p.forced; first = ap (λ w. first_kept w cause) p.first; count = p.count })

-- a region's marks, and the forced marks of the operations alone with them
module _ (s : State) (a : Alones) (p : Projected s a) (h : ℕ) (g : Region) (plan : plan_of g ≡ plan_of (region_at s h)) where
  projected_set_mark : (forced : ℕ → Bool) → ((k : ℕ) → k < s.settings.regions → forced k ≡ (get_or (set s.regions h g) k no_region).forced)
      → Projected (with_regions s (set s.regions h g)) (forced_as forced a)
  unfolding with_regions region_at
  projected_set_mark forced e =
      projected_rows s (with_regions s (set s.regions h g)) a _ p
      (record {
        rows = refl;
        alike = λ r live. alike_kept s (with_regions s (set s.regions h g)) refl refl (plans_set s.regions h g plan) _;
        regions = plans_set s.regions h g plan;
        settings = refl;
        plans = refl;
        ops = λ t. refl;
        forced = e;
        first = p.first;
        count = p.count;
      })

  -- another mark
  projected_marked : g.forced ≡ (region_at s h).forced → Projected (marked s h g).0 a
  unfolding marked region_at
  projected_marked e =
      by_pick (ltb h s.settings.regions) (λ (z : State × Reply). Projected z.0 a) (λ known. projected_set_mark a.forced (λ k lt. p.forced k lt ∙ sym (forced k))) (λ unknown. p)
    where
      forced : (k : ℕ) → (get_or (set s.regions h g) k no_region).forced ≡ (get_or s.regions k no_region).forced
      forced k =
          sym (get_or-map (λ (y : Region). y.forced) (set s.regions h g) k no_region)
          ∙ ap (λ (l : List Bool). get_or l k no_region.forced) (map-set_same (λ (y : Region). y.forced) s.regions h g no_region e)
          ∙ get_or-map (λ (y : Region). y.forced) s.regions k no_region

  -- the forced mark
  projected_forced : Sound s → Projected (marked s h g).0 (pick (ltb h s.settings.regions) (forced_as (put_at h g.forced a.forced) a) a)
  unfolding marked pick region_at
  projected_forced i = by_handle (ltb h s.settings.regions) _ refl
    where
      to_forced : Alones
      to_forced = forced_as (put_at h g.forced a.forced) a

      forced : h < s.settings.regions → (k : ℕ) → k < s.settings.regions → put_at h g.forced a.forced k ≡ (get_or (set s.regions h g) k no_region).forced
      forced lt k lk = by_case (ℕ_discrete h k)
        where
          by_case : Dec (h ≡ k) → put_at h g.forced a.forced k ≡ (get_or (set s.regions h g) k no_region).forced
          by_case (yes e) =
              subst (λ (n : ℕ). put_at h g.forced a.forced n ≡ (get_or (set s.regions h g) n no_region).forced) e
              (put_here h g.forced a.forced ∙ ap (λ (y : Region). y.forced) (sym (get_or-set_same s.regions h g no_region (let c = i.regions in omega (arith, lt, c)))))
          by_case (no n) =
              put_there h k g.forced a.forced n ∙ p.forced k lk ∙ ap (λ (y : Region). y.forced) (sym (get_or-set_other s.regions h k g no_region (λ e. n (sym e))))

      by_handle : (b : Bool) (reply : Reply) → ltb h s.settings.regions ≡ b → Projected (pick {A = State × Reply} b (with_regions s (set s.regions h g), reply) (s, turnedAway (ForeignPosition bare))).0 (pick b to_forced a)
      by_handle true reply e = projected_set_mark (put_at h g.forced a.forced) (forced (ltb-true h s.settings.regions e))
      by_handle false reply e = p

-- ---- every call

module _ (x : Start) (s : State) (i : Sound s) (fx : Fixed x s) (a : Alones) (p : Projected s a) where
  abbrev heard_by : Call → Alones
  heard_by c = heard_call x.opening x.lengths a s.pool c (called s c).1

  pub projected_called : (c : Call) → Projected (called s c).0 (heard_by c)
  unfolding called heard_call write_verdict read_verdict with_gate with_read_only with_forced plan_of
  projected_called (Write q) = projected_submitted x s i fx a p _ q _ (write_passed s q)
  projected_called (ReadPage q) = projected_submitted x s i fx a p _ q _ (read_passed s q)
  projected_called (Answer t y back flushes) = projected_fed x s i fx a p t (answered y back flushes)
  projected_called (Flushed t result) = projected_fed x s i fx a p t (flushed result)
  projected_called Take = projected_taken s a p s.ready
  projected_called (SetGate h y) = projected_marked s a p h (with_gate (region_at s h) y) refl refl
  projected_called (SetReadOnly h y) = projected_marked s a p h (with_read_only (region_at s h) y) refl refl
  projected_called (SetForced h y) =
      subst (λ (n : ℕ). Projected (marked s h (with_forced (region_at s h) y)).0 (pick (ltb h n) (forced_as (put_at h y a.forced) a) a)) (sym p.regions)
      (projected_forced s a p h (with_forced (region_at s h) y) refl i)
  projected_called (ReportPoison cause) = projected_poison s a p cause

  -- with its lengths, or a lookup
  pub projected_done : (l : Lengths) (m : Made) → Projected (done s l m).0 (pick (eq_lengths l x.lengths) (heard x.opening x.lengths a s.pool m (done s l m).1) a)
  unfolding done step pick heard
  projected_done l (calls c) =
      subst (λ (o : Lengths). Projected (step s l c).0 (pick (eq_lengths l o) (heard_call x.opening x.lengths a s.pool c (step s l c).1) a)) fx.lengths (by_lengths (eq_lengths l s.lengths))
    where
      by_lengths : (b : Bool)
          → Projected (pick b (called s c) (s, turnedAway Unfit)).0 (pick b (heard_call x.opening x.lengths a s.pool c (pick b (called s c) (s, turnedAway Unfit)).1) a)
      by_lengths true = projected_called c
      by_lengths false = p
  projected_done l (looks y) = by_lengths (eq_lengths l x.lengths)
    where
      by_lengths : (b : Bool) → Projected s (pick b a a)
      by_lengths true = p
      by_lengths false = p
