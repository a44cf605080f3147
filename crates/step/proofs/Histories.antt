-- Every table that calls after an opening have left is sound: by induction on the events, since the host's writes touch nothing that soundness speaks
-- of, a call keeps it, and no call changes the remembered lengths.
use mathlib.Core.Path.{◌≡◌, refl, sym, ap, ◌∙◌}
use mathlib.Core.List.{List, [], ◌∷◌}
use Prim.Native.Nat.{ℕ}
use lib.ListN.{length}
use Rattle.completion.specs.declared.Reply.{Reply}
use Rattle.model.specs.declared.Lengths.{Lengths}
use Rattle.model.specs.declared.Row.{Row}
use Rattle.model.specs.declared.Call.{Call}
use Rattle.model.specs.State.{State}
use Rattle.step.specs.Rules.{Fate, Fate.away, Fate.awaits, Fate.ends, Fate.rejected}
use Rattle.step.specs.Step.{row_at, accepted, submitted, row_of, going, freeing, settled, fate_of, taken, with_regions, with_poison, step}
use Rattle.step.specs.Sound.{Sound}
use Rattle.step.specs.Run.{Made, Made.calls, Made.looks, Event, leave, done, next, run, Pools}
use Rattle.step.proofs.Calls.{by_step}
use Rattle.step.proofs.Marked.{keeps_besides}

pub leaves : (s : State) (pool : List ℕ) → Sound s → length pool ≡ length s.pool → Sound (leave s pool)
unfolding leave
leaves s pool i e = keeps_besides s s.regions s.poison pool i refl e

-- ---- no call changes the settings and the lengths that the opening was given

pub record Stays (s : State) (z : State × Reply) : Type 0 where
  pub settings : z.0.settings ≡ s.settings
  pub lengths : z.0.lengths ≡ s.lengths

module _ (s : State) where
  stays : {x : Reply} → Stays s (s, x)
  stays = record { settings = refl; lengths = refl }

  settled_stays : (t : ℕ) (r : Row) (f : Fate) → Stays s (settled s t r f)
  unfolding settled going freeing
  settled_stays t r (away f) = stays
  settled_stays t r (awaits a bytes) = record { settings = refl; lengths = refl }
  settled_stays t r (ends ending) = record { settings = refl; lengths = refl }
  settled_stays t r (rejected e b bytes) = record { settings = refl; lengths = refl }

  pub done_stays : (l : Lengths) (m : Made) → Stays s (done s l m)
  unfolding done submitted accepted taken with_regions with_poison
  done_stays l (calls c) =
      by_step s (Stays s) (λ x. stays) (λ q r k p. record { settings = refl; lengths = refl }) (λ t i. let r = row_at s (row_of t) in settled_stays t r (fate_of s r i))
      (λ d more. record { settings = refl; lengths = refl }) (λ h g e. record { settings = refl; lengths = refl }) (λ cause. record { settings = refl; lengths = refl }) l c
  done_stays l (looks x) = stays

-- ---- the events

module _ (keeps : (s : State) (l : Lengths) (c : Call) → Sound s → Sound (step s l c).0) where
  keeps_done : (s : State) (l : Lengths) (m : Made) → Sound s → Sound (done s l m).0
  unfolding done
  keeps_done s l (calls c) i = keeps s l c i
  keeps_done s l (looks x) i = i

  pub keeps_next : (s : State) (e : Event) → Sound s → length e.leaves ≡ length s.pool → Sound (next s e)
  unfolding next
  keeps_next s e i len = keeps_done (leave s e.leaves) e.lengths e.made (leaves s e.leaves i len)

  -- what each event keeps holds after all of them
  pub kept_through : (P : State → Type 0) → ((s : State) (e : Event) → Sound s → length e.leaves ≡ length s.pool → P s → P (next s e)) → (s : State) → Sound s → (n : ℕ)
      → s.lengths.pool ≡ n → (es : List Event) → Pools n es → P s → P (run s es)
  unfolding run next Pools leave
  kept_through P keep s i n e [] p now = now
  kept_through P keep s i n e (x ∷ es) p now =
      let long = p.0 ∙ sym (i.pool ∙ e) in
      kept_through P keep (next s x) (keeps_next s x i long) n
      (ap (λ (l : Lengths). l.pool) (done_stays (leave s x.leaves) x.lengths x.made).lengths ∙ e) es p.1 (keep s x i long now)

  pub histories : (s : State) → Sound s → (n : ℕ) → s.lengths.pool ≡ n → (es : List Event) → Pools n es → Sound (run s es)
  histories s i n e es p = kept_through Sound (λ s e i long same. keeps_next s e i long) s i n e es p i
