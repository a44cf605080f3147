-- An admitted opening leaves a sound table: the regions are the plan's as the model's laws have them, and of the rest nothing has begun.
use mathlib.Core.Path.{◌≡◌, refl, sym, ap, ◌∙◌}
use mathlib.Core.Bool.{true}
use mathlib.Core.List.{List, []}
use Prim.Native.Nat.{ℕ, ◌<◌}
use native.Mathlib.Decide.{ℕ_discrete}
use native.Mathlib.Omega.{arith}
use lib.Dec.{lit<}
use lib.ListN.{length, get_or, length-map, length-replicate, get_or-map}
use Rattle.regionmap.specs.Map.{place}
use Rattle.regionmap.specs.Words.{runs_in, map_in}
use Rattle.model.specs.declared.Opening.{Opening}
use Rattle.model.specs.declared.Lengths.{Lengths}
use Rattle.model.specs.State.{Region, no_region, Owner.host, State, freed, awaiting}
use Rattle.model.specs.Opening.{at_first, opened, plan_in, plans_in, opens}
use Rattle.model.specs.Laws.{map_at}
use Rattle.model.proofs.Rules.{pool_holds}
use Rattle.model.proofs.Opened.{length_up}
use Rattle.model.proofs.Maps.{plans_length, inside}
use Rattle.model.proofs.Laws.{opening_laws}
use Rattle.step.specs.Questions.{region_at}
use Rattle.step.specs.Step.{row_at}
use Rattle.step.specs.Sound.{ready_hold, SoundRegion, Sound}
use Rattle.step.proofs.Counts.{times_above, times_in, live_none, hold_none, all_alike, had_none}

module _ (o : Opening) (plan : List ℕ) (l : Lengths) (pool : List ℕ) (ok : opens o plan l ≡ true) where
  abbrev first : State
  first = opened o (plans_in o.regions plan) l pool

  -- ---- the regions

  region_at_lem : (h : ℕ) → region_at first h ≡ at_first (get_or (plans_in o.regions plan) h (plan_in []))
  unfolding region_at opened no_region at_first plan_in map_in runs_in
  region_at_lem h = get_or-map at_first (plans_in o.regions plan) h (plan_in [])

  map_at_lem : (h : ℕ) → (region_at first h).map ≡ map_at o plan h
  unfolding at_first
  map_at_lem h = ap (λ (g : Region). g.map) (region_at_lem h)

  each : (h : ℕ) → h < o.regions → SoundRegion o (region_at first h)
  unfolding at_first
  each h lt = rw region_at_lem (record {
    generation = (opening_laws.maps o plan l ok).generation h (inside o plan h lt);
    runs = (opening_laws.maps o plan l ok).runs h (inside o plan h lt);
    lawful = (opening_laws.maps o plan l ok).lawful h (inside o plan h lt);
    on_card_lem = λ p. (opening_laws.maps o plan l ok).on_card_lem h p (inside o plan h lt);
  })

  apart : (h k p q : ℕ) → h < o.regions → k < o.regions → p < (map_at o plan h).capacity → q < (map_at o plan k).capacity
      → place (map_at o plan h) p ≡ place (map_at o plan k) q → (h ≡ k) × (p ≡ q)
  apart h k p q lh lk lp lq e = by_case (ℕ_discrete h k) (ℕ_discrete p q)
    where
      by_case : Dec (h ≡ k) → Dec (p ≡ q) → (h ≡ k) × (p ≡ q)
      by_case (yes a) (yes b) = (a, b)
      by_case (yes a) (no n) = absurd ((opening_laws.maps o plan l ok).apart k p q (inside o plan k lk) (rw a at lp) lq n (rw a at e))
      by_case (no n) b = absurd ((opening_laws.maps o plan l ok).apart_regions h k p q (inside o plan h lh) (inside o plan k lk) n lp lq e)

  -- ---- the rows

  row_at_lem : (r : ℕ) → row_at first r ≡ freed 0
  unfolding row_at opened
  row_at_lem r = all_alike o.depth r (freed 0)

  none_live : (r : ℕ) → awaiting (row_at first r).awaits ≡ 0
  unfolding freed awaiting
  none_live r = rw row_at_lem

  pub opened_sound : length pool ≡ l.pool → Sound first
  unfolding opened ready_hold freed
  opened_sound e = record {
    numbers = opening_laws.numbers o plan l ok;
    room = opening_laws.room o plan l ok;
    pool = e;
    pool_is = pool_holds o plan l ok;
    regions = length-map (plans_in o.regions plan) at_first ∙ plans_length o.regions plan;
    each = each;
    apart = λ h k p q lh lk. rw (map_at_lem h, map_at_lem k) (apart h k p q lh lk);
    rows = length-replicate o.depth (freed 0);
    live = sym (live_none o.depth 0);
    ready = refl;
    submissions = omega arith;
    balance = omega (arith, length_up 0 o.depth, live_none o.depth 0);
    free_once = λ r lt. omega (arith, times_in o.depth 0 r (omega arith) (omega arith), none_live r);
    free_rows = λ r le. times_above o.depth 0 r (omega arith);
    most = omega arith;
    generations = λ r lt. rw row_at_lem (lit< tt);
    owners = length-replicate o.buffers host;
    holders = λ b. omega (arith, hold_none b o.depth 0, had_none o.buffers b);
    in_table = λ r lt a. absurd (omega (arith, none_live r));
    seqs = λ r k lr lk a b c. absurd (omega (arith, none_live r));
  }
