-- An answer or a flush result under a queue tag: the table does with the row what is done with the operation alone, or neither changes.
use mathlib.Core.Path.{◌≡◌, refl, sym, ap, ◌∙◌, subst}
use mathlib.Core.Bool.{Bool, true, false}
use mathlib.Core.Option.{Option, none, some}
use mathlib.Core.List.{List}
use Prim.Native.Nat.{ℕ}
use native.Mathlib.Decide.{ℕ_discrete}
use lib.ListN.{length}
use Rattle.layout.specs.Pick.{pick}
use Rattle.layout.proofs.Tests.{not_both}
use Rattle.domain.specs.declared.FirstCause.{FirstCause}
use Rattle.completion.specs.declared.Refusal.TheVariants.{UnknownTag}
use Rattle.completion.specs.declared.Completion.{Completion}
use Rattle.completion.specs.declared.Reply.TheVariants.{No as turnedAway}
use Rattle.model.specs.declared.Row.{Row}
use Rattle.model.specs.State.{Owner, State, freed}
use Rattle.step.specs.Rules.{Input, Fate, Fate.away, Fate.awaits, Fate.ends, Fate.rejected}
use Rattle.step.specs.Step.{queue_tag, row_at, row_of, is_live, names, bytes_at, awaits_now, one_less, poison_with, going, freeing, settled, fate_of, under_tag}
use Rattle.step.specs.Sound.{Sound}
use Rattle.step.specs.Lists.{tag_at, plan_at}
use Rattle.step.specs.Alone.{Course, Course.is_open, Course.completed, Course.was_refused, Alones, put_at, onward, blamed, alone_fate, feeds, ops_as, first_as}
use Rattle.step.specs.Demand3.{Alike, Projected}
use Rattle.step.specs.Run.{Start}
use Rattle.step.proofs.AloneTags.{clash, freed_dead, live_in, names_live, names_generation, names_by, named_tag, one_tag}
use Rattle.step.proofs.Named.{one_live}
use Rattle.step.proofs.Buffers.{bytes_length}
use Rattle.step.proofs.Fates.{Fitting, FateFits, fate_fits}
use Rattle.step.proofs.ProjectionFixed.{Fixed}
use Rattle.step.proofs.ProjectionHost.{sole, live_in_table, same_fate}
use Rattle.step.proofs.ProjectionSet.{put_here, put_there, Changed, projected_set}
use Rattle.step.proofs.ProjectionRows.{projected_same}
use Rattle.model.specs.Opening.{Plan}

-- the operations alone after a fate of the one under the tag t
abbrev pub fed_with : Alones → ℕ → Plan → Row → List ℕ → Fate → Alones
fed_with a t g r bytes f = ops_as (put_at t (some (onward g r bytes f)) a.ops) (first_as (poison_with a.first (blamed f)) a)

-- none is open under the tag
pub feeds_none : (x : Start) (a : Alones) (pool : List ℕ) (t : ℕ) (i : Input) (c : Option Course) → ((g : Plan) (r : Row) (bytes : List ℕ) → c ≡ some (is_open g r bytes) → ⊥)
    → feeds x.opening x.lengths a pool t i c ≡ a
unfolding feeds
feeds_none x a pool t i none n = refl
feeds_none x a pool t i (some (is_open g r bytes)) n = absurd (n g r bytes refl)
feeds_none x a pool t i (some (completed c)) n = refl
feeds_none x a pool t i (some was_refused) n = refl

-- one is: the row that the tag names
pub record Met (x : Start) (s : State) (a : Alones) (t : ℕ) (i : Input) : Type 0 where
  pub bytes : List ℕ
  pub alike : Alike s (row_at s (row_of t)) bytes
  pub is_open_lem : a.ops t ≡ some (is_open (plan_at s (row_at s (row_of t))) (row_at s (row_of t)) bytes)
  pub fate : fate_of s (row_at s (row_of t)) i ≡ alone_fate x.opening x.lengths a s.pool (plan_at s (row_at s (row_of t))) (row_at s (row_of t)) bytes i

module _ (x : Start) (s : State) (i : Sound s) (fx : Fixed x s) (a : Alones) (p : Projected s a) (t : ℕ) where
  abbrev row : Row
  row = row_at s (row_of t)

  -- an operation alone that is open under the tag is in the row that it names
  pub open_named : (g : Plan) (r : Row) (bytes : List ℕ) → a.ops t ≡ some (is_open g r bytes) → names row t ≡ true
  open_named g r bytes e = (p.only t g r bytes e).0

  module _ (named : names row t ≡ true) where
    abbrev live : is_live row.awaits ≡ true
    live = names_live row t named

    pub met : (j : Input) → Met x s a t j
    met j =
        let z = p.each (row_of t) live in
        record {
          bytes = z.bytes;
          alike = z.alike;
          is_open_lem = ap a.ops (named_tag s t named) ∙ z.same;
          fate = same_fate x s fx a row z.bytes j (p.forced row.handle (live_in_table s i (row_of t) live).region) p.first z.alike;
        }

    -- the row is replaced by another, and its operation alone by another course
    module _ (s' : State) (a' : Alones) (new : Row) (bytes : List ℕ) (c : Course) where
      pub record Leads : Type 0 where
        pub changed : Changed s s' (row_of t) row.buffer new bytes
        pub long : length bytes ≡ length (bytes_at s row.buffer)
        pub ops : (u : ℕ) → a'.ops u ≡ put_at t (some c) a.ops u
        pub to_open : is_live new.awaits ≡ true → (c ≡ is_open (plan_at s new) new bytes) × (t ≡ queue_tag (row_of t) new.generation) × (new.buffer ≡ row.buffer)
        pub from_open : (g : Plan) (r : Row) (bs : List ℕ) → c ≡ is_open g r bs → (names new t ≡ true) × (new ≡ r) × (plan_at s r ≡ g)
        pub plans : a'.plans ≡ a.plans
        pub forced : (h : ℕ) → a'.forced h ≡ a.forced h
        pub first : a'.first ≡ s'.poison
        pub count : a'.count ≡ s'.counts.submissions

      leads : Leads → Projected s' a'
      leads w =
          projected_set s s' i a a' p t (row_of t) row.buffer new bytes c
          (record {
            changed = w.changed;
            in_rows = live_in s (row_of t) live;
            row = refl;
            in_buffers = (live_in_table s i (row_of t) live).buffer;
            long = w.long ∙ bytes_length s i row.buffer (live_in_table s i (row_of t) live).buffer;
            apart = λ r n l e. n (sole s i (row_of t) r live l e);
            tags = λ u e z. one_tag row u t e z named;
            ops = w.ops;
            to_open = w.to_open;
            from_open = w.from_open;
            plans = w.plans;
            forced = w.forced;
            first = w.first;
            count = w.count;
          })

    -- the row is freed, and its operation alone is open no more
    leads_to_freed : (f : Fate) (bytes : List ℕ) (generation : ℕ) (more : List Completion) (who : Owner) (cause : Option FirstCause) (own : List ℕ) → length bytes ≡ length (bytes_at s row.buffer)
        → ((g : Plan) (r : Row) (bs : List ℕ) → onward (plan_at s row) row own f ≡ is_open g r bs → ⊥) → blamed f ≡ cause → Projected (freeing s (row_of t) row generation more who bytes cause) (fed_with a t (plan_at s row) row own f)
    unfolding freeing one_less
    leads_to_freed f bytes generation more who cause own len shut blame =
        leads (freeing s (row_of t) row generation more who bytes cause) (fed_with a t (plan_at s row) row own f) (freed generation) bytes (onward (plan_at s row) row own f)
        (record {
          changed = record { settings = refl; regions = refl; rows = refl; pool = refl };
          long = len;
          ops = λ u. refl;
          to_open = λ l. absurd (not_both l (freed_dead generation));
          from_open = λ g r bs e. absurd (shut g r bs e);
          plans = refl;
          forced = λ h. refl;
          first = (λ k. poison_with (p.first k) (blame k));
          count = p.count;
        })

    went : (f : Fate) (own : List ℕ) → a.ops t ≡ some (is_open (plan_at s row) row own) → FateFits s row f → Projected (settled s t row f).0 (fed_with a t (plan_at s row) row own f)
    unfolding settled going Fitting onward blamed poison_with awaits_now plan_at
    went (away f) own op z =
        projected_same s a (fed_with a t (plan_at s row) row own (away f)) p same (λ h. refl) refl refl refl
      where
        same : (u : ℕ) → put_at t (some (is_open (plan_at s row) row own)) a.ops u ≡ a.ops u
        same u = by_case (ℕ_discrete t u)
          where
            by_case : Dec (t ≡ u) → put_at t (some (is_open (plan_at s row) row own)) a.ops u ≡ a.ops u
            by_case (yes e) = subst (λ (v : ℕ). put_at t (some (is_open (plan_at s row) row own)) a.ops v ≡ a.ops v) e (put_here t (some (is_open (plan_at s row) row own)) a.ops ∙ sym op)
            by_case (no n) = put_there t u (some (is_open (plan_at s row) row own)) a.ops n
    went (awaits w bytes) own op z =
        leads (going s (row_of t) row w bytes) (fed_with a t (plan_at s row) row own (awaits w bytes)) (awaits_now row w) bytes (is_open (plan_at s row) (awaits_now row w) bytes)
        (record {
          changed = record { settings = refl; regions = refl; rows = refl; pool = refl };
          long = z.1;
          ops = λ u. refl;
          to_open = λ l. (refl, unfold tag_at in named_tag s t named, refl);
          from_open = λ g r bs e.
              let its_plan : plan_at s row ≡ g = cc in
              let its_row : awaits_now row w ≡ r = cc in
              (names_by (awaits_now row w) t (one_live w z.0.live) (names_generation row t named), its_row, ap (plan_at s) (sym its_row) ∙ its_plan);
          plans = refl;
          forced = λ h. refl;
          first = p.first;
          count = p.count;
        })
    went (ends ending) own op z = leads_to_freed (ends ending) ending.bytes _ _ _ ending.cause own z.1 (λ g r bs e. clash (cc)) refl
    went (rejected e b bytes) own op z = leads_to_freed (rejected e b bytes) bytes _ _ _ none own z.2 (λ g r bs e. clash (cc)) refl

    -- what the operations alone come to is the fate of the row's
    pub fed_met : (j : Input) (m : Met x s a t j) → feeds x.opening x.lengths a s.pool t j (a.ops t) ≡ fed_with a t (plan_at s row) row m.bytes (fate_of s row j)
    unfolding feeds
    fed_met j m =
        ap (feeds x.opening x.lengths a s.pool t j) m.is_open_lem ∙ ap (fed_with a t (plan_at s row) row m.bytes) (sym m.fate)

  pub projected_fed : (j : Input) → Projected (under_tag s t j).0 (feeds x.opening x.lengths a s.pool t j (a.ops t))
  unfolding under_tag pick
  projected_fed j = by_name (names row t) refl
    where
      by_name : (b : Bool) → names row t ≡ b → Projected (pick b (settled s t row (fate_of s row j)) (s, turnedAway UnknownTag)).0 (feeds x.opening x.lengths a s.pool t j (a.ops t))
      by_name true e = let m = met e j in subst (Projected (settled s t row (fate_of s row j)).0) (sym (fed_met e j m)) (went e (fate_of s row j) m.bytes m.is_open_lem (fate_fits s row j))
      by_name false e = subst (Projected s) (sym (feeds_none x a s.pool t j (a.ops t) (λ g r bytes q. not_both (open_named g r bytes q) e))) p
