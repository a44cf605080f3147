-- What one event of demand 3's lists comes to: it is turned away, or changes nothing, or takes a completion, or an operation goes on or ends; none is
-- rejected, and none poisons.
use mathlib.Core.Path.{◌≡◌, refl, sym, ap, ◌∙◌, subst}
use mathlib.Core.Bool.{Bool, true, false}
use mathlib.Core.Option.{Option, none, some}
use mathlib.Core.List.{List, [], ◌∷◌}
use Prim.Native.Nat.{ℕ}
use Rattle.layout.specs.Pick.{pick}
use Rattle.domain.specs.declared.FirstCause.{FirstCause}
use Rattle.std.specs.declared.option.Option.{Option as StdOption}
use Rattle.completion.specs.declared.Outcome.{Outcome}
use Rattle.completion.specs.Buffers.{Buffer}
use Rattle.completion.specs.declared.Completion.{Completion}
use Rattle.completion.specs.declared.Refusal.{Refusal}
use Rattle.completion.specs.declared.Refusal.TheVariants.{Unfit, UnknownTag}
use Rattle.completion.specs.declared.Reply.{Reply}
use Rattle.completion.specs.declared.Reply.TheVariants.{No as turnedAway, None as noneReady}
use Rattle.model.specs.declared.Lengths.{Lengths}
use Rattle.model.specs.declared.Awaits.{Awaits}
use Rattle.model.specs.declared.Row.{Row}
use Rattle.model.specs.declared.Call.TheVariants.{Take}
use Rattle.model.specs.declared.Lookup.{Lookup}
use Rattle.model.specs.declared.Lookup.TheVariants.{WritesLive, Mark as MarkNow}
use Rattle.model.specs.State.{State}
use Rattle.step.specs.Questions.{region_at}
use Rattle.step.specs.Rules.{Input, Fate, Fate.away, Fate.awaits, Fate.ends, Fate.rejected}
use Rattle.step.specs.Step.{row_at, row_of, names, bytes_at, plan_of, settled, fate_of, under_tag, taken, looked_up, called, eq_lengths, step, look}
use Rattle.step.specs.Sound.{Sound}
use Rattle.step.specs.Run.{Made, Made.calls, done}
use Rattle.step.specs.Lists.{brought_by, brought, is_away, took_by, plan_at, tag_in}
use Rattle.step.specs.Demand3.{FairTo}
use Rattle.step.proofs.AloneTags.{names_live}
use Rattle.step.proofs.Fates.{Fitting, FateFits, fate_fits}
use Rattle.step.proofs.Away.{rejects}
use Rattle.step.proofs.QuietRules.{Calm, calm}
use Rattle.step.proofs.ListsBrought.{Brings, brought_there, Listed, Listed.brings_to_lem, Listed.takes, Listed.looks_up}
use Rattle.step.proofs.ProjectionHost.{live_in_table}

pub data Came (s : State) (l : Lengths) (m : Made) : Type 0 where
  turned : (f : Refusal) → done s l m ≡ (s, turnedAway f) → Came s l m
  silent : ((t : ℕ) → brought t m ≡ none) → (done s l m).0 ≡ s → took_by (done s l m).1 ≡ [] → Came s l m
  took : ((t : ℕ) → brought t m ≡ none) → (c : Completion) (more : List Completion) → s.ready ≡ c ∷ more → done s l m ≡ taken s (c ∷ more) → Came s l m
  goes : (t : ℕ) (i : Input) → Brings m t i → names (row_at s (row_of t)) t ≡ true → (a : Awaits) (bytes : List ℕ) → fate_of s (row_at s (row_of t)) i ≡ awaits a bytes
      → done s l m ≡ settled s t (row_at s (row_of t)) (awaits a bytes) → Came s l m
  finishes : (t : ℕ) (i : Input) → Brings m t i → names (row_at s (row_of t)) t ≡ true → (o : Outcome) (b : Buffer) (bytes : List ℕ) → fate_of s (row_at s (row_of t)) i ≡ ends (record { outcome = o; buffer = b; bytes = bytes; cause = none })
      → done s l m ≡ settled s t (row_at s (row_of t)) (ends (record { outcome = o; buffer = b; bytes = bytes; cause = none })) → Came s l m

-- ---- a lookup and a taking

lookup_gives_none : (s : State) (l : Lengths) (y : Lookup) → took_by (look s l y) ≡ []
unfolding look looked_up took_by pick
lookup_gives_none s l y = by_lengths (eq_lengths l s.lengths) y
  where
    by_lengths : (b : Bool) (y : Lookup) → took_by (pick b (looked_up s y) (turnedAway Unfit)) ≡ []
    by_lengths true WritesLive = refl
    by_lengths true MarkNow = refl
    by_lengths false y = refl

module _ (s : State) (l : Lengths) where
  came_taking : (b : Bool) → eq_lengths l s.lengths ≡ b → (cs : List Completion) → s.ready ≡ cs → Came s l (calls Take)
  unfolding done step called pick taken took_by brought brought_by
  came_taking true q [] r =
      let e : done s l (calls Take) ≡ (s, noneReady) = ap (λ (b : Bool). pick b (taken s s.ready) (s, turnedAway Unfit)) q ∙ ap (taken s) r in
      silent (λ t. refl) (ap (λ (y : State × Reply). y.0) e) (ap (λ (y : State × Reply). took_by y.1) e)
  came_taking true q (c ∷ more) r = took (λ t. refl) c more r (ap (λ (b : Bool). pick b (taken s s.ready) (s, turnedAway Unfit)) q ∙ ap (taken s) r)
  came_taking false q cs r = turned Unfit (ap (λ (b : Bool). pick b (taken s s.ready) (s, turnedAway Unfit)) q)

-- ---- an answer or a flush result

module _ (s : State) (sound : Sound s) (l : Lengths) (m : Made) (t : ℕ) (i : Input) (br : Brings m t i) where
  abbrev row : Row
  row = row_at s (row_of t)

  module _ (named : names row t ≡ true) (fair : is_away (done s l m).1 ≡ false → FairTo s row row.awaits i) where
    fate_calm : is_away (done s l m).1 ≡ false → Calm (fate_of s row i)
    unfolding fate_of plan_at
    fate_calm heard = calm s.settings s (region_at s row.handle).forced s.poison row (bytes_at s row.buffer) i (live_in_table s sound (row_of t) (names_live row t named)).split (fair heard)

    -- none is rejected
    pub not_rejected : (e : StdOption ℕ) (b : Buffer) (bytes : List ℕ) → fate_of s row i ≡ rejected e b bytes → done s l m ≡ settled s t row (rejected e b bytes) → ⊥
    unfolding settled Calm Fitting
    not_rejected e b bytes q d = subst Calm q (fate_calm heard)
      where
        fits : FateFits s row (rejected e b bytes)
        fits = subst (FateFits s row) q (fate_fits s row i)

        heard : is_away (done s l m).1 ≡ false
        heard = ap (λ (y : State × Reply). is_away y.1) d ∙ rejects (plan_of (region_at s row.handle)) row.awaits e b fits.0

    came_met : (f : Fate) → fate_of s row i ≡ f → done s l m ≡ settled s t row f → Came s l m
    unfolding settled Calm
    came_met (away f) q d = turned f d
    came_met (awaits a bytes) q d = goes t i br named a bytes q d
    came_met (ends ending) q d =
        let heard : is_away (done s l m).1 ≡ false = unfold is_away settled in ap (λ (y : State × Reply). is_away y.1) d in
        let none_is : ending.cause ≡ none = subst Calm q (fate_calm heard) in
        finishes t i br named ending.outcome ending.buffer ending.bytes (q ∙ ap (λ (c : Option FirstCause). ends (record { outcome = ending.outcome; buffer = ending.buffer; bytes = ending.bytes; cause = c })) none_is) (d ∙ ap (λ (c : Option FirstCause). settled s t row (ends (record { outcome = ending.outcome; buffer = ending.buffer; bytes = ending.bytes; cause = c }))) none_is)
    came_met (rejected e b bytes) q d = absurd (not_rejected e b bytes q d)

  came_brought : (is_away (done s l m).1 ≡ false → FairTo s row row.awaits i) → Came s l m
  unfolding under_tag pick
  came_brought fair = by_lengths (eq_lengths l s.lengths) refl (names row t) refl
    where
      by_lengths : (b : Bool) → eq_lengths l s.lengths ≡ b → (n : Bool) → names row t ≡ n → Came s l m
      by_lengths true q true e =
          came_met e fair (fate_of s row i) refl
          (br.called_is s l ∙ ap (λ (b : Bool). pick b (under_tag s t i) (s, turnedAway Unfit)) q ∙ ap (λ (b : Bool). pick b (settled s t row (fate_of s row i)) (s, turnedAway UnknownTag)) e)
      by_lengths true q false e =
          turned UnknownTag (br.called_is s l ∙ ap (λ (b : Bool). pick b (under_tag s t i) (s, turnedAway Unfit)) q ∙ ap (λ (b : Bool). pick b (settled s t row (fate_of s row i)) (s, turnedAway UnknownTag)) e)
      by_lengths false q n e = turned Unfit (br.called_is s l ∙ ap (λ (b : Bool). pick b (under_tag s t i) (s, turnedAway Unfit)) q)

-- ---- any event of the lists

-- each answer that is not turned away is fair
abbrev pub FairCall : State → Lengths → Made → Type 0
FairCall s l m = (i : Input) → brought (tag_in m) m ≡ some i → is_away (done s l m).1 ≡ false → FairTo s (row_at s (row_of (tag_in m))) (row_at s (row_of (tag_in m))).awaits i

-- that under the tag of an input
pub fair_under : (s : State) (l : Lengths) (m : Made) (t : ℕ) (i : Input) → Brings m t i → FairCall s l m → is_away (done s l m).1 ≡ false → FairTo s (row_at s (row_of t)) (row_at s (row_of t)).awaits i
fair_under s l m t i br fair heard =
    subst (λ (u : ℕ). FairTo s (row_at s (row_of u)) (row_at s (row_of u)).awaits i) br.tag
    (fair i (ap (λ (u : ℕ). brought u m) br.tag ∙ brought_there m t i br) heard)

pub came : (s : State) → Sound s → (l : Lengths) (m : Made) → Listed m → FairCall s l m → Came s l m
unfolding done brought
came s sound l m (brings_to_lem t i br) fair = came_brought s sound l m t i br (fair_under s l m t i br fair)
came s sound l m (takes e) fair = subst (Came s l) (sym e) (came_taking s l (eq_lengths l s.lengths) refl s.ready refl)
came s sound l m (looks_up y e) fair = subst (Came s l) (sym e) (silent (λ t. refl) refl (lookup_gives_none s l y))
