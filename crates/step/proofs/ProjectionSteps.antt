-- One event under a queue tag, from a table of a history: the table does what is done with the operation alone.
use mathlib.Core.Path.{◌≡◌, refl, sym, ap, ◌∙◌, subst}
use mathlib.Core.Logic.{◌⊎◌, inl, inr}
use mathlib.Core.Bool.{Bool, true, false}
use mathlib.Core.Option.{some}
use mathlib.Core.List.{List, [], ◌∷◌, ◌++◌, append-nil}
use Prim.Native.Nat.{ℕ}
use Rattle.layout.specs.Pick.{pick}
use Rattle.layout.proofs.Tests.{true_or_false, refused}
use Rattle.completion.specs.declared.Refusal.{Refusal}
use Rattle.completion.specs.declared.Refusal.TheVariants.{Unfit, UnknownTag}
use Rattle.completion.specs.declared.Reply.{Reply}
use Rattle.completion.specs.declared.Reply.TheVariants.{No as turnedAway}
use Rattle.model.specs.declared.Row.{Row}
use Rattle.model.specs.State.{State, freed}
use Rattle.step.specs.Rules.{Input, Fate, Fate.away, Fate.awaits, Fate.ends, Fate.rejected}
use Rattle.step.specs.Step.{row_at, row_of, raised, names, bytes_at, completion_of, going, freeing, settled, fate_of, under_tag, eq_lengths}
use Rattle.step.specs.Run.{Event, leave, done, next, reply_to, Start}
use Rattle.step.specs.Lists.{brought, is_away, Completed, HostMay, plan_at}
use Rattle.step.specs.Alone.{Course, Course.is_open, Course.completed, Course.was_refused, Alones, onward, alone_fate, feeds, heard, alone_next}
use Rattle.step.specs.Demand3.{StepsAlone}
use Rattle.step.proofs.AloneTags.{clash, names_live}
use Rattle.step.proofs.Buffers.{bytes_length}
use Rattle.step.proofs.Fates.{Fitting, FateFits, fate_fits}
use Rattle.step.proofs.ListsBrought.{Brings, brings}
use Rattle.step.proofs.ProjectionHost.{live_in_table}
use Rattle.step.proofs.ProjectionSet.{put_here, bytes_here}
use Rattle.step.proofs.ProjectionFed.{met}
use Rattle.step.proofs.ProjectionReached.{Reached, next_alone, reached_left}
use Rattle.model.specs.Opening.{Plan}

-- ---- what becomes of the row that a tag names, beside its operation alone

module _ (s : State) (t : ℕ) (g : Plan) (r : Row) (own : List ℕ) where
  abbrev settles : Fate → State
  settles f = (settled s t r f).0

  -- a completion is added
  completes_ready : (f : Fate) (c : Completed) → onward g r own f ≡ completed c → (settles f).ready ≡ s.ready ++ (c.0 ∷ [])
  unfolding onward settled freeing
  completes_ready (away f) c e = clash (cc)
  completes_ready (awaits a bytes) c e = clash (cc)
  completes_ready (ends ending) c e = let z : (completion_of r ending.outcome ending.buffer, ending.bytes) ≡ c = cc in ap (λ (y : Completed). s.ready ++ (y.0 ∷ [])) z
  completes_ready (rejected f b bytes) c e = clash (cc)

  goes_ready : (f : Fate) (g' : Plan) (r' : Row) (bytes' : List ℕ) → onward g r own f ≡ is_open g' r' bytes' → (settles f).ready ≡ s.ready
  unfolding onward settled going
  goes_ready (away f) g' r' bytes' e = refl
  goes_ready (awaits a bytes) g' r' bytes' e = refl
  goes_ready (ends ending) g' r' bytes' e = clash (cc)
  goes_ready (rejected f b bytes) g' r' bytes' e = clash (cc)

  refused_ready : (f : Fate) → onward g r own f ≡ was_refused → (settles f).ready ≡ s.ready
  unfolding onward settled freeing
  refused_ready (away f) e = clash (cc)
  refused_ready (awaits a bytes) e = clash (cc)
  refused_ready (ends ending) e = clash (cc)
  refused_ready (rejected f b bytes) e = append-nil s.ready

-- its buffer is as completed
completes_bytes : (x : Start) (s : State) (a : Alones) → Reached x s a → (t : ℕ) → names (row_at s (row_of t)) t ≡ true → (g : Plan) (own : List ℕ) (f : Fate) → FateFits s (row_at s (row_of t)) f
    → (c : Completed) → onward g (row_at s (row_of t)) own f ≡ completed c → bytes_at (settled s t (row_at s (row_of t)) f).0 (row_at s (row_of t)).buffer ≡ c.1
unfolding onward settled freeing Fitting
completes_bytes x s a k t named g own (away f) z c e = clash (cc)
completes_bytes x s a k t named g own (awaits w bytes) z c e = clash (cc)
completes_bytes x s a k t named g own (ends ending) z c e =
    let row = row_at s (row_of t) in
    let got : (completion_of row ending.outcome ending.buffer, ending.bytes) ≡ c = cc in
    bytes_here s (settled s t row (ends ending)).0 (row_of t) row.buffer (freed (raised row.generation)) ending.bytes (record { settings = refl; regions = refl; rows = refl; pool = refl }) k.sound
    (live_in_table s k.sound (row_of t) (names_live row t named)).buffer (z.1 ∙ bytes_length s k.sound row.buffer (live_in_table s k.sound (row_of t) (names_live row t named)).buffer)
    ∙ ap (λ (y : Completed). y.1) got
completes_bytes x s a k t named g own (rejected f b bytes) z c e = clash (cc)

-- ---- one event

module _ (x : Start) (s : State) (a : Alones) (k : Reached x s a) (e : Event) (w : HostMay s e.leaves) (t : ℕ) (i : Input) (bt : brought t e.made ≡ some i) where
  abbrev s₁ : State
  s₁ = leave s e.leaves

  abbrev row : Row
  row = row_at s (row_of t)

  abbrev same_lengths : Bool
  same_lengths = eq_lengths e.lengths x.lengths

  k₁ : Reached x s₁ a
  k₁ = reached_left x s a k e.leaves w

  br : Brings e.made t i
  br = brings e.made t i bt

  -- the call, and the operations alone, by the lengths
  comes_to_lem : (b : Bool) → same_lengths ≡ b → done s₁ e.lengths e.made ≡ pick b (under_tag s₁ t i) (s₁, turnedAway Unfit)
  comes_to_lem b q =
      br.called_is s₁ e.lengths
      ∙ ap (λ (c : Bool). pick c (under_tag s₁ t i) (s₁, turnedAway Unfit)) (ap (eq_lengths e.lengths) k₁.fixed.lengths ∙ q)

  pub alone_to : (b : Bool) → same_lengths ≡ b → next_alone x s a e ≡ pick b (feeds x.opening x.lengths a e.leaves t i (a.ops t)) a
  unfolding alone_next
  alone_to b q =
      ap (λ (c : Bool). pick c (heard x.opening x.lengths a e.leaves e.made (reply_to s e)) a) q
      ∙ ap (λ (y : Alones). pick b y a) (br.heard_is x a e.leaves (reply_to s e))

  turned_is : (f : Refusal) → done s₁ e.lengths e.made ≡ (s₁, turnedAway f) → (is_away (reply_to s e) ≡ true) × (next s e ≡ s₁)
  unfolding reply_to next is_away
  turned_is f q = (ap (λ (y : State × Reply). is_away y.1) q, ap (λ (y : State × Reply). y.0) q)

  pub other_length : same_lengths ≡ false → (is_away (reply_to s e) ≡ true) × (next s e ≡ s₁)
  unfolding pick
  other_length q = turned_is Unfit (comes_to_lem false q)

  -- the tag names no live row
  pub unnamed : names row t ≡ false → (is_away (reply_to s e) ≡ true) × (next s e ≡ s₁)
  unfolding under_tag pick row_at leave
  unnamed n = by_lengths same_lengths refl
    where
      by_lengths : (b : Bool) → same_lengths ≡ b → (is_away (reply_to s e) ≡ true) × (next s e ≡ s₁)
      by_lengths true q = turned_is UnknownTag (comes_to_lem true q ∙ ap (λ (c : Bool). pick c (settled s₁ t (row_at s₁ (row_of t)) (fate_of s₁ (row_at s₁ (row_of t)) i)) (s₁, turnedAway UnknownTag)) n)
      by_lengths false q = other_length q

  pub nothing_open : ((g : Plan) (r : Row) (bytes : List ℕ) → a.ops t ≡ some (is_open g r bytes) → ⊥) → names row t ≡ false
  unfolding row_at leave
  nothing_open n = refused (names row t) (λ q. n _ row _ (met x s₁ k₁.sound k₁.fixed a k₁.projected t q i).is_open_lem)

  module _ (g : Plan) (r : Row) (bytes : List ℕ) (op : a.ops t ≡ some (is_open g r bytes)) where
    abbrev pub fate : Fate
    fate = alone_fate x.opening x.lengths a e.leaves g r bytes i

    pub named : names row t ≡ true
    named = (k.projected.only t g r bytes op).0

    pub row_is : row ≡ r
    row_is = (k.projected.only t g r bytes op).1

    pub fate_is : fate_of s₁ row i ≡ fate
    unfolding row_at leave
    fate_is =
        let m = met x s₁ k₁.sound k₁.fixed a k₁.projected t named i in
        let same : some (is_open (plan_at s₁ row) row m.bytes) ≡ some (is_open g r bytes) = sym m.is_open_lem ∙ op in
        m.fate ∙ (λ j. alone_fate x.opening x.lengths a e.leaves (plan_is same j) (row_is j) (bytes_is same j) i)
      where
        bytes_is : {p q : Plan} {b c : List ℕ} → some (is_open p row b) ≡ some (is_open q r c) → b ≡ c
        bytes_is same = cc

        plan_is : {p q : Plan} {b c : List ℕ} → some (is_open p row b) ≡ some (is_open q r c) → p ≡ q
        plan_is same = cc

    pub fits_is : FateFits s₁ r fate
    unfolding row_at leave
    fits_is = subst (λ (y : Row). FateFits s₁ y fate) row_is (subst (FateFits s₁ row) fate_is (fate_fits s₁ row i))

    pub met_is : same_lengths ≡ true → done s₁ e.lengths e.made ≡ settled s₁ t r fate
    unfolding under_tag pick row_at leave
    met_is q =
        comes_to_lem true q ∙ ap (λ (c : Bool). pick c (settled s₁ t row (fate_of s₁ row i)) (s₁, turnedAway UnknownTag)) named
        ∙ (λ j. settled s₁ t (row_is j) (fate_is j))

    -- how far the operation alone comes
    pub course_is : same_lengths ≡ true → (next_alone x s a e).ops t ≡ some (onward g r bytes fate)
    unfolding pick feeds
    course_is q =
        ap (λ (y : Alones). y.ops t) (alone_to true q ∙ ap (feeds x.opening x.lengths a e.leaves t i) op)
        ∙ put_here t (some (onward g r bytes fate)) a.ops

    pub course_other : same_lengths ≡ false → (next_alone x s a e).ops t ≡ some (is_open g r bytes)
    unfolding pick
    course_other q = ap (λ (y : Alones). y.ops t) (alone_to false q) ∙ op

    -- what follows of the next table if the operation alone comes to a course
    by_course : (c : Course) → (next_alone x s a e).ops t ≡ some c → (P : State → Type 0) → (onward g r bytes fate ≡ c → P (settled s₁ t r fate).0) → (is_open g r bytes ≡ c → P s₁) → P (next s e)
    unfolding next
    by_course c q P here other = by_lengths (true_or_false same_lengths)
      where
        by_lengths : (same_lengths ≡ true) ⊎ (same_lengths ≡ false) → P (next s e)
        by_lengths (inl l) = subst P (ap (λ (y : State × Reply). y.0) (sym (met_is l))) (here (let z = sym (course_is l) ∙ q in cc))
        by_lengths (inr l) = subst P (sym (other_length l).1) (other (let z = sym (course_other l) ∙ q in cc))

  pub steps_alone : StepsAlone x s a (next_alone x s a e) e t i
  unfolding leave
  steps_alone = record {
    none_open = λ n. unnamed (nothing_open n);
    another_length = other_length;
    same_fate = λ g r bytes op q. met_is g r bytes op q;
    completes = λ g r bytes c op q.
        by_course g r bytes op (completed c) q (λ y. (y.ready ≡ s.ready ++ (c.0 ∷ [])) × (bytes_at y r.buffer ≡ c.1))
        (λ z. (completes_ready s₁ t g r bytes (fate g r bytes op) c z, held g r bytes op c z)) (λ z. clash (cc));
    goes_on_lem = λ g g' r r' bytes bytes' op q. by_course g r bytes op (is_open g' r' bytes') q (λ y. y.ready ≡ s.ready) (goes_ready s₁ t g r bytes (fate g r bytes op) g' r' bytes') (λ z. refl);
    refused = λ g r bytes op q. by_course g r bytes op was_refused q (λ y. y.ready ≡ s.ready) (refused_ready s₁ t g r bytes (fate g r bytes op)) (λ z. refl);
  }
    where
      held : (g : Plan) (r : Row) (bytes : List ℕ) (op : a.ops t ≡ some (is_open g r bytes)) (c : Completed) → onward g r bytes (fate g r bytes op) ≡ completed c → bytes_at (settled s₁ t r (fate g r bytes op)).0 r.buffer ≡ c.1
      held g r bytes op c z =
          subst (λ (y : Row). onward g y bytes (fate g r bytes op) ≡ completed c → bytes_at (settled s₁ t y (fate g r bytes op)).0 y.buffer ≡ c.1) (row_is g r bytes op)
          (unfold row_at leave in completes_bytes x s₁ a k₁ t (named g r bytes op) g bytes (fate g r bytes op) (subst (FateFits s₁ row) (fate_is g r bytes op) (fate_fits s₁ row i)) c) z
