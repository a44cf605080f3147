-- The course of an operation alone through one of demand 3's lists is a function of what it is given: while the forced marks and the first cause stay as
-- they are, nothing else reaches it.
use mathlib.Core.Path.{◌≡◌, refl, sym, ap, ◌∙◌}
use mathlib.Core.Logic.{◌≢◌, ◌⊎◌, inl, inr}
use mathlib.Core.Bool.{Bool, true, false}
use mathlib.Core.Option.{Option, none, some}
use mathlib.Core.List.{List, [], ◌∷◌, ◌++◌}
use Prim.Native.Nat.{ℕ}
use native.Mathlib.Omega.{arith}
use borrow.Author.Tests.{eqb-false}
use lib.Dec.{eqb}
use lib.ListN.{take, drop}
use lib.Seq.{take-take}
use Rattle.layout.specs.Pick.{pick}
use Rattle.layout.proofs.Tests.{not_both, true_or_false}
use Rattle.iobuf.specs.Turn.{stretch}
use Rattle.std.specs.declared.option.Option.{Option as StdOption}
use Rattle.domain.specs.declared.FirstCause.{FirstCause}
use Rattle.completion.specs.declared.Reply.{Reply}
use Rattle.model.specs.declared.Row.{Row}
use Rattle.model.specs.State.{State}
use Rattle.model.specs.Opening.{Plan}
use Rattle.step.specs.Questions.{region_at}
use Rattle.step.specs.Rules.{Input, Fate, Fate.away, Fate.awaits, Fate.ends, Fate.rejected, rules}
use Rattle.step.specs.Step.{row_at, row_of, bytes_at, plan_of, settled, eq_lengths}
use Rattle.step.specs.Run.{Made, Event, leave, reply_to, Start}
use Rattle.step.specs.Lists.{brought, is_away, loose, plan_at, left_in, Given, given_as, given_by, HostMay}
use Rattle.step.specs.Alone.{Course, Course.is_open, Course.completed, Course.was_refused, Alones, with_left, onward, alone_fate, feeds, heard_call, heard, alone_next}
use Rattle.step.specs.Demand3.{is_listed}
use Rattle.step.proofs.AloneTags.{clash}
use Rattle.step.proofs.ListsBrought.{Listed, Listed.brings_to_lem, Listed.takes, Listed.looks_up, listed_is}
use Rattle.step.proofs.Picked.{by_pick}
use Rattle.step.proofs.Fates.{Fitting, FateFits}
use Rattle.step.proofs.Away.{asks, rejects}
use Rattle.step.proofs.ProjectionSet.{put_there}
use Rattle.step.proofs.ProjectionFed.{feeds_none}
use Rattle.step.proofs.ProjectionReached.{Reached, next_alone, reached_left}
use Rattle.step.proofs.ProjectionSteps.{alone_to, other_length, fate, fits_is, met_is, course_is, course_other, row_is}

-- ---- the course by what is given

module _ (x : Start) (forced : ℕ → Bool) (first : StdOption FirstCause) where
  unfoldable pub fed_by : Course → Given → Course
  fed_by (is_open g r bytes) v =
      onward g r bytes (rules x.opening g (forced r.handle) first r (with_left (loose g r.awaits) v.1 bytes) v.0)
  fed_by (completed c) v = completed c
  fed_by was_refused v = was_refused

  unfoldable pub course_by : Course → List Given → Course
  course_by c [] = c
  course_by c (v ∷ vs) = course_by (fed_by c v) vs

  pub course_append : (c : Course) (vs ws : List Given) → course_by c (vs ++ ws) ≡ course_by (course_by c vs) ws
  unfolding course_by
  course_append c [] ws = refl
  course_append c (v ∷ vs) ws = course_append (fed_by c v) vs ws

-- the bytes past the piece are not read
left_enough : (n : ℕ) (left bytes : List ℕ) → with_left n (take n left) bytes ≡ with_left n left bytes
unfolding with_left
left_enough n left bytes = ap (λ (l : List ℕ). l ++ drop n bytes) (take-take n n left (omega arith))

-- ---- an answer that is turned away leaves its operation as it is

settled_away : (s : State) (t : ℕ) (g : Plan) (r : Row) (own : List ℕ) (f : Fate) → FateFits s r f → is_away (settled s t r f).1 ≡ true → onward g r own f ≡ is_open g r own
unfolding settled onward is_away Fitting
settled_away s t g r own (away f) z e = refl
settled_away s t g r own (awaits a b) z e = absurd (not_both e (asks (plan_of (region_at s r.handle)) t r.buffer a))
settled_away s t g r own (ends ending) z e = absurd (not_both e refl)
settled_away s t g r own (rejected f b bs) z e = absurd (not_both e (rejects (plan_of (region_at s r.handle)) r.awaits f b z.0))

-- ---- an event that brings nothing to the operation under a tag leaves it as it is

feeds_other : (x : Start) (a : Alones) (pool : List ℕ) (u t : ℕ) (i : Input) (c : Option Course) → u ≢ t → (feeds x.opening x.lengths a pool u i c).ops t ≡ a.ops t
unfolding feeds
feeds_other x a pool u t i none n = refl
feeds_other x a pool u t i (some (is_open g r bytes)) n = put_there u t _ a.ops n
feeds_other x a pool u t i (some (completed c)) n = refl
feeds_other x a pool u t i (some was_refused) n = refl

feeds_forced : (x : Start) (a : Alones) (pool : List ℕ) (u : ℕ) (i : Input) (c : Option Course) → (feeds x.opening x.lengths a pool u i c).forced ≡ a.forced
unfolding feeds
feeds_forced x a pool u i none = refl
feeds_forced x a pool u i (some (is_open g r bytes)) = refl
feeds_forced x a pool u i (some (completed c)) = refl
feeds_forced x a pool u i (some was_refused) = refl

-- a value that a test did not let through
kept_out : {A : Type 0} (b : Bool) (y : A) → pick b (some y) none ≡ none → b ≡ false
unfolding pick
kept_out true y e = clash (cc)
kept_out false y e = refl

module _ (x : Start) (a : Alones) (pool : List ℕ) (reply : Reply) (m : Made) where
  abbrev heard_by : Alones
  heard_by = heard x.opening x.lengths a pool m reply

  heard_other : (t : ℕ) → Listed m → brought t m ≡ none → heard_by.ops t ≡ a.ops t
  unfolding heard heard_call
  heard_other t (brings_to_lem u i br) q =
      ap (λ (y : Alones). y.ops t) (br.heard_is x a pool reply) ∙ feeds_other x a pool u t i (a.ops u) (eqb-false u t (kept_out (eqb u t) i (sym (br.under t) ∙ q)))
  heard_other t (takes e) q = ap (λ (n : Made). (heard x.opening x.lengths a pool n reply).ops t) e
  heard_other t (looks_up y e) q = ap (λ (n : Made). (heard x.opening x.lengths a pool n reply).ops t) e

  heard_forced : Listed m → heard_by.forced ≡ a.forced
  unfolding heard heard_call
  heard_forced (brings_to_lem u i br) = ap (λ (y : Alones). y.forced) (br.heard_is x a pool reply) ∙ feeds_forced x a pool u i (a.ops u)
  heard_forced (takes e) = ap (λ (n : Made). (heard x.opening x.lengths a pool n reply).forced) e
  heard_forced (looks_up y e) = ap (λ (n : Made). (heard x.opening x.lengths a pool n reply).forced) e

module _ (x : Start) (s : State) (a : Alones) (e : Event) (l : is_listed e.made ≡ true) where
  pub next_other : (t : ℕ) → brought t e.made ≡ none → (next_alone x s a e).ops t ≡ a.ops t
  unfolding alone_next
  next_other t b = by_pick (eq_lengths e.lengths x.lengths) (λ (y : Alones). y.ops t ≡ a.ops t) (λ same. heard_other x a e.leaves (reply_to s e) e.made t (listed_is e.made l) b) (λ other. refl)

  pub next_forced : (next_alone x s a e).forced ≡ a.forced
  unfolding alone_next
  next_forced = by_pick (eq_lengths e.lengths x.lengths) (λ (y : Alones). y.forced ≡ a.forced) (λ same. heard_forced x a e.leaves (reply_to s e) e.made (listed_is e.made l)) (λ other. refl)

-- ---- one event

module _ (x : Start) (s : State) (a : Alones) (k : Reached x s a) (e : Event) (w : HostMay s e.leaves) (l : is_listed e.made ≡ true) (t : ℕ) where
  abbrev s₁ : State
  s₁ = leave s e.leaves

  abbrev left : List ℕ
  left = left_in s₁ (row_at s (row_of t))

  -- the course after what the event gives
  abbrev Comes : Course → List Given → Type 0
  Comes c vs = (next_alone x s a e).ops t ≡ some (course_by x a.forced a.first c vs)

  module _ (i : Input) (bt : brought t e.made ≡ some i) where
    k₁ : Reached x s₁ a
    k₁ = reached_left x s a k e.leaves w

    -- none is open under the tag
    pub shut : (c : Course) → ((g : Plan) (r : Row) (bytes : List ℕ) → c ≡ is_open g r bytes → ⊥) → a.ops t ≡ some c → (next_alone x s a e).ops t ≡ some c
    unfolding pick
    shut c n op = by_lengths (true_or_false (eq_lengths e.lengths x.lengths))
      where
        by_lengths : (eq_lengths e.lengths x.lengths ≡ true) ⊎ (eq_lengths e.lengths x.lengths ≡ false) → (next_alone x s a e).ops t ≡ some c
        by_lengths (inl q) =
            ap (λ (y : Alones). y.ops t) (alone_to x s a k e w t i bt true q ∙ feeds_none x a e.leaves t i (a.ops t) (λ g r bytes z. n g r bytes (let y = sym op ∙ z in cc))) ∙ op
        by_lengths (inr q) = ap (λ (y : Alones). y.ops t) (alone_to x s a k e w t i bt false q) ∙ op

    module _ (g : Plan) (r : Row) (bytes : List ℕ) (op : a.ops t ≡ some (is_open g r bytes)) where
      abbrev f : Fate
      f = fate x s a k e w t i bt g r bytes op

      abbrev same : Bool
      same = eq_lengths e.lengths x.lengths

      -- turned away
      away_course : is_away (reply_to s e) ≡ true → (next_alone x s a e).ops t ≡ some (is_open g r bytes)
      unfolding reply_to
      away_course gone = by_lengths (true_or_false same)
        where
          by_lengths : (same ≡ true) ⊎ (same ≡ false) → (next_alone x s a e).ops t ≡ some (is_open g r bytes)
          by_lengths (inl q) =
              course_is x s a k e w t i bt g r bytes op q
              ∙ ap some (settled_away s₁ t g r bytes f (fits_is x s a k e w t i bt g r bytes op) (ap (λ (y : State × Reply). is_away y.1) (sym (met_is x s a k e w t i bt g r bytes op q)) ∙ gone))
          by_lengths (inr q) = course_other x s a k e w t i bt g r bytes op q

      -- what is left in the piece is all that is read of the pool
      left_is : left ≡ take (loose g r.awaits) (stretch x.opening.capacity r.buffer e.leaves)
      unfolding left_in plan_at bytes_at leave region_at
      left_is =
          ap (left_in s₁) (row_is x s a k e w t i bt g r bytes op)
          ∙ (λ j. take (loose ((k.projected.only t g r bytes op).2 j) r.awaits) (stretch (k.fixed.settings j).capacity r.buffer e.leaves))

      -- and not
      heard_course : is_away (reply_to s e) ≡ false → (next_alone x s a e).ops t ≡ some (fed_by x a.forced a.first (is_open g r bytes) (i, left))
      unfolding fed_by alone_fate
      heard_course taken = by_lengths (true_or_false same)
        where
          read : with_left (loose g r.awaits) (stretch x.opening.capacity r.buffer e.leaves) bytes ≡ with_left (loose g r.awaits) left bytes
          read = sym (left_enough (loose g r.awaits) (stretch x.opening.capacity r.buffer e.leaves) bytes) ∙ ap (λ (y : List ℕ). with_left (loose g r.awaits) y bytes) (sym left_is)

          by_lengths : (same ≡ true) ⊎ (same ≡ false) → (next_alone x s a e).ops t ≡ some (fed_by x a.forced a.first (is_open g r bytes) (i, left))
          by_lengths (inl q) =
              course_is x s a k e w t i bt g r bytes op q ∙ ap (λ (y : List ℕ). some (onward g r bytes (rules x.opening g (a.forced r.handle) a.first r y i))) read
          by_lengths (inr q) = absurd (not_both (other_length x s a k e w t i bt q).0 taken)

    brought_course : (c : Course) → a.ops t ≡ some c → Comes c (pick (is_away (reply_to s e)) [] ((i, left) ∷ []))
    unfolding course_by fed_by pick
    brought_course (is_open g r bytes) op = by_reply (is_away (reply_to s e)) refl
      where
        by_reply : (b : Bool) → is_away (reply_to s e) ≡ b → Comes (is_open g r bytes) (pick b [] ((i, left) ∷ []))
        by_reply true q = away_course g r bytes op q
        by_reply false q = heard_course g r bytes op q
    brought_course (completed c) op = let z = shut (completed c) (λ g r bytes z. clash (cc)) op in by_pick (is_away (reply_to s e)) (Comes (completed c)) (λ q. z) (λ q. z)
    brought_course was_refused op = let z = shut was_refused (λ g r bytes z. clash (cc)) op in by_pick (is_away (reply_to s e)) (Comes was_refused) (λ q. z) (λ q. z)

  pub course_next : (c : Course) → a.ops t ≡ some c → Comes c (given_by s e t)
  unfolding given_by given_as course_by
  course_next c op = by_brought (brought t e.made) refl
    where
      by_brought : (b : Option Input) → brought t e.made ≡ b → Comes c (given_as b (is_away (reply_to s e)) left)
      by_brought none q = next_other x s a e l t q ∙ op
      by_brought (some i) q = brought_course i q c op
