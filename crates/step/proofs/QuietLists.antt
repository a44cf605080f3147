-- An operation alone through one of demand 3's lists: its course follows from what it is given, it is never refused, and its completion, once, is what it gets
-- from the table.
use mathlib.Core.Path.{◌≡◌, refl, sym, ap, ◌∙◌}
use mathlib.Core.Logic.{◌≢◌, ◌⊎◌, inl, inr}
use mathlib.Core.Bool.{Bool, true, false}
use mathlib.Core.Option.{Option, none, some}
use mathlib.Core.List.{List, [], ◌∷◌, ◌++◌, append-nil, append_assoc}
use Prim.Native.Nat.{ℕ}
use lib.ListN.{length, drop}
use lib.Seq.{drop-length, drop-append_seam}
use Rattle.layout.specs.Pick.{pick}
use Rattle.layout.proofs.Tests.{true_or_false}
use Rattle.std.specs.declared.option.Option.{Option as StdOption}
use Rattle.domain.specs.declared.FirstCause.{FirstCause}
use Rattle.completion.specs.declared.Completion.{Completion}
use Rattle.model.specs.declared.Row.{Row}
use Rattle.model.specs.State.{State}
use Rattle.step.specs.Rules.{Input, Fate, Fate.away, Fate.awaits, Fate.ends, Fate.rejected}
use Rattle.step.specs.Step.{row_at, bytes_at, awaits_now, settled, eq_lengths}
use Rattle.step.specs.Run.{Event, leave, next, Start}
use Rattle.step.specs.Lists.{brought, HostMay, is_brought, Given, given_by, given, Completed, with_bytes, added_by, gets}
use Rattle.step.specs.Alone.{Course, Course.is_open, Course.completed, Course.was_refused, Alones, onward, alones}
use Rattle.step.specs.Demand3.{Fits, StepsAlone}
use Rattle.step.proofs.AloneTags.{clash}
use Rattle.step.proofs.ListsBrought.{Brings, brings}
use Rattle.step.proofs.ListsCame.{not_rejected, fair_under}
use Rattle.step.proofs.ListsRows.{same_poison}
use Rattle.step.proofs.ListsWalk.{host_may, listed, behind, fair_next, came_next, reached}
use Rattle.step.proofs.ProjectionReached.{Reached, next_alone, run_alone, reached_left}
use Rattle.step.proofs.ProjectionSteps.{fate, fate_is, met_is, course_is, course_other, named, row_is, steps_alone}
use Rattle.step.proofs.QuietCourse.{fed_by, course_by, course_append, next_other, next_forced, course_next, shut}
use Rattle.model.specs.Opening.{Plan}

-- ---- courses

-- the completion of a course
unfoldable pub done_of : Course → List Completed
done_of (is_open g r bytes) = []
done_of (completed c) = c ∷ []
done_of was_refused = []

-- the operation of a course has the buffer b
unfoldable pub InBuffer : ℕ → Course → Type 0
InBuffer b (is_open g r bytes) = r.buffer ≡ b
InBuffer b (completed c) = Unit {0}
InBuffer b was_refused = Unit {0}

onward_buffer : (b : ℕ) (g : Plan) (r : Row) (bytes : List ℕ) (f : Fate) → r.buffer ≡ b → InBuffer b (onward g r bytes f)
unfolding onward InBuffer awaits_now
onward_buffer b g r bytes (away f) e = e
onward_buffer b g r bytes (awaits a bytes') e = e
onward_buffer b g r bytes (ends ending) e = tt
onward_buffer b g r bytes (rejected f c bytes') e = tt

module _ (x : Start) (forced : ℕ → Bool) (first : StdOption FirstCause) (b : ℕ) where
  fed_buffer : (c : Course) (v : Given) → InBuffer b c → InBuffer b (fed_by x forced first c v)
  unfolding fed_by InBuffer
  fed_buffer (is_open g r bytes) v e = onward_buffer b g r bytes _ e
  fed_buffer (completed c) v e = tt
  fed_buffer was_refused v e = tt

  pub course_buffer : (c : Course) (vs : List Given) → InBuffer b c → InBuffer b (course_by x forced first c vs)
  unfolding course_by
  course_buffer c [] e = e
  course_buffer c (v ∷ vs) e = course_buffer (fed_by x forced first c v) vs (fed_buffer c v e)

-- the completions that an event adds, each with the bytes of the buffer b
abbrev adds : State → Event → ℕ → List Completed
adds s e b = with_bytes (bytes_at (next s e) b) (added_by s e)

-- ---- one event

module _ (x : Start) (s : State) (a : Alones) (k : Reached x s a) (e : Event) (es : List Event) (f : Fits s (e ∷ es)) where
  abbrev s₁ : State
  s₁ = leave s e.leaves

  -- the first cause stays
  pub next_first : (next_alone x s a e).first ≡ a.first
  unfolding next leave
  next_first =
      (reached x s a k e es f).projected.first
      ∙ same_poison s₁ e.lengths e.made (came_next x s a k e es f)
      ∙ sym k.projected.first

  module _ (t : ℕ) (i : Input) (bt : brought t e.made ≡ some i) where
    w : HostMay s e.leaves
    w = host_may x s a k e es f

    br : Brings e.made t i
    br = brings e.made t i bt

    -- an open operation is not refused
    module _ (g : Plan) (r : Row) (bytes : List ℕ) (op : a.ops t ≡ some (is_open g r bytes)) where
      by_fate : eq_lengths e.lengths x.lengths ≡ true → (f' : Fate) → fate x s a k e w t i bt g r bytes op ≡ f' → onward g r bytes f' ≡ was_refused → ⊥
      unfolding onward row_at leave
      by_fate q (away u) z c = clash (cc)
      by_fate q (awaits v bs) z c = clash (cc)
      by_fate q (ends ending) z c = clash (cc)
      by_fate q (rejected u b bs) z c =
          not_rejected s₁ (reached_left x s a k e.leaves w).sound e.lengths e.made t i br (named x s a k e w t i bt g r bytes op) (fair_under s₁ e.lengths e.made t i br (fair_next x s a k e es f)) u b bs (fate_is x s a k e w t i bt g r bytes op ∙ z)
          (met_is x s a k e w t i bt g r bytes op q ∙ (λ j. settled s₁ t (sym (row_is x s a k e w t i bt g r bytes op) j) (z j)))

      not_refused : (next_alone x s a e).ops t ≡ some was_refused → ⊥
      not_refused c = by_lengths (true_or_false (eq_lengths e.lengths x.lengths))
        where
          by_lengths : (eq_lengths e.lengths x.lengths ≡ true) ⊎ (eq_lengths e.lengths x.lengths ≡ false) → ⊥
          by_lengths (inl q) = by_fate q (fate x s a k e w t i bt g r bytes op) refl (let z = sym (course_is x s a k e w t i bt g r bytes op q) ∙ c in cc)
          by_lengths (inr q) = clash (let z = sym (course_other x s a k e w t i bt g r bytes op q) ∙ c in cc)

    -- ---- what it gets

    adds_none : (b : ℕ) → (next s e).ready ≡ s.ready → adds s e b ≡ []
    unfolding added_by with_bytes
    adds_none b q = ap (λ (cs : List Completion). with_bytes (bytes_at (next s e) b) (drop (length s.ready) cs)) q ∙ ap (with_bytes (bytes_at (next s e) b)) (drop-length s.ready)

    abbrev st : StepsAlone x s a (next_alone x s a e) e t i
    st = steps_alone x s a k e w t i bt

    -- an open one: by how far it comes
    adds_open : (g : Plan) (r : Row) (bytes : List ℕ) (b : ℕ) → a.ops t ≡ some (is_open g r bytes) → r.buffer ≡ b → (c : Course) → (next_alone x s a e).ops t ≡ some c → adds s e b ≡ done_of c
    unfolding done_of added_by with_bytes
    adds_open g r bytes b op buf (is_open g' r' bytes') q = adds_none b (st.goes_on_lem g g' r r' bytes bytes' op q)
    adds_open g r bytes b op buf (completed c) q =
        let z = st.completes g r bytes c op q in
        ap (λ (cs : List Completion). with_bytes (bytes_at (next s e) b) (drop (length s.ready) cs)) z.0
        ∙ ap (with_bytes (bytes_at (next s e) b)) (drop-append_seam s.ready (c.0 ∷ []))
        ∙ ap (λ (bs : List ℕ). (c.0, bs) ∷ []) (ap (bytes_at (next s e)) (sym buf) ∙ z.1)
    adds_open g r bytes b op buf was_refused q = adds_none b (st.refused g r bytes op q)

    -- one that is not: it stays, and nothing is added
    module _ (c : Course) (n : (g : Plan) (r : Row) (bytes : List ℕ) → c ≡ is_open g r bytes → ⊥) (op : a.ops t ≡ some c) where
      shut_same : (c' : Course) → (next_alone x s a e).ops t ≡ some c' → c ≡ c'
      shut_same c' q = let z = sym (shut x s a k e w (listed x s a k e es f) t i bt c n op) ∙ q in cc

      adds_shut : (b : ℕ) (c' : Course) → (next_alone x s a e).ops t ≡ some c' → done_of c ++ adds s e b ≡ done_of c'
      unfolding leave
      adds_shut b c' q =
          ap (λ (cs : List Completed). done_of c ++ cs) (adds_none b (ap (λ (y : State). y.ready) (st.none_open (λ g r bytes z. n g r bytes (let y = sym op ∙ z in cc))).1))
          ∙ append-nil (done_of c) ∙ ap done_of (shut_same c' q)

    adds_more : (c : Course) → a.ops t ≡ some c → (b : ℕ) → InBuffer b c → (c' : Course) → (next_alone x s a e).ops t ≡ some c' → done_of c ++ adds s e b ≡ done_of c'
    unfolding done_of InBuffer
    adds_more (is_open g r bytes) op b buf c' q = adds_open g r bytes b op buf c' q
    adds_more (completed c) op b buf c' q = adds_shut (completed c) (λ g r bytes z. clash (cc)) op b c' q
    adds_more was_refused op b buf c' q = adds_shut was_refused (λ g r bytes z. clash (cc)) op b c' q

    kept_on : (c : Course) → a.ops t ≡ some c → c ≢ was_refused → (next_alone x s a e).ops t ≢ some was_refused
    kept_on (is_open g r bytes) op n q = not_refused g r bytes op q
    kept_on (completed c) op n q = n (shut_same (completed c) (λ g r bytes z. clash (cc)) op was_refused q)
    kept_on was_refused op n q = absurd (n refl)

  -- whatever the event brings
  module _ (t : ℕ) (c : Course) (op : a.ops t ≡ some c) where
    gets_next : (b : ℕ) → InBuffer b c → (c' : Course) → (next_alone x s a e).ops t ≡ some c' → done_of c ++ pick (is_brought (brought t e.made)) (adds s e b) [] ≡ done_of c'
    unfolding is_brought pick
    gets_next b buf c' q = by_brought (brought t e.made) refl
      where
        by_brought : (y : Option Input) → brought t e.made ≡ y → done_of c ++ pick (is_brought y) (adds s e b) [] ≡ done_of c'
        by_brought none z = append-nil (done_of c) ∙ ap done_of (let same = sym op ∙ sym (next_other x s a e (listed x s a k e es f) t z) ∙ q in cc)
        by_brought (some i) z = adds_more t i z c op b buf c' q

    kept_next : c ≢ was_refused → (next_alone x s a e).ops t ≢ some was_refused
    kept_next n q = by_brought (brought t e.made) refl
      where
        by_brought : (y : Option Input) → brought t e.made ≡ y → ⊥
        by_brought none z = n (let same = sym op ∙ sym (next_other x s a e (listed x s a k e es f) t z) ∙ q in cc)
        by_brought (some i) z = kept_on t i z c op n q

-- ---- a list

pub record Through (x : Start) (forced : ℕ → Bool) (first : StdOption FirstCause) (s : State) (a : Alones) (l : List Event) (t b : ℕ) (c : Course) : Type 0 where
  pub course : (run_alone x s a l).ops t ≡ some (course_by x forced first c (given s l t))
  pub got : done_of c ++ gets s l t b ≡ done_of (course_by x forced first c (given s l t))
  pub kept : course_by x forced first c (given s l t) ≢ was_refused

pub through : (x : Start) (forced : ℕ → Bool) (first : StdOption FirstCause) (t b : ℕ) (l : List Event) (s : State) (a : Alones) → Reached x s a → Fits s l → a.forced ≡ forced → a.first ≡ first
    → (c : Course) → a.ops t ≡ some c → InBuffer b c → c ≢ was_refused → Through x forced first s a l t b c
unfolding given gets alones course_by
through x forced first t b [] s a k f fo fi c op buf n = record { course = op; got = append-nil (done_of c); kept = n }
through x forced first t b (e ∷ es) s a k f fo fi c op buf n =
    let w = host_may x s a k e es f in
    let li = listed x s a k e es f in
    let vs = given_by s e t in
    let c' = course_by x forced first c vs in
    let op' : (next_alone x s a e).ops t ≡ some c' = course_next x s a k e w li t c op ∙ (λ j. some (course_by x (fo j) (fi j) c vs)) in
    let z =
    through x forced first t b es (next s e) (next_alone x s a e) (reached x s a k e es f) (behind x s a k e es f) (next_forced x s a e li ∙ fo) (next_first x s a k e es f ∙ fi) c' op'
    (course_buffer x forced first b c vs buf) (λ q. kept_next x s a k e es f t c op n (op' ∙ ap some q)) in
    let both = course_append x forced first c vs (given (next s e) es t) in
    record {
      course = z.course ∙ ap some (sym both);
      got =
          sym (append_assoc (done_of c) (pick (is_brought (brought t e.made)) (adds s e b) []) (gets (next s e) es t b))
          ∙ ap (λ (cs : List Completed). cs ++ gets (next s e) es t b) (gets_next x s a k e es f t c op b buf c' op')
          ∙ z.got ∙ ap done_of (sym both);
      kept = λ q. z.kept (sym both ∙ q);
    }
