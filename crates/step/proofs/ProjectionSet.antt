-- One row is replaced, and one operation alone: the projection is kept. Used of an acceptance, where the row was free, and of what an answer or a flush
-- result leads to, where the tag named it.
use mathlib.Core.Path.{◌≡◌, refl, sym, ap, ◌∙◌, subst}
use mathlib.Core.Logic.{◌≢◌}
use mathlib.Core.Bool.{true}
use mathlib.Core.Option.{some}
use mathlib.Core.List.{List, []}
use Prim.Native.Nat.{ℕ, ◌<◌}
use native.Mathlib.Decide.{ℕ_discrete}
use borrow.Author.Tests.{eq-eqb, ne_eqb}
use lib.ListN.{length, get_or, set, drop}
use lib.Seq.{get_or-set_same, get_or-set_other}
use Rattle.layout.specs.Pick.{pick}
use Rattle.iobuf.specs.Turn.{stretch, with_stretch}
use Rattle.iobuf.proofs.Laws.{turn_laws}
use Rattle.model.specs.declared.Opening.{Opening}
use Rattle.model.specs.declared.Row.{Row}
use Rattle.model.specs.State.{Region, no_region, State, freed}
use Rattle.model.specs.Opening.{Plan, plan_in}
use Rattle.step.specs.Questions.{region_at}
use Rattle.step.specs.Step.{queue_tag, row_at, row_of, is_live, names, bytes_at, plan_of}
use Rattle.step.specs.Sound.{Sound}
use Rattle.step.specs.Lists.{loose, plan_at, tag_at}
use Rattle.step.specs.Alone.{Course, Course.is_open, Alones, put_at}
use Rattle.step.specs.Demand3.{Alike, IsAlone, Projected}
use Rattle.step.proofs.AloneTags.{row_of_its_tag}
use Rattle.step.proofs.Places.{by_place}
use Rattle.step.proofs.Buffers.{in_pool_lem}

-- ---- a function with another value in one place

pub put_here : {A : Type 0} (t : ℕ) (x : A) (f : ℕ → A) → put_at t x f t ≡ x
unfolding put_at pick
put_here t x f = rw (eq-eqb t t refl)

pub put_there : {A : Type 0} (t u : ℕ) (x : A) (f : ℕ → A) → t ≢ u → put_at t x f u ≡ f u
unfolding put_at pick
put_there t u x f n = rw (ne_eqb t u n)

-- ---- a table with another row in place j and other bytes in buffer b

pub record Changed (s s' : State) (j b : ℕ) (new : Row) (bytes : List ℕ) : Type 0 where
  pub settings : s'.settings ≡ s.settings
  pub regions : s'.regions ≡ s.regions
  pub rows : s'.rows ≡ set s.rows j new
  pub pool : s'.pool ≡ with_stretch s.settings.capacity b bytes s.pool

module _ (s s' : State) (j b : ℕ) (new : Row) (bytes : List ℕ) (ch : Changed s s' j b new bytes) where
  pub row_here : j < length s.rows → row_at s' j ≡ new
  unfolding row_at
  row_here lt = ap (λ (l : List Row). get_or l j (freed 0)) ch.rows ∙ get_or-set_same s.rows j new (freed 0) lt

  pub row_there : (r : ℕ) → r ≢ j → row_at s' r ≡ row_at s r
  unfolding row_at
  row_there r n = ap (λ (l : List Row). get_or l r (freed 0)) ch.rows ∙ get_or-set_other s.rows j r new (freed 0) n

  -- the new row at its place, and every other as it was
  pub by_row : j < length s.rows → (P : ℕ → Row → Type 0) → P j new → ((r : ℕ) → r ≢ j → P r (row_at s r)) → (r : ℕ) → P r (row_at s' r)
  unfolding row_at
  by_row lt P here other r = subst (λ (l : List Row). P r (get_or l r (freed 0))) (sym ch.rows) (by_place s.rows j new (freed 0) lt P here other r)

  bytes_after : (k : ℕ) → bytes_at s' k ≡ stretch s.settings.capacity k (with_stretch s.settings.capacity b bytes s.pool)
  unfolding bytes_at
  bytes_after k = λ i. stretch (ch.settings i).capacity k (ch.pool i)

  module _ (i : Sound s) (lt : b < s.settings.buffers) (long : length bytes ≡ s.settings.capacity) where
    pub bytes_here : bytes_at s' b ≡ bytes
    bytes_here = bytes_after b ∙ turn_laws.stretch_filled s.settings.capacity b bytes s.pool (in_pool_lem s i b lt s.pool i.pool) long

    pub bytes_there : (k : ℕ) → k ≢ b → bytes_at s' k ≡ bytes_at s k
    unfolding bytes_at
    bytes_there k n = bytes_after k ∙ turn_laws.stretch_other s.settings.capacity b k bytes s.pool (in_pool_lem s i b lt s.pool i.pool) long n

  pub plan_after_lem : (x : Row) → plan_at s' x ≡ plan_at s x
  unfolding plan_at region_at
  plan_after_lem x = ap (λ (l : List Region). plan_of (get_or l x.handle no_region)) ch.regions

-- ---- an operation alone with it

pub record Replaced (s s' : State) (a a' : Alones) (t j b : ℕ) (new : Row) (bytes : List ℕ) (c : Course) : Type 0 where
  pub changed : Changed s s' j b new bytes
  pub in_rows : j < length s.rows
  pub row : row_of t ≡ j
  pub in_buffers : b < s.settings.buffers
  pub long : length bytes ≡ s.settings.capacity
  -- no other live row has the buffer, and no other tag names the row
  pub apart : (r : ℕ) → r ≢ j → is_live (row_at s r).awaits ≡ true → (row_at s r).buffer ≢ b
  pub tags : (u : ℕ) → row_of u ≡ j → names (row_at s j) u ≡ true → u ≡ t
  -- the operation alone under the tag is as the row
  pub ops : (u : ℕ) → a'.ops u ≡ put_at t (some c) a.ops u
  pub to_open : is_live new.awaits ≡ true → (c ≡ is_open (plan_at s new) new bytes) × (t ≡ queue_tag j new.generation) × (new.buffer ≡ b)
  pub from_open : (g : Plan) (r : Row) (bs : List ℕ) → c ≡ is_open g r bs → (names new t ≡ true) × (new ≡ r) × (plan_at s r ≡ g)
  -- the plans, the marks, the first cause and the count
  pub plans : a'.plans ≡ a.plans
  pub forced : (h : ℕ) → a'.forced h ≡ a.forced h
  pub first : a'.first ≡ s'.poison
  pub count : a'.count ≡ s'.counts.submissions

module _ (s s' : State) (i : Sound s) (a a' : Alones) (p : Projected s a) (t j b : ℕ) (new : Row) (bytes : List ℕ) (c : Course) (w : Replaced s s' a a' t j b new bytes c) where
  -- the operation in a row x at place r
  record Alone (r : ℕ) (x : Row) : Type 0 where
    its : List ℕ
    same : a'.ops (queue_tag r x.generation) ≡ some (is_open (plan_at s' x) x its)
    alike : Alike s' x its

  cap_after : s'.settings.capacity ≡ s.settings.capacity
  cap_after = ap (λ (o : Opening). o.capacity) w.changed.settings

  here : is_live new.awaits ≡ true → Alone j new
  here live =
      let z = w.to_open live in
      let held : bytes_at s' new.buffer ≡ bytes = ap (bytes_at s') z.2 ∙ bytes_here s s' j b new bytes w.changed i w.in_buffers w.long in
      record {
        its = bytes;
        same = ap a'.ops (sym z.1) ∙ w.ops t ∙ put_here t (some c) a.ops ∙ ap some z.0 ∙ ap (λ (g : Plan). some (is_open g new bytes)) (sym (plan_after_lem s s' j b new bytes w.changed new));
        alike = record { count = w.long ∙ sym cap_after; same = ap (drop (loose (plan_at s' new) new.awaits)) (sym held) };
      }

  -- another row's tag is another
  other_tag : (r : ℕ) → r ≢ j → is_live (row_at s r).awaits ≡ true → t ≢ tag_at s r
  other_tag r n live e = n (sym (row_of_its_tag s i r live) ∙ ap row_of (sym e) ∙ w.row)

  there : (r : ℕ) → r ≢ j → is_live (row_at s r).awaits ≡ true → Alone r (row_at s r)
  unfolding tag_at
  there r n live =
      let z = p.each r live in
      let x = row_at s r in
      let held : bytes_at s' x.buffer ≡ bytes_at s x.buffer = bytes_there s s' j b new bytes w.changed i w.in_buffers w.long x.buffer (w.apart r n live) in
      let loosely : loose (plan_at s' x) x.awaits ≡ loose (plan_at s x) x.awaits = ap (λ (g : Plan). loose g x.awaits) (plan_after_lem s s' j b new bytes w.changed x) in
      record {
        its = z.bytes;
        same = w.ops (tag_at s r) ∙ put_there t (tag_at s r) (some c) a.ops (other_tag r n live) ∙ z.same ∙ ap (λ (g : Plan). some (is_open g x z.bytes)) (sym (plan_after_lem s s' j b new bytes w.changed x));
        alike = record {
          count = z.alike.count ∙ sym cap_after;
          same =
              ap (λ (m : ℕ). drop m z.bytes) loosely ∙ z.alike.same ∙ (λ k. drop (sym loosely k) (sym held k));
        };
      }

  each_after : (r : ℕ) → is_live (row_at s' r).awaits ≡ true → IsAlone s' a' r
  unfolding tag_at
  each_after r live =
      let z = by_row s s' j b new bytes w.changed w.in_rows (λ k x. is_live x.awaits ≡ true → Alone k x) here there r live in
      record { bytes = z.its; same = z.same; alike = z.alike }

  abbrev Stands : ℕ → Plan → Row → Type 0
  Stands u g r = (names (row_at s' (row_of u)) u ≡ true) × (row_at s' (row_of u) ≡ r) × (plan_at s' r ≡ g)

  only_here : (g : Plan) (r : Row) (bs : List ℕ) → a'.ops t ≡ some (is_open g r bs) → Stands t g r
  only_here g r bs e =
      let got : some c ≡ some (is_open g r bs) = sym (w.ops t ∙ put_here t (some c) a.ops) ∙ e in
      let z = w.from_open g r bs (cc) in
      let at : row_at s' (row_of t) ≡ new = ap (row_at s') w.row ∙ row_here s s' j b new bytes w.changed w.in_rows in
      (ap (λ (x : Row). names x t) at ∙ z.0, at ∙ z.1, plan_after_lem s s' j b new bytes w.changed r ∙ z.2)

  only_there : (u : ℕ) (g : Plan) (r : Row) (bs : List ℕ) → t ≢ u → a'.ops u ≡ some (is_open g r bs) → Stands u g r
  only_there u g r bs n e =
      let z = p.only u g r bs (sym (w.ops u ∙ put_there t u (some c) a.ops n) ∙ e) in
      let other : row_of u ≢ j = λ q. n (sym (w.tags u q (ap (λ (k : ℕ). names (row_at s k) u) (sym q) ∙ z.0))) in
      let at : row_at s' (row_of u) ≡ row_at s (row_of u) = row_there s s' j b new bytes w.changed (row_of u) other in
      (ap (λ (x : Row). names x u) at ∙ z.0, at ∙ z.1, plan_after_lem s s' j b new bytes w.changed r ∙ z.2)

  only_after : (u : ℕ) (g : Plan) (r : Row) (bs : List ℕ) → a'.ops u ≡ some (is_open g r bs) → Stands u g r
  only_after u g r bs e = by_case (ℕ_discrete t u)
    where
      by_case : Dec (t ≡ u) → Stands u g r
      by_case (yes q) = subst (λ (v : ℕ). Stands v g r) q (only_here g r bs (ap a'.ops q ∙ e))
      by_case (no n) = only_there u g r bs n e

  pub projected_set : Projected s' a'
  unfolding region_at
  projected_set = record {
    each = each_after;
    only = only_after;
    regions = ap length w.plans ∙ p.regions ∙ ap (λ (o : Opening). o.regions) (sym w.changed.settings);
    plans = λ h. ap (λ (ps : List Plan). get_or ps h (plan_in [])) w.plans ∙ p.plans h ∙ ap (λ (gs : List Region). plan_of (get_or gs h no_region)) (sym w.changed.regions);
    forced = λ h lt.
        w.forced h ∙ p.forced h (subst (λ (o : Opening). h < o.regions) w.changed.settings lt)
        ∙ ap (λ (l : List Region). (get_or l h no_region).forced) (sym w.changed.regions);
    first = w.first;
    count = w.count;
  }
