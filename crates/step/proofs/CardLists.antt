-- The card through one of demand 3's lists, byte by byte: a byte follows the one open write that is mapped to it, by what that operation is given; and it stays
-- where there is none.
use mathlib.Core.Path.{◌≡◌, refl, sym, ap, ◌∙◌, subst}
use mathlib.Core.Logic.{◌≢◌, inl, inr}
use mathlib.Core.Bool.{Bool, true, false}
use mathlib.Core.Option.{Option, none, some}
use mathlib.Core.List.{List, [], ◌∷◌, ◌++◌}
use Prim.Native.Nat.{ℕ, ◌+◌, ◌<◌}
use native.Mathlib.Decide.{ℕ_discrete}
use borrow.Author.Tests.{eq-eqb, ne_eqb}
use lib.Dec.{eqb}
use Rattle.layout.specs.Pick.{pick}
use Rattle.layout.proofs.Tests.{not_both}
use Rattle.regionmap.specs.Map.{place}
use Rattle.posix.specs.Posix.{Card}
use Rattle.std.specs.declared.option.Option.{Option as StdOption}
use Rattle.domain.specs.declared.FirstCause.{FirstCause}
use Rattle.model.specs.declared.Awaits.{Awaits}
use Rattle.model.specs.declared.Awaits.TheVariants.{Nothing, Piece, Flush}
use Rattle.model.specs.declared.Kind.TheVariants.{Page, Read}
use Rattle.model.specs.declared.Row.{Row}
use Rattle.model.specs.State.{State}
use Rattle.model.specs.Opening.{Plan}
use Rattle.step.specs.Questions.{region_at}
use Rattle.step.specs.Rules.{Input, range_start, range_end}
use Rattle.step.specs.Step.{queue_tag, row_at, row_of, generation_of, raised, is_live, names, bytes_at, plan_of}
use Rattle.step.specs.Run.{Event, leave, next, reply_to, Start}
use Rattle.step.specs.Lists.{brought, is_away, plan_at, left_in, Given, given_as, given_by, given, wrote_by, tag_in, card_by, card_after, HostMay}
use Rattle.step.specs.Alone.{Course, Course.is_open, Course.completed, Course.was_refused, Alones}
use Rattle.step.specs.Demand3.{Mapped, is_write, Fits}
use Rattle.step.proofs.AloneTags.{clash, freed_dead, tag_of, names_live, names_generation}
use Rattle.step.proofs.CardBytes.{wrote_byte, wrote_alike, wrote_none, wrote_away}
use Rattle.step.proofs.ListsBrought.{brings}
use Rattle.step.proofs.ListsRows.{Turned, turned_on, OfBefore, of_before}
use Rattle.step.proofs.ListsWalk.{host_may, listed, behind, reached, moved}
use Rattle.step.proofs.ProjectionFixed.{next_plans}
use Rattle.step.proofs.ProjectionFed.{met}
use Rattle.step.proofs.ProjectionReached.{Reached, next_alone, reached_left}
use Rattle.step.proofs.ProjectionSteps.{unnamed, steps_alone}
use Rattle.step.proofs.QuietCourse.{fed_by, course_by, course_next, next_forced}
use Rattle.step.proofs.QuietLists.{next_first}

-- ---- no write of some rows is mapped to the byte y

-- of the rows for which P holds
abbrev pub Clear : (ℕ → Type 0) → State → ℕ → Type 0
Clear P s y = (r : ℕ) → P r → is_write (row_at s r).awaits ≡ true → Mapped s (row_at s r) y → ⊥

pub write_live : (a : Awaits) → is_write a ≡ true → is_live a ≡ true
unfolding is_write is_live
write_live Nothing e = e
write_live (Piece (Page a b) s) e = refl
write_live (Piece (Read a b) s) e = refl
write_live (Flush t) e = refl

-- an operation is mapped as it was before
mapped_before : (s : State) (e : Event) (x x' : Row) (y : ℕ) → OfBefore x x' → Mapped (next s e) x' y → Mapped s x y
unfolding plan_of
mapped_before s e x x' y o m = record {
  i = m.i;
  inside = subst (λ (n : ℕ). n + m.i < range_end x.awaits) o.start (subst (λ (n : ℕ). range_start x'.awaits + m.i < n) o.end m.inside);
  at = (λ j. place (map_is j) (sym o.start j + m.i)) ∙ m.at;
}
  where
    map_is : (region_at s x.handle).map ≡ (region_at (next s e) x'.handle).map
    map_is = sym (ap (λ (h : ℕ). (region_at (next s e) h).map) o.handle ∙ ap (λ (g : Plan). g.map) (next_plans s e x.handle))

module _ (x : Start) (s : State) (a : Alones) (k : Reached x s a) (e : Event) (es : List Event) (f : Fits s (e ∷ es)) where
  clear_next : (P : ℕ → Type 0) (y : ℕ) → Clear P s y → Clear P (next s e) y
  clear_next P y c r p w m =
      let o = of_before (row_at s r) (row_at (next s e) r) (write_live (row_at (next s e) r).awaits w) (moved x s a k e es f r) in
      c r p (sym o.write ∙ w) (mapped_before s e (row_at s r) (row_at (next s e) r) y o m)

-- ---- a byte that no open write is mapped to

abbrev pub Every : ℕ → Type 0
Every r = Unit {0}

card_cold : (x : Start) (s : State) (a : Alones) → Reached x s a → (e : Event) (card : Card) (y : ℕ) → Clear Every s y → card_by s e card y ≡ card y
unfolding card_by pick
card_cold x s a k e card y c = by_reply (is_away (reply_to s e))
  where
    t : ℕ
    t = tag_in e.made

    r : Row
    r = row_at s (row_of t)

    by_reply : (b : Bool) → pick b card (wrote_by (plan_at s r) r.awaits (bytes_at (leave s e.leaves) r.buffer) (brought t e.made) card) y ≡ card y
    by_reply true = refl
    by_reply false = wrote_away s k.sound (row_of t) (bytes_at (leave s e.leaves) r.buffer) (brought t e.made) card y (λ w z. c (row_of t) tt w z)

module _ (x : Start) where
  pub cold : (l : List Event) (s : State) (a : Alones) → Reached x s a → Fits s l → (card : Card) (y : ℕ) → Clear Every s y → card_after s l card y ≡ card y
  unfolding card_after
  cold [] s a k f card y c = refl
  cold (e ∷ es) s a k f card y c =
      cold es (next s e) (next_alone x s a e) (reached x s a k e es f) (behind x s a k e es f) (card_by s e card) y (clear_next x s a k e es f Every y c)
      ∙ card_cold x s a k e card y c

-- ---- a byte that one open write is mapped to

module _ (x : Start) (forced : ℕ → Bool) (first : StdOption FirstCause) (y : ℕ) where
  unfoldable pub byte_of : Course → Given → ℕ → ℕ
  byte_of (is_open g r bytes) v old = wrote_by g r.awaits bytes (some v.0) (λ z. old) y
  byte_of (completed c) v old = old
  byte_of was_refused v old = old

  unfoldable pub byte_along : Course → List Given → ℕ → ℕ
  byte_along c [] old = old
  byte_along c (v ∷ vs) old = byte_along (fed_by x forced first c v) vs (byte_of c v old)

  pub byte_append : (c : Course) (vs ws : List Given) (old : ℕ) → byte_along c (vs ++ ws) old ≡ byte_along (course_by x forced first c vs) ws (byte_along c vs old)
  unfolding byte_along course_by
  byte_append c [] ws old = refl
  byte_append c (v ∷ vs) ws old = byte_append (fed_by x forced first c v) vs ws (byte_of c v old)

module _ (x : Start) (s : State) (a : Alones) (k : Reached x s a) (e : Event) (w : HostMay s e.leaves) (forced : ℕ → Bool) (first : StdOption FirstCause) (card : Card) (y : ℕ) where
  abbrev s₁ : State
  s₁ = leave s e.leaves

  -- what a call under the tag u writes
  abbrev writes : ℕ → Option Input → Card
  writes u i = wrote_by (plan_at s (row_at s (row_of u))) (row_at s (row_of u)).awaits (bytes_at s₁ (row_at s (row_of u)).buffer) i card

  -- to its own operation
  own_byte_lem : (t : ℕ) (i : Input) → brought t e.made ≡ some i → is_away (reply_to s e) ≡ false → (c : Course) → a.ops t ≡ some c → (left : List ℕ) → writes t (some i) y ≡ byte_of x forced first y c (i, left) (card y)
  unfolding byte_of row_at leave plan_at region_at
  own_byte_lem t i bt heard (is_open g r bytes) op left =
      let z = k.projected.only t g r bytes op in
      let row = row_at s (row_of t) in
      let k₁ = reached_left x s a k e.leaves w in
      let m = met x s₁ k₁.sound k₁.fixed a k₁.projected t z.0 i in
      let same : m.bytes ≡ bytes = let q = sym m.is_open_lem ∙ op in cc in
      wrote_byte (plan_at s row) row.awaits (bytes_at s₁ row.buffer) (some i) card y
      ∙ ap (λ (after : Card). after y) (sym (wrote_alike (plan_at s row) row.awaits m.bytes (bytes_at s₁ row.buffer) (some i) (λ q. card y) m.alike.same))
      ∙ (λ j. wrote_by ((ap (plan_at s) z.1 ∙ z.2) j) (z.1 j).awaits (same j) (some i) (λ q. card y) y)
  own_byte_lem t i bt heard (completed c) op left = absurd (not_both ((steps_alone x s a k e w t i bt).none_open (λ g r bytes z. clash (let q = sym op ∙ z in cc))).0 heard)
  own_byte_lem t i bt heard was_refused op left = absurd (not_both ((steps_alone x s a k e w t i bt).none_open (λ g r bytes z. clash (let q = sym op ∙ z in cc))).0 heard)

  module _ (r g t : ℕ) (at : row_of t ≡ r) (gen : generation_of t ≡ g) (clear : Clear (λ j. j ≢ r) s y) (turned : Turned g (row_at s r)) where
    -- another tag names another row
    other_row : (u : ℕ) → u ≢ t → names (row_at s (row_of u)) u ≡ true → row_of u ≢ r
    other_row u n named e = by_turn turned
      where
        here : names (row_at s r) u ≡ true
        here = ap (λ (j : ℕ). names (row_at s j) u) (sym e) ∙ named

        by_turn : Turned g (row_at s r) → ⊥
        by_turn (inl z) = n (tag_of u ∙ (λ j. queue_tag ((e ∙ sym at) j) ((sym (names_generation (row_at s r) u here) ∙ z.1 ∙ sym gen) j)) ∙ sym (tag_of t))
        by_turn (inr z) = not_both (names_live (row_at s r) u here) (ap (λ (q : Row). is_live q.awaits) z ∙ freed_dead (raised g))

    -- under another tag
    other_byte : (u : ℕ) (i : Input) → u ≢ t → brought u e.made ≡ some i → is_away (reply_to s e) ≡ false → writes u (some i) y ≡ card y
    other_byte u i n bu heard = by_name (names (row_at s (row_of u)) u) refl
      where
        by_name : (b : Bool) → names (row_at s (row_of u)) u ≡ b → writes u (some i) y ≡ card y
        by_name true q = wrote_away s k.sound (row_of u) (bytes_at s₁ (row_at s (row_of u)).buffer) (some i) card y (λ w z. clear (row_of u) (other_row u n q) w z)
        by_name false q = absurd (not_both (unnamed x s a k e w u i bu q).0 heard)

    module _ (c : Course) (op : a.ops t ≡ some c) where
      abbrev left : List ℕ
      left = left_in s₁ (row_at s (row_of t))

      abbrev along : List Given → ℕ
      along vs = byte_along x forced first y c vs (card y)

      -- by the operation that the event is brought to
      heard_byte : is_away (reply_to s e) ≡ false → (b : Option Input) → brought (tag_in e.made) e.made ≡ b → writes (tag_in e.made) b y ≡ along (given_as (brought t e.made) false left)
      unfolding given_as byte_along pick
      heard_byte heard none q =
          ap (λ (after : Card). after y) (wrote_none (plan_at s (row_at s (row_of (tag_in e.made)))) _ _ card)
          ∙ ap (λ (b : Option Input). along (given_as b false left)) (sym (none_too (brought t e.made) refl))
        where
          none_too : (b : Option Input) → brought t e.made ≡ b → brought t e.made ≡ none
          none_too none z = z
          none_too (some i) z = clash (let v = ap (λ (u : ℕ). brought u e.made) (brings e.made t i z).tag ∙ z in cc)
      heard_byte heard (some i) q = by_tag (ℕ_discrete (tag_in e.made) t)
        where
          u : ℕ
          u = tag_in e.made

          to_t : brought t e.made ≡ pick (eqb u t) (some i) none
          to_t = (brings e.made u i q).under t

          by_tag : Dec (u ≡ t) → writes u (some i) y ≡ along (given_as (brought t e.made) false left)
          by_tag (yes z) =
              let bt : brought t e.made ≡ some i = to_t ∙ ap (λ (b : Bool). pick b (some i) none) (eq-eqb u t z) in
              ap (λ (v : ℕ). writes v (some i) y) z ∙ own_byte_lem t i bt heard c op left ∙ ap (λ (b : Option Input). along (given_as b false left)) (sym bt)
          by_tag (no n) =
              let bt : brought t e.made ≡ none = to_t ∙ ap (λ (b : Bool). pick b (some i) none) (ne_eqb u t n) in
              other_byte u i n q heard ∙ ap (λ (b : Option Input). along (given_as b false left)) (sym bt)

      away_none : (b : Option Input) → given_as b true left ≡ []
      unfolding given_as pick
      away_none none = refl
      away_none (some i) = refl

      card_hot : card_by s e card y ≡ along (given_by s e t)
      unfolding card_by given_by pick byte_along
      card_hot = by_reply (is_away (reply_to s e)) refl
        where
          by_reply : (b : Bool) → is_away (reply_to s e) ≡ b → pick b card (writes (tag_in e.made) (brought (tag_in e.made) e.made)) y ≡ along (given_as (brought t e.made) b left)
          by_reply true q = ap along (sym (away_none (brought t e.made)))
          by_reply false q = heard_byte q (brought (tag_in e.made) e.made) refl

pub hot : (x : Start) (forced : ℕ → Bool) (first : StdOption FirstCause) (y r g t : ℕ) → row_of t ≡ r → generation_of t ≡ g → (l : List Event) (s : State) (a : Alones) → Reached x s a → Fits s l → a.forced ≡ forced
    → a.first ≡ first → (card : Card) → Clear (λ j. j ≢ r) s y → Turned g (row_at s r) → (c : Course) → a.ops t ≡ some c → card_after s l card y ≡ byte_along x forced first y c (given s l t) (card y)
unfolding card_after given byte_along
hot x forced first y r g t at gen [] s a k f fo fi card clear turned c op = refl
hot x forced first y r g t at gen (e ∷ es) s a k f fo fi card clear turned c op =
    let w = host_may x s a k e es f in
    let li = listed x s a k e es f in
    let vs = given_by s e t in
    hot x forced first y r g t at gen es (next s e) (next_alone x s a e) (reached x s a k e es f) (behind x s a k e es f) (next_forced x s a e li ∙ fo) (next_first x s a k e es f ∙ fi) (card_by s e card)
    (clear_next x s a k e es f (λ j. j ≢ r) y clear) (turned_on g (row_at s r) (row_at (next s e) r) turned (moved x s a k e es f r)) (course_by x forced first c vs)
    (course_next x s a k e w li t c op ∙ (λ j. some (course_by x (fo j) (fi j) c vs)))
    ∙ ap (byte_along x forced first y (course_by x forced first c vs) (given (next s e) es t)) (card_hot x s a k e w forced first card y r g t at gen clear turned c op)
    ∙ sym (byte_append x forced first y c vs (given (next s e) es t) (card y))
