-- What is supposed of a list of the host's acts is a test, so that it holds of a given list by computation: the host puts bytes only into a buffer that it holds, or
-- into a read's piece under way.
use mathlib.Core.Path.{◌≡◌, refl, sym, ap, ◌∙◌, subst}
use mathlib.Core.Logic.{◌⊎◌, inl, inr}
use mathlib.Core.Bool.{Bool, true, false, not, ◌&&◌, ◌||◌}
use mathlib.Core.Option.{Option, none, some}
use mathlib.Core.List.{List, [], ◌∷◌, ◌++◌}
use Prim.Native.Nat.{ℕ, ◌+◌, ◌-◌, ◌≤◌, ◌<◌}
use native.Mathlib.Decide.{ℕ_discrete}
use native.Mathlib.Omega.{arith}
use lib.ListN.{length, take, drop, length-append, length-drop}
use lib.Seq.{take-append_seam, drop-append_seam, drop-drop}
use lib.Dec.{leb, ltb, eqb}
use Rattle.layout.specs.Pick.{pick}
use borrow.Author.Tests.{ltb-true, leb-true, eqb-true}
use Rattle.layout.proofs.Tests.{not_both, and_left, and_right, or_cases}
use Rattle.iobuf.specs.Turn.{stretch}
use Rattle.iobuf.specs.TurnLaws.{Fits as LiesIn}
use Rattle.iobuf.proofs.Laws.{turn_laws}
use Rattle.model.specs.declared.Kind.TheVariants.{Page, Read}
use Rattle.model.specs.declared.Awaits.{Awaits}
use Rattle.model.specs.declared.Awaits.TheVariants.{Nothing, Piece, Flush}
use Rattle.model.specs.declared.Row.{Row}
use Rattle.model.specs.State.{State}
use Rattle.model.specs.Memory.{over}
use Rattle.step.specs.Questions.{region_at, held_at}
use Rattle.step.specs.Rules.{piece_length, is_whole, is_refusal, first_refused, Input, Input.answered, Input.flushed}
use Rattle.step.specs.Step.{row_of, row_at, is_live, bytes_at}
use Rattle.step.specs.Sound.{Sound}
use Rattle.step.specs.Run.{Event, leave, next, reply_to}
use Rattle.step.specs.Lists.{brought, is_away, loose, plan_at, left_in, Given, given_as, given_by, given, is_brought, tag_in, LooseIn, HostMay, Hosted}
use Rattle.step.specs.Demand3.{is_listed, FairTo, Fair, Fits}
use Rattle.step.proofs.AloneTags.{clash}
use Rattle.step.proofs.Buffers.{in_pool_lem, bytes_length}
use Rattle.step.proofs.Histories.{keeps_next}
use Rattle.step.proofs.Laws.{keeps}
use Rattle.examples.specs.Acts.{Act, Act.makes, Act.writes, Act.arrives, Act.lends, made_in, fronted, leaves_of, event_of, events_of}
use Rattle.examples.proofs.Quiet.{may}

-- ---- the host may do it: the buffer is held, or the bytes are within the piece under way

-- the bytes of a row's piece under way that are the host's
abbrev pub loose_at : State → ℕ → ℕ
loose_at s r = loose (plan_at s (row_at s r)) (row_at s r).awaits

unfoldable pub in_buffer : State → ℕ → List ℕ → Bool
in_buffer s b bytes = ltb b s.settings.buffers && leb (length bytes) s.settings.capacity

unfoldable pub permits : State → Act → Bool
permits s (makes m) = true
permits s (writes b bytes m) = in_buffer s b bytes && held_at s b
permits s (arrives r bytes m) = in_buffer s (row_at s r).buffer bytes && (is_live (row_at s r).awaits && leb (length bytes) (loose_at s r))
permits s (lends l m) = true

-- past what is put at the front, all is as it was
past_over : (n : ℕ) (xs ys : List ℕ) → length xs ≤ n → drop n (over xs ys) ≡ drop n ys
unfolding over
past_over n xs ys le =
    let on : length xs + (n - length xs) ≡ n = omega arith in
    ap (λ (m : ℕ). drop m (xs ++ drop (length xs) ys)) (sym on) ∙ sym (drop-drop (n - length xs) (length xs) (xs ++ drop (length xs) ys))
    ∙ ap (drop (n - length xs)) (drop-append_seam xs (drop (length xs) ys))
    ∙ drop-drop (n - length xs) (length xs) ys ∙ ap (λ (m : ℕ). drop m ys) on

over_length : (xs ys : List ℕ) → length xs ≤ length ys → length (over xs ys) ≡ length ys
unfolding over
over_length xs ys le = simp (length-append, length-drop) (omega arith)

module _ (s : State) (i : Sound s) (b : ℕ) (bytes : List ℕ) (fits : in_buffer s b bytes ≡ true) where
  lt : b < s.settings.buffers
  unfolding in_buffer
  lt = ltb-true b s.settings.buffers (and_left (ltb b s.settings.buffers) (leb (length bytes) s.settings.capacity) fits)

  le : length bytes ≤ s.settings.capacity
  unfolding in_buffer
  le = leb-true (length bytes) s.settings.capacity (and_right (ltb b s.settings.buffers) (leb (length bytes) s.settings.capacity) fits)

  lies : LiesIn s.settings.capacity b s.pool
  lies = in_pool_lem s i b lt s.pool i.pool

  long : length (over bytes (bytes_at s b)) ≡ s.settings.capacity
  long = over_length bytes (bytes_at s b) (omega (arith, le, bytes_length s i b lt)) ∙ bytes_length s i b lt

  -- what is left in it
  filled : stretch s.settings.capacity b (fronted s b bytes) ≡ over bytes (bytes_at s b)
  unfolding fronted
  filled = turn_laws.stretch_filled s.settings.capacity b (over bytes (bytes_at s b)) s.pool lies long

  may_front : (held_at s b ≡ true) ⊎ ((stretch s.settings.capacity b (fronted s b bytes) ≡ bytes_at s b) ⊎ LooseIn s (fronted s b bytes) b) → HostMay s (fronted s b bytes)
  unfolding bytes_at fronted
  may_front own = record { count = turn_laws.filled_length s.settings.capacity b (over bytes (bytes_at s b)) s.pool lies long; each = λ k below. by_case k (ℕ_discrete k b) }
    where
      by_case : (k : ℕ) → Dec (k ≡ b) → (held_at s k ≡ true) ⊎ ((stretch s.settings.capacity k (fronted s b bytes) ≡ bytes_at s k) ⊎ LooseIn s (fronted s b bytes) k)
      by_case k (yes e) = subst (λ (z : ℕ). (held_at s z ≡ true) ⊎ ((stretch s.settings.capacity z (fronted s b bytes) ≡ bytes_at s z) ⊎ LooseIn s (fronted s b bytes) z)) (sym e) own
      by_case k (no n) = inr (inl (turn_laws.stretch_other s.settings.capacity b k (over bytes (bytes_at s b)) s.pool lies long n))

-- the bytes of the piece under way of the read in row r
loose_in : (s : State) → Sound s → (r : ℕ) (bytes : List ℕ) → in_buffer s (row_at s r).buffer bytes ≡ true → is_live (row_at s r).awaits ≡ true
    → leb (length bytes) (loose_at s r) ≡ true → LooseIn s (fronted s (row_at s r).buffer bytes) (row_at s r).buffer
loose_in s i r bytes fits live within =
    let n = loose_at s r in
    record { r = r; buffer = refl; live = live; same = ap (drop n) (filled s i (row_at s r).buffer bytes fits) ∙ past_over n bytes (bytes_at s (row_at s r).buffer) (leb-true (length bytes) n within) }

may_act : (s : State) (a : Act) → Sound s → permits s a ≡ true → HostMay s (leaves_of s a)
unfolding permits leaves_of
may_act s (makes m) i p = may s
may_act s (writes b bytes m) i p = may_front s i b bytes (and_left (in_buffer s b bytes) (held_at s b) p) (inl (and_right (in_buffer s b bytes) (held_at s b) p))
may_act s (arrives r bytes m) i p =
    let live = is_live (row_at s r).awaits in
    let within = leb (length bytes) (loose_at s r) in
    let fits = and_left (in_buffer s (row_at s r).buffer bytes) (live && within) p in
    let there = and_right (in_buffer s (row_at s r).buffer bytes) (live && within) p in
    may_front s i (row_at s r).buffer bytes fits (inr (inr (loose_in s i r bytes fits (and_left live within there) (and_right live within there))))
may_act s (lends l m) i p = may s

after_act : (s : State) (a : Act) → Sound s → permits s a ≡ true → Sound (next s (event_of s a))
after_act s a i p = keeps_next keeps s (event_of s a) i (may_act s a i p).count

-- ---- a history

unfoldable pub permitted : State → List Act → Bool
permitted s [] = true
permitted s (a ∷ more) = permits s a && permitted (next s (event_of s a)) more

pub acts_hosted : (s : State) (acts : List Act) → Sound s → permitted s acts ≡ true → Hosted s (events_of s acts)
unfolding Hosted events_of permitted
acts_hosted s [] i p = tt
acts_hosted s (a ∷ more) i p =
    let p₁ = and_left (permits s a) (permitted (next s (event_of s a)) more) p in
    (may_act s a i p₁, acts_hosted (next s (event_of s a)) more (after_act s a i p₁) (and_right (permits s a) (permitted (next s (event_of s a)) more) p))

-- ---- one of the two lists: each event is permitted, is of the lists, and is fair

unfoldable pub fair_to : State → Row → Awaits → Input → Bool
fair_to s r Nothing i = true
fair_to s r (Piece (Page a b) sp) (answered x back flushes) = is_whole (piece_length (plan_at s r) (Page a b) sp) x && back
fair_to s r (Piece (Page a b) sp) (flushed result) = true
fair_to s r (Piece (Read a b) sp) (answered x back flushes) = not (first_refused sp x)
fair_to s r (Piece (Read a b) sp) (flushed result) = true
fair_to s r (Flush t) i = true

unfoldable pub fair_in : State → Row → Option Input → Bool
fair_in s r none = true
fair_in s r (some i) = fair_to s r r.awaits i

unfoldable pub fair : State → Event → Bool
fair s e = is_away (reply_to s e) || fair_in s (row_at s (row_of (tag_in e.made))) (brought (tag_in e.made) e.made)

unfoldable pub fits : State → List Act → Bool
fits s [] = true
fits s (a ∷ more) = permits s a && (is_listed (made_in a) && (fair s (event_of s a) && fits (next s (event_of s a)) more))

not_refused : (n : ℕ) (refusal : Bool) → not (eqb n 0 && refusal) ≡ true → n ≡ 0 → refusal ≡ false
not_refused n true t z = absurd (not_both t (ap (λ (m : ℕ). not (eqb m 0 && true)) z))
not_refused n false t z = refl

fair_to_lem : (s : State) (r : Row) (a : Awaits) (i : Input) → fair_to s r a i ≡ true → FairTo s r a i
unfolding fair_to FairTo first_refused
fair_to_lem s r Nothing i t = tt
fair_to_lem s r (Piece (Page a b) sp) (answered x back flushes) t =
    let taken = is_whole (piece_length (plan_at s r) (Page a b) sp) x in
    (and_left taken back t, and_right taken back t)
fair_to_lem s r (Piece (Page a b) sp) (flushed result) t = tt
fair_to_lem s r (Piece (Read a b) sp) (answered x back flushes) t = not_refused sp.done (is_refusal x) t
fair_to_lem s r (Piece (Read a b) sp) (flushed result) t = tt
fair_to_lem s r (Flush ticket) i t = tt

fair_in_lem : (s : State) (r : Row) (o : Option Input) → fair_in s r o ≡ true → (i : Input) → o ≡ some i → FairTo s r r.awaits i
unfolding fair_in
fair_in_lem s r none t i q = clash cc
fair_in_lem s r (some j) t i q = subst (FairTo s r r.awaits) (let z = q in cc) (fair_to_lem s r r.awaits j t)

is_fair : (s : State) (e : Event) → fair s e ≡ true → Fair s e
unfolding fair Fair
is_fair s e t i q heard = by_case (or_cases (is_away (reply_to s e)) (fair_in s row (brought (tag_in e.made) e.made)) t)
  where
    row : Row
    row = row_at s (row_of (tag_in e.made))

    by_case : (is_away (reply_to s e) ≡ true) ⊎ (fair_in s row (brought (tag_in e.made) e.made) ≡ true) → FairTo s row row.awaits i
    by_case (inl gone) = absurd (not_both gone heard)
    by_case (inr f) = fair_in_lem s row (brought (tag_in e.made) e.made) f i q

pub acts_fit : (s : State) (acts : List Act) → Sound s → fits s acts ≡ true → Fits s (events_of s acts)
unfolding Fits events_of fits
acts_fit s [] i f = tt
acts_fit s (a ∷ more) i f =
    let s' = next s (event_of s a) in
    let is = fair s (event_of s a) in
    let p = and_left (permits s a) (is_listed (made_in a) && (is && fits s' more)) f in
    let f₁ = and_right (permits s a) (is_listed (made_in a) && (is && fits s' more)) f in
    let f₂ = and_right (is_listed (made_in a)) (is && fits s' more) f₁ in
    (may_act s a i p, and_left (is_listed (made_in a)) (is && fits s' more) f₁, is_fair s (event_of s a) (and_left is (fits s' more) f₂), acts_fit s' more (after_act s a i p) (and_right is (fits s' more) f₂))

-- ---- what a list gives an operation, where all bytes of a read's piece come with its answer: nothing of the pool is asked

unfoldable pub bytes_in : Act → List ℕ
bytes_in (makes m) = []
bytes_in (writes b bytes m) = []
bytes_in (arrives r bytes m) = bytes
bytes_in (lends l m) = []

unfoldable pub told_by : State → Act → ℕ → List Given
told_by s a t = given_as (brought t (made_in a)) (is_away (reply_to s (event_of s a))) (bytes_in a)

unfoldable pub told : State → List Act → ℕ → List Given
told s [] t = []
told s (a ∷ more) t = told_by s a t ++ told (next s (event_of s a)) more t

-- the bytes that come are all those of the piece under way of the operation under the queue tag t
unfoldable pub all_come : ℕ → ℕ → Act → Bool
all_come row n (makes m) = eqb n 0
all_come row n (writes b bytes m) = eqb n 0
all_come row n (arrives r bytes m) = eqb r row && eqb (length bytes) n
all_come row n (lends l m) = eqb n 0

unfoldable pub tells : State → Act → ℕ → Bool
tells s a t =
    not (is_brought (brought t (made_in a))) || (is_away (reply_to s (event_of s a)) || all_come (row_of t) (loose_at s (row_of t)) a)

unfoldable pub telling : State → List Act → ℕ → Bool
telling s [] t = true
telling s (a ∷ more) t = permits s a && (tells s a t && telling (next s (event_of s a)) more t)

-- what is put at the front of a buffer is there
pub put_there : (s : State) → Sound s → (b : ℕ) (bytes : List ℕ) → in_buffer s b bytes ≡ true → take (length bytes) (stretch s.settings.capacity b (fronted s b bytes)) ≡ bytes
unfolding over
put_there s i b bytes fits = ap (take (length bytes)) (filled s i b bytes fits) ∙ take-append_seam bytes (drop (length bytes) (bytes_at s b))

left_arrived : (s : State) → Sound s → (r : ℕ) (bytes : List ℕ) → in_buffer s (row_at s r).buffer bytes ≡ true → length bytes ≡ loose_at s r
    → left_in (leave s (fronted s (row_at s r).buffer bytes)) (row_at s r) ≡ bytes
unfolding left_in leave plan_at region_at bytes_at
left_arrived s i r bytes fits e =
    ap (λ (m : ℕ). take m (stretch s.settings.capacity (row_at s r).buffer (fronted s (row_at s r).buffer bytes))) (sym e) ∙ put_there s i (row_at s r).buffer bytes fits

left_none : (s : State) (pool : List ℕ) (r : ℕ) → loose_at s r ≡ 0 → left_in (leave s pool) (row_at s r) ≡ []
unfolding left_in leave plan_at region_at
left_none s pool r e = ap (λ (m : ℕ). take m (bytes_at (leave s pool) (row_at s r).buffer)) e

left_told : (s : State) (a : Act) (row : ℕ) → Sound s → permits s a ≡ true → all_come row (loose_at s row) a ≡ true → left_in (leave s (leaves_of s a)) (row_at s row) ≡ bytes_in a
unfolding all_come leaves_of bytes_in permits
left_told s (makes m) row i p c = left_none s s.pool row (eqb-true (loose_at s row) 0 c)
left_told s (writes b bytes m) row i p c = left_none s (fronted s b bytes) row (eqb-true (loose_at s row) 0 c)
left_told s (arrives r bytes m) row i p c =
    let is : r ≡ row = eqb-true r row (and_left (eqb r row) (eqb (length bytes) (loose_at s row)) c) in
    let long = eqb-true (length bytes) (loose_at s row) (and_right (eqb r row) (eqb (length bytes) (loose_at s row)) c) in
    let fits = and_left (in_buffer s (row_at s r).buffer bytes) (is_live (row_at s r).awaits && leb (length bytes) (loose_at s r)) p in
    subst (λ (k : ℕ). left_in (leave s (fronted s (row_at s r).buffer bytes)) (row_at s k) ≡ bytes) is (left_arrived s i r bytes fits (long ∙ ap (loose_at s) (sym is)))
left_told s (lends l m) row i p c = left_none s s.pool row (eqb-true (loose_at s row) 0 c)

given_same : (o : Option Input) (away come : Bool) (x y : List ℕ) → (come ≡ true → x ≡ y) → (not (is_brought o) || (away || come)) ≡ true → given_as o away x ≡ given_as o away y
unfolding is_brought given_as pick
given_same none away come x y f t = refl
given_same (some i) true come x y f t = refl
given_same (some i) false come x y f t = ap (λ (l : List ℕ). (i, l) ∷ []) (f t)

pub given_told : (s : State) (acts : List Act) (t : ℕ) → Sound s → telling s acts t ≡ true → given s (events_of s acts) t ≡ told s acts t
unfolding given given_by events_of telling told told_by tells
given_told s [] t i f = refl
given_told s (a ∷ more) t i f =
    let s' = next s (event_of s a) in
    let p = and_left (permits s a) (tells s a t && telling s' more t) f in
    let f₁ = and_right (permits s a) (tells s a t && telling s' more t) f in
    let now : given_by s (event_of s a) t ≡ told_by s a t =
    given_same (brought t (made_in a)) (is_away (reply_to s (event_of s a))) (all_come (row_of t) (loose_at s (row_of t)) a) _ (bytes_in a) (left_told s a (row_of t) i p) (and_left (tells s a t) (telling s' more t) f₁) in
    let later : given s' (events_of s' more) t ≡ told s' more t = given_told s' more t (after_act s a i p) (and_right (tells s a t) (telling s' more t) f₁) in
    λ j. now j ++ later j
