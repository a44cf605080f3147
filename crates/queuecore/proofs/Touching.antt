-- A submission as a whole: what `issue` leaves, put back into the rows and the counts, is one step of every sound table; what is turned away leaves
-- all as it was. By cases on the verdict.
use mathlib.Core.Path.{◌≡◌, refl, sym, ap, ◌∙◌, subst}
use mathlib.Core.Bool.{Bool, true}
use mathlib.Core.List.{List}
use Prim.Native.Nat.{ℕ, ◌+◌, ◌*◌, ◌<◌, ◌%◌, ◌^◌}
use native.Mathlib.Nat.{mod-eq_of_lt}
use native.Mathlib.Omega.{arith}
use lib.ListN.{length, get_or, set, length-set}
use lib.Seq.{set-get_or, drop-set-lt, get_or-take}
use Rattle.layout.specs.Pick.{pick}
use Rattle.layout.proofs.Tests.{not_both}
use Rattle.regionmap.specs.declared.FoundPiece.{FoundPiece}
use Rattle.regionmap.specs.Found.{wrap64}
use Rattle.completion.specs.declared.Refusal.{Refusal}
use Rattle.completion.specs.declared.Refusal.TheVariants.{Unfit}
use Rattle.completion.specs.declared.Reply.{Reply}
use Rattle.completion.specs.declared.Reply.TheVariants.{Piece as piece, No as turnedAway, Rejected, Done, Flush, Took, None, Ok as ok, Writes, Mark}
use Rattle.model.specs.declared.Counts.{Counts}
use Rattle.model.specs.declared.Row.{Row}
use Rattle.model.specs.declared.Request.{Request}
use Rattle.model.specs.declared.Call.{Call}
use Rattle.model.specs.declared.Kind.{Kind}
use Rattle.step.specs.Questions.{Asked}
use Rattle.std.specs.declared.result.Result.TheVariants.{Ok, Err}
use Rattle.model.specs.State.{State, freed}
use Rattle.model.specs.Memory.{Lent, lengths_of, same_lengths, settings_in, state_in}
use Rattle.step.specs.Step.{queue_tag, claimed_by, top_of, row_at, one_more, accepted, verdict_of, submitted, called, step, Verdict}
use Rattle.step.specs.Sound.{Sound}
use Rattle.step.proofs.Answers.{Passed}
use Rattle.step.proofs.Taken as stack
use Rattle.step.proofs.Memory.{stored_in, taken_in, lengths_same}
use Rattle.optable.specs.Counted.{accepted_if, released_by}
use Rattle.optable.specs.declared.touched.Touched.{Touched}
use Rattle.submission.proofs.Deciding.{top_is}
use Rattle.optable.specs.Called.{lent_of, away_with, place_of, Beyond, CallsTo, ArmTo}
use Rattle.submission.specs.Decided.{Decides}
use Rattle.submission.specs.Touched.{issued, owners_after}

-- a piece turns nobody away, and a refusal accepts nobody
abbrev Away : Reply → Type 0
Away (piece t o n b) = ⊥
Away (turnedAway f) = Unit {0}
Away (Rejected g o e b) = ⊥
Away (Done t) = ⊥
Away (Flush t n) = ⊥
Away (Took c) = ⊥
Away None = ⊥
Away ok = ⊥
Away (Writes w) = ⊥
Away (Mark m) = ⊥

abbrev accept : ℕ → Kind → FoundPiece → Verdict
accept r k p = Ok (record { row = r; kind = k; piece = p })

abbrev Accepts : Verdict → Type 0
Accepts (Err f) = ⊥
Accepts (Ok a) = Unit {0}

abbrev row_of : Verdict → ℕ
row_of (Err f) = 0
row_of (Ok a) = a.row

-- an accepting verdict had a yes, and names the row on top of the stack
pub accepts_yes : (asked : Asked) (s : State) (k : Kind) (q : Request) (v : Verdict) → v ≡ verdict_of asked s k q → Accepts v → asked ≡ Ok tt
unfolding verdict_of
accepts_yes (Ok _) s k q v e a = refl
accepts_yes (Err f) s k q v e a = absurd (subst Accepts e a)

pub accepts_top : (asked : Asked) (s : State) (k : Kind) (q : Request) (v : Verdict) → v ≡ verdict_of asked s k q → Accepts v → row_of v ≡ top_of s.free
unfolding verdict_of
accepts_top (Ok _) s k q v e a = ap row_of e
accepts_top (Err f) s k q v e a = absurd (subst Accepts e a)

-- what an accepting verdict of a state means
pub record Went (s : State) (q : Request) (v : Verdict) : Type 0 where
  pub passed : Passed s q
  pub top : row_of v ≡ top_of s.free

module _ (c : Counts) (rows : List Row) (store free ready owners pool : List ℕ) (q : Request) where
  abbrev l : Lent
  l = lent_of rows store free ready owners pool

  abbrev s : State
  s = state_in c l

  -- the place of the row to touch
  abbrev at : ℕ
  at = get_or free c.live 0

  -- all that a verdict leaves, for a row
  abbrev t : Verdict → Row → Touched
  t v row = issued v row c.submissions q

  abbrev l' : Verdict → Row → Lent
  l' v row = lent_of (set rows at (t v row).row) store free ready (owners_after v q owners) pool

  abbrev c' : Verdict → Row → Counts
  c' v row = released_by (t v row).frees (accepted_if (t v row).accepts c)

  -- a refused submission puts back the row as it was found
  same_rows : (row : Row) → row ≡ get_or rows at (freed 0) → set rows at row ≡ rows
  same_rows row found = ap (set rows at) found ∙ set-get_or rows at (freed 0)

  refused_lent : (f : Refusal) (row : Row) → row ≡ get_or rows at (freed 0) → l' (Err f) row ≡ l
  unfolding issued owners_after away_with
  refused_lent f row found = λ i. lent_of (same_rows row found i) store free ready owners pool

  refused_counts : (f : Refusal) (row : Row) → c' (Err f) row ≡ c
  unfolding issued away_with released_by accepted_if pick
  refused_counts f row = refl

  -- the state and the reply of a refusal
  refused_step : (f : Refusal) (row : Row) → row ≡ get_or rows at (freed 0) → ◌≡◌ {A = State × Reply} (s, turnedAway f) (state_in (c' (Err f) row) (l' (Err f) row), (t (Err f) row).reply)
  unfolding issued away_with
  refused_step f row found = λ i. (state_in (sym (refused_counts f row) i) (sym (refused_lent f row found) i), turnedAway f)

  turned_away : (v : Verdict) (row : Row) → row ≡ get_or rows at (freed 0) → (f : Refusal) → (t v row).reply ≡ turnedAway f → (c' v row ≡ c) × (l' v row ≡ l)
  unfolding issued away_with
  turned_away (Err g) row found f e = (refused_counts g row, refused_lent g row found)
  turned_away (Ok a) row found f e = absurd (subst Away (sym e) tt)

  -- a submission is replied a piece or a refusal
  not_none : (v : Verdict) (row : Row) → (t v row).reply ≡ None → ⊥
  unfolding issued away_with
  not_none (Err f) row e = let z : ◌≡◌ {A = ℕ} 0 1 = cc in omega arith
  not_none (Ok a) row e = let z : ◌≡◌ {A = ℕ} 0 1 = cc in omega arith

  -- ---- an accepted one, of a sound table
  module _ (i : Sound s) (r : ℕ) (k : Kind) (p : FoundPiece) (w : Went s q (accept r k p)) (row : Row) (found : row ≡ get_or rows at (freed 0)) (top-at : at ≡ top_of s.free) where
    row_at_lem : r ≡ at
    row_at_lem = w.top ∙ sym top-at

    below : r < s.settings.depth
    below = rw w.top (stack.top_row s i w.passed.room)

    below' : r < (settings_in store).depth
    unfolding state_in
    below' = below

    among : q.buffer < (settings_in store).buffers
    unfolding state_in
    among = w.passed.buffer

    found_at : row ≡ row_at s r
    unfolding row_at state_in
    found_at = found ∙ ap (λ (j : ℕ). get_or rows j (freed 0)) (sym row_at_lem) ∙ sym (get_or-take (settings_in store).depth rows r (freed 0) below')

    counts_are : c' (accept r k p) row ≡ one_more c
    unfolding issued released_by accepted_if pick one_more wrap64 state_in
    counts_are =
        let room = w.passed.room in
        let left = w.passed.left in
        let deep = i.numbers.most_depth in
        let long = i.numbers.most_lifetime in
        let live_is : (c.live + 1) % 2 ^ 64 ≡ c.live + 1 = mod-eq_of_lt (omega (arith, room, deep)) in
        let submissions_are : (c.submissions + 1) % 2 ^ 64 ≡ c.submissions + 1 = mod-eq_of_lt (omega (arith, left, long)) in
        λ j. record { live = live_is j; ready = c.ready; submissions = submissions_are j }

    tag_is : wrap64 (queue_tag r row.generation) ≡ queue_tag r (row_at s r).generation
    unfolding wrap64 queue_tag
    tag_is =
        let generation : row.generation < 2 ^ 32 = subst (λ (x : Row). x.generation < 2 ^ 32) (sym found_at) (i.generations r below) in
        let small = below in
        let deep = i.numbers.most_depth in
        mod-eq_of_lt (omega (arith, generation, small, deep)) ∙ ap (λ (x : Row). r + x.generation * 2 ^ 32) found_at

    lent_is : l' (accept r k p) row ≡ stored_in l r (claimed_by (row_at s r).generation c.submissions k q) q.buffer
    unfolding issued owners_after
    lent_is = λ j. lent_of (set rows (sym row_at_lem j) (claimed_by (found_at j).generation c.submissions k q)) store free ready (set owners q.buffer 1) pool

    state_is : state_in (c' (accept r k p) row) (l' (accept r k p) row) ≡ accepted s r k q
    unfolding accepted state_in
    state_is = (λ j. state_in (counts_are j) (lent_is j)) ∙ taken_in c l r (claimed_by (row_at s r).generation c.submissions k q) q.buffer below' among

    accepted_step : submitted s q (accept r k p) ≡ (state_in (c' (accept r k p) row) (l' (accept r k p) row), (t (accept r k p) row).reply)
    unfolding submitted issued
    accepted_step = λ j. (sym state_is j, piece (sym tag_is j) p.offset p.count q.buffer)

    accepted_beyond : Beyond (settings_in store) l (l' (accept r k p) row)
    unfolding issued owners_after lengths_of
    accepted_beyond =
        let place : at < (settings_in store).depth = subst (λ (j : ℕ). j < (settings_in store).depth) row_at_lem below' in
        record {
          lengths = λ j. record { rows = length-set rows at (t (accept r k p) row).row j; store = length store; free = length free; ready = length ready; owners = length-set owners q.buffer 1 j; pool = length pool };
          rows = drop-set-lt (settings_in store).depth rows at (t (accept r k p) row).row place;
          store = refl;
          free = refl;
          ready = refl;
          owners = drop-set-lt (settings_in store).buffers owners q.buffer 1 among;
        }

  -- ---- either

  refused_beyond : (m : Lent) → m ≡ l → Beyond (settings_in store) l m
  refused_beyond m e = subst (Beyond (settings_in store) l) (sym e) (record { lengths = refl; rows = refl; store = refl; free = refl; ready = refl; owners = refl })

  -- where the lengths are those of the opening
  module _ (i : Sound s) (same : same_lengths (lengths_of l) store ≡ true) (row : Row) (found : row ≡ get_or rows at (freed 0)) where
    went_step : (v : Verdict) → (Accepts v → Went s q v) → submitted s q v ≡ (state_in (c' v row) (l' v row), (t v row).reply)
    unfolding submitted
    went_step (Err f) w = refused_step f row found
    went_step (Ok a) w = accepted_step i a.row a.kind a.piece (w tt) row found (top_is c rows store free ready owners pool i same q (w tt).passed)

    went_beyond : (v : Verdict) → (Accepts v → Went s q v) → Beyond (settings_in store) l (l' v row)
    went_beyond (Err f) w = refused_beyond (l' (Err f) row) (refused_lent f row found)
    went_beyond (Ok a) w = accepted_beyond i a.row a.kind a.piece (w tt) row found (top_is c rows store free ready owners pool i same q (w tt).passed)

  module _ (same : same_lengths (lengths_of l) store ≡ true) (verdict : State → Request → Verdict) (call : Call) (is : (x : State) → called x call ≡ submitted x q (verdict x q))
      (goes : (x : State) (v : Verdict) → v ≡ verdict x q → Accepts v → Went x q v) (v : Verdict) (d : Decides verdict c store free owners q v) (row : Row) (found : row ≡ get_or rows at (freed 0)) where
    as_step : Sound s → step s (lengths_of l) call ≡ (state_in (c' v row) (l' v row), (t v row).reply)
    unfolding step pick state_in
    as_step i =
        let e = d rows ready pool same i in
        ap (λ (b : Bool). pick b (called s call) (s, turnedAway Unfit)) (sym (lengths_same c l i) ∙ same)
        ∙ is s
        ∙ ap (submitted s q) (sym e)
        ∙ went_step i same row found v (goes s v e)

    pub calls : CallsTo call c l (t v row).reply (c' v row) (l' v row)
    calls = record {
      another_length = λ e. absurd (not_both same e);
      turned_away = turned_away v row found;
      none_ready = λ e is. absurd (not_none v row is);
      as_step = as_step;
      beyond = λ i. went_beyond i same row found v (goes s v (d rows ready pool same i));
    }

-- ---- a verdict of either kind

pub went : (asked : Asked) (s : State) (k : Kind) (q : Request) → (asked ≡ Ok tt → Passed s q) → (v : Verdict) → v ≡ verdict_of asked s k q → Accepts v → Went s q v
went asked s k q passed v e a = record { passed = passed (accepts_yes asked s k q v e a); top = accepts_top asked s k q v e a }

-- a submission, with the verdict's outcome and the owners as the code has them
pub submits : (verdict : State → Request → Verdict) (call : Call) (q : Request) → ((x : State) → called x call ≡ submitted x q (verdict x q)) → ((x : State) (v : Verdict) → v ≡ verdict x q → Accepts v → Went x q v)
    → (c : Counts) (n : ℕ) (store free owners : List ℕ) → place_of call c free ≡ get_or free c.live 0 → (v : Verdict) → Decides verdict c store free owners q v
    → (row : Row) (o : Touched) (owners' : List ℕ) → o ≡ issued v row c.submissions q → owners' ≡ owners_after v q owners
    → (ready pool : List ℕ) → ArmTo call row c n store free ready owners pool o store free ready owners' pool
submits verdict call q is goes c n store free owners top v d row o owners' e f ready pool rows len found same =
    subst (λ (x : ℕ × (Touched × List ℕ)). CallsTo call c (lent_of rows store free ready owners pool) x.1.0.reply (released_by x.1.0.frees (accepted_if x.1.0.accepts c)) (lent_of (set rows x.0 x.1.0.row) store free ready x.1.1 pool))
    (λ j. (sym top j, (sym e j, sym f j)))
    (calls c rows store free ready owners pool q same verdict call is goes v d row (found ∙ ap (λ (k : ℕ). get_or rows k (freed 0)) top))

-- ---- a call that is known by its kind

pub as_known : (x y : Call) → x ≡ y → (row : Row) (c : Counts) (n : ℕ) (store free ready owners pool : List ℕ) (o : Touched) (store' free' ready' owners' pool' : List ℕ)
    → ArmTo y row c n store free ready owners pool o store' free' ready' owners' pool' → ArmTo x row c n store free ready owners pool o store' free' ready' owners' pool'
as_known x y e row c n store free ready owners pool o store' free' ready' owners' pool' t =
    subst (λ (z : Call). ArmTo z row c n store free ready owners pool o store' free' ready' owners' pool') (sym e) t
