-- An answer or a flush result as a whole: a tag that names no row of the table is turned away, one that names a row settles its operation.
use Rattle.std.proofs.Common.{◌≡◌, ℕ, ◌^◌, ◌<◌, ◌≤◌, Bool, true, false, ◌&&◌, ltb, ◌≢◌, List, [], length, get_or, set, sym, refl, ap, ◌∙◌, subst, ⊎_elim, arith, ltb-false, ltb-true}
use lib.Seq.{set-get_or}
use Rattle.layout.specs.Pick.{pick}
use Rattle.layout.proofs.Tests.{not_both, true_or_false, and_left, and_right}
use Rattle.std.specs.declared.option.Option.{Option}
use Rattle.domain.specs.declared.FirstCause.{FirstCause}
use Rattle.platform.specs.declared.Answer.{Answer}
use Rattle.platform.specs.declared.Flushed.{Flushed}
use Rattle.completion.specs.declared.Refusal.TheVariants.{UnknownTag}
use Rattle.completion.specs.declared.Reply.TheVariants.{No as turnedAway}
use Rattle.model.specs.declared.Counts.{Counts}
use Rattle.model.specs.declared.Opening.{Opening}
use Rattle.model.specs.declared.Row.{Row}
use Rattle.model.specs.declared.Call.{Call}
use Rattle.model.specs.declared.Call.TheVariants.{Answer as answerCall, Flushed as flushedCall, Take}
use Rattle.model.specs.State.{State, freed}
use Rattle.model.specs.Memory.{Lent, lengths_of, same_lengths, settings_in, poison_in, state_in}
use Rattle.step.specs.Questions.{region_at}
use Rattle.step.specs.Rules.{Input, Input.answered, Input.flushed, rules, range_end}
use Rattle.step.specs.Step.{row_of, row_at, names, bytes_at, plan_of, fate_of, under_tag, called}
use Rattle.step.specs.Sound.{Sound, InTable}
use Rattle.optable.specs.Counted.{accepted_if, released_by}
use Rattle.optable.specs.declared.touched.Touched.{Touched}
use Rattle.optable.specs.Called.{lent_of, away_with, Beyond, CallsTo, place_of}
use Rattle.memory.specs.declared.liveregion.LiveRegion.{LiveRegion}
use Rattle.memory.specs.Live.{InStore, live_of, region_of}
use Rattle.memory.proofs.Found.{in_store, region_is}
use Rattle.marks.proofs.Calling.{enough, stepped}
use Rattle.settle.specs.declared.Finished.{Finished}
use Rattle.settle.specs.declared.Finished.TheVariants.{Away}
use Rattle.settle.specs.Finished.{fate_by, plan_with}
use Rattle.arrival.specs.Carried.{store_by, free_by, ready_by, owners_by, pool_by, TouchedBy, Carried}
use Rattle.arrival.specs.UnderWay.{known_as, AnswerIn, FinishedIn, FlushedIn}
use Rattle.arrival.proofs.Turned.{unknown, past_depth, not_named, beyond_none}
use Rattle.arrival.proofs.Holding.{in_table}
use Rattle.arrival.proofs.Wording.{AnswerFits, ResultFits, InputFits}
use Rattle.arrival.proofs.Stepping.{plan_is}
use Rattle.arrival.proofs.Calling.{RejectsPiece, calls}
use Rattle.arrival.proofs.Fitting.{under_way_fits}
use Rattle.arrival.proofs.Telling.{answer_rejects, flush_rejects}
use mir.Val.{Val}
use denote.Laws.{Is}
use denote.Enum.Declared as enum
use Rattle.arrival.specs.declared.Arrived.{Arrived}
use Rattle.arrival.specs.declared.Arrived.TheVariants.{Answer as Answers, Flushed as Results}
use Rattle.arrival.specs.Arrived.{arrived_call, BecomesIn}
use Rattle.arrival.specs.contracts.Arrived as whatArrived
use Rattle.arrival.proofs.Raw.{answer_fits, result_fits}

-- a tag that the code does not know names no row of the table
stranger : (c : Counts) (l : Lent) (t : ℕ) → known_as (settings_in l.store) (get_or l.rows (row_of t) (freed 0)) t ≡ false → names (row_at (state_in c l) (row_of t)) t ≡ false
unfolding known_as
stranger c l t e =
    let d = (settings_in l.store).depth in
    ⊎_elim
    (λ below. not_named c l t (ap (λ (b : Bool). b && names (get_or l.rows (row_of t) (freed 0)) t) (sym below) ∙ e))
    (λ past. past_depth c l t (ltb-false (row_of t) d past))
    (true_or_false (ltb (row_of t) d))

module _ (c : Counts) (rows : List Row) (store free ready owners pool : List ℕ) (t : ℕ) (row : Row) (found : row ≡ get_or rows (row_of t) (freed 0))
    (same : same_lengths (lengths_of (lent_of rows store free ready owners pool)) store ≡ true) where
  abbrev l : Lent
  l = lent_of rows store free ready owners pool

  abbrev s : State
  s = state_in c l

  abbrev Calls : Call → Touched → List ℕ → List ℕ → List ℕ → List ℕ → List ℕ → Type 0
  Calls call r store' free' ready' owners' pool' =
      CallsTo call c l r.reply (released_by r.frees (accepted_if r.accepts c)) (lent_of (set rows (row_of t) r.row) store' free' ready' owners' pool')

  abbrev Parts : Finished → Opening → LiveRegion → Touched → List ℕ → List ℕ → List ℕ → List ℕ → List ℕ → Type 0
  Parts f o g r store' free' ready' owners' pool' = Carried f t row o g c store free ready owners pool r store' free' ready' owners' pool'

  -- a tag that names no row of the table: nothing is changed
  module _ (call : Call) (other : call ≢ Take) (input : Input) (is-input : (x : State) → called x call ≡ under_tag x t input) (strange : known_as (settings_in store) row t ≡ false)
      (o : Opening) (g : LiveRegion) (r : Touched) (store' free' ready' owners' pool' : List ℕ) (k : Parts (Away UnknownTag) o g r store' free' ready' owners' pool') where
    away_is : r ≡ away_with row UnknownTag
    unfolding TouchedBy
    away_is = k.touched_is

    counts_same : released_by r.frees (accepted_if r.accepts c) ≡ c
    unfolding away_with released_by accepted_if pick
    counts_same = ap (λ (x : Touched). released_by x.frees (accepted_if x.accepts c)) away_is

    rows_same : set rows (row_of t) r.row ≡ rows
    unfolding away_with
    rows_same = ap (λ (x : Touched). set rows (row_of t) x.row) away_is ∙ ap (set rows (row_of t)) found ∙ set-get_or rows (row_of t) (freed 0)

    reply_same : r.reply ≡ turnedAway UnknownTag
    unfolding away_with
    reply_same = ap (λ (x : Touched). x.reply) away_is

    lent_same : lent_of (set rows (row_of t) r.row) store' free' ready' owners' pool' ≡ l
    unfolding store_by free_by ready_by owners_by pool_by
    lent_same = λ j. lent_of (rows_same j) (k.store_is j) (k.free_is j) (k.ready_is j) (k.owners_is j) (k.pool_is j)

    turned_from : Calls call r store' free' ready' owners' pool'
    turned_from = record {
      another_length = λ e. absurd (not_both same e);
      turned_away = λ x e. (counts_same, lent_same);
      none_ready = λ e is. absurd (other e);
      as_step = λ i. stepped call c l same i ∙ is-input s ∙ unknown s t input (stranger c l t (subst (λ (x : Row). known_as (settings_in store) x t ≡ false) found strange))
          ∙ (λ j. (state_in (sym counts_same j) (sym lent_same j), sym reply_same j));
      beyond = λ i. subst (Beyond (settings_in store) l) (sym lent_same) (beyond_none l);
    }

  -- what the code read of the row memory
  module _ (o : Opening) (o_is : 48 ≤ length store → o ≡ settings_in store) (g : LiveRegion) (g-is : InStore store row.handle → g ≡ live_of (region_of store row.handle))
      (small : range_end row.awaits < 2 ^ 64) (f : Finished) (r : Touched) (store' free' ready' owners' pool' : List ℕ) (k : Parts f o g r store' free' ready' owners' pool') where
    long : 48 ≤ length store
    long = enough (lengths_of l) store same

    o_same : o ≡ settings_in store
    o_same = o_is long

    -- a tag that names a row of the table
    module _ (known : known_as o row t ≡ true) where
      here : known_as (settings_in store) row t ≡ true
      here = subst (λ (x : Opening). known_as x row t ≡ true) o_same known

      below : row_of t < (settings_in store).depth
      unfolding known_as
      below = ltb-true (row_of t) (settings_in store).depth (and_left (ltb (row_of t) (settings_in store).depth) (names row t) here)

      named : names row t ≡ true
      unfolding known_as
      named = and_right (ltb (row_of t) (settings_in store).depth) (names row t) here

      module _ (i : Sound s) where
        there : InTable s row
        there = in_table c rows store free ready owners pool i same t row found below named

        region : row.handle < (settings_in store).regions
        unfolding state_in
        region = there.region

        region_same : g ≡ live_of (region_at s row.handle)
        region_same = g-is (in_store c (lent_of rows store free ready owners pool) i same row.handle region) ∙ ap live_of (sym (region_is c (lent_of rows store free ready owners pool) i same row.handle region))

        plan_same : plan_with g (region_at s row.handle).map ≡ plan_of (region_at s row.handle)
        plan_same = plan_is c rows store free ready owners pool i same t row found below named small g region_same

        short : g.generation < 2 ^ 32
        unfolding live_of
        short = subst (λ (x : LiveRegion). x.generation < 2 ^ 32) (sym region_same) (i.each row.handle there.region).generation

      settles : (call : Call) → call ≢ Take → (input : Input) → ((x : State) → called x call ≡ under_tag x t input) → InputFits input
          → (Sound s → fate_by f (bytes_at s row.buffer) ≡ fate_of s row input) → RejectsPiece f row.awaits → Calls call r store' free' ready' owners' pool'
      settles call other input is-input fits tells piece =
          calls c rows store free ready owners pool t row found same below named small call other input is-input fits g region_same f tells piece r store' free' ready' owners' pool'
          (subst (λ (x : Opening). Parts f x g r store' free' ready' owners' pool') o_same k)

    -- what the values tell is what the rules say of the table's operation
    told : (i : Sound s) (known : known_as o row t ≡ true) (input : Input) (first : Option FirstCause) → first ≡ poison_in store
        → fate_by f (bytes_at s row.buffer) ≡ rules o (plan_with g (region_at s row.handle).map) g.forced first row (bytes_at s row.buffer) input
        → fate_by f (bytes_at s row.buffer) ≡ fate_of s row input
    unfolding fate_of state_in live_of
    told i known input first first_is e = e ∙ (λ j. rules (o_same j) (plan_same known i j) (region_same known i j).forced (first_is j) row (bytes_at s row.buffer) input)

    -- either way, by what the code found
    arrives : (call : Call) → call ≢ Take → (input : Input) → ((x : State) → called x call ≡ under_tag x t input) → InputFits input → (known_as o row t ≡ false → f ≡ Away UnknownTag)
        → (known_as o row t ≡ true → (Sound s → fate_by f (bytes_at s row.buffer) ≡ fate_of s row input) × RejectsPiece f row.awaits) → Calls call r store' free' ready' owners' pool'
    arrives call other input is-input fits away tells =
        ⊎_elim
        (λ known. let is = tells known in settles known call other input is-input fits is.0 is.1)
        (λ strange. turned_from call other input is-input (subst (λ (x : Opening). known_as x row t ≡ false) o_same strange) o g r store' free' ready' owners' pool'
        (subst (λ (x : Finished). Parts x o g r store' free' ready' owners' pool') (away strange) k))
        (true_or_false (known_as o row t))

    module _ (answer : Answer) (back : Bool) (flushes : ℕ) where
      answer_told : AnswerIn o g row answer back flushes store f → known_as o row t ≡ true → Sound s → fate_by f (bytes_at s row.buffer) ≡ fate_of s row (answered answer back flushes)
      answer_told a known i =
          let in_row = there known i in
          told i known (answered answer back flushes) a.first (a.first_is long)
          (a.tells (region_at s row.handle).map
          (under_way_fits c rows store free ready owners pool i same row.handle (region known i) in_row.region g a.piece row.awaits in_row.split in_row.in_data_lem small a.under_way (short known i))
          (bytes_at s row.buffer))

      answer_kept : AnswerIn o g row answer back flushes store f → RejectsPiece f row.awaits
      unfolding rules
      answer_kept a =
          let m = (region_at s row.handle).map in
          answer_rejects o g m a.first row a.piece answer back flushes f row.awaits (a.tells m)

      pub answer_arrives : AnswerFits answer → FinishedIn t o g row answer back flushes store f → Calls (answerCall t answer back flushes) r store' free' ready' owners' pool'
      unfolding called InputFits
      answer_arrives fits is = arrives (answerCall t answer back flushes) (λ e. let z : ◌≡◌ {A = ℕ} 0 1 = cc in omega arith) (answered answer back flushes) (λ x. refl) fits is.0 (λ known. (answer_told (is.1 known) known, answer_kept (is.1 known)))

    module _ (result : Flushed) (is : FlushedIn t o row result f) where
      result_told : known_as o row t ≡ true → Sound s → fate_by f (bytes_at s row.buffer) ≡ fate_of s row (flushed result)
      result_told known i =
          told i known (flushed result) (poison_in store) refl (is.1 known (plan_with g (region_at s row.handle).map) g.forced (poison_in store) (bytes_at s row.buffer))

      result_kept : known_as o row t ≡ true → RejectsPiece f row.awaits
      unfolding rules
      result_kept known = flush_rejects o row [] result row.awaits f row.awaits (is.1 known (plan_with g (region_at s row.handle).map) g.forced (poison_in store) [])

      pub result_arrives : ResultFits result → Calls (flushedCall t result) r store' free' ready' owners' pool'
      unfolding called InputFits
      result_arrives fits = arrives (flushedCall t result) (λ e. let z : ◌≡◌ {A = ℕ} 0 1 = cc in omega arith) (flushed result) (λ x. refl) fits is.0 (λ known. (result_told known, result_kept known))

    -- an answer or a flush result
    pub arrived : (what : Arrived) (vs : List Val) → Is (enum.row whatArrived.the_type) what vs → BecomesIn what t o g row store f → Calls (arrived_call t what) r store' free' ready' owners' pool'
    unfolding arrived_call BecomesIn
    arrived (Answers answer back flushes) vs p is = answer_arrives answer back flushes (answer_fits answer _ p.1.1.1.1.0) is
    arrived (Results result) vs p is = result_arrives result is (result_fits result _ p.1.1.1.1.0)

-- both touch the row that the tag names
pub place_of_lem : (t : ℕ) (what : Arrived) (c : Counts) (free : List ℕ) → place_of (arrived_call t what) c free ≡ row_of t
unfolding place_of arrived_call
place_of_lem t (Answers answer back flushes) c free = refl
place_of_lem t (Results result) c free = refl

pub at_place : (call : Call) (c : Counts) (l : Lent) (rows : List Row) (r : Touched) (k k' : ℕ) → k ≡ k' → (store' free' ready' owners' pool' : List ℕ)
    → CallsTo call c l r.reply (released_by r.frees (accepted_if r.accepts c)) (lent_of (set rows k' r.row) store' free' ready' owners' pool')
    → CallsTo call c l r.reply (released_by r.frees (accepted_if r.accepts c)) (lent_of (set rows k r.row) store' free' ready' owners' pool')
at_place call c l rows r k k' e store' free' ready' owners' pool' =
    subst (λ (j : ℕ). CallsTo call c l r.reply (released_by r.frees (accepted_if r.accepts c)) (lent_of (set rows j r.row) store' free' ready' owners' pool')) (sym e)
