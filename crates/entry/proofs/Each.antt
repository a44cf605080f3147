-- From what the parts of a call's own function ensure to what it ensures: with other lengths nothing is done, and else the call is its arm's, its row and the
-- counts put into their words (Calling).
use mathlib.Core.Path.{◌≡◌, refl, sym, ap, ◌∙◌, subst}
use mathlib.Core.Bool.{Bool, true, false, ◌&&◌}
use mathlib.Core.Logic.{◌≢◌}
use mathlib.Core.List.{List}
use Prim.Native.Nat.{ℕ, ◌/◌, ◌%◌}
use native.Mathlib.Omega.{arith}
use lib.ListN.{length, get_or, set}
use lib.Seq.{set-get_or}
use lib.Dec.{eqb}
use borrow.Author.Tests.{eqb-true}
use Rattle.layout.proofs.Tests.{not_both, and_left, and_right}
use Rattle.completion.specs.declared.Refusal.TheVariants.{Unfit}
use Rattle.completion.specs.declared.Reply.{Reply}
use Rattle.completion.specs.declared.Reply.TheVariants.{No as turnedAway, None}
use Rattle.model.specs.declared.Call.{Call}
use Rattle.model.specs.declared.Call.TheVariants.{Take}
use Rattle.model.specs.declared.Counts.{Counts}
use Rattle.model.specs.declared.Row.{Row}
use Rattle.model.specs.State.{freed}
use Rattle.model.specs.Memory.{lengths_of, same_lengths}
use Rattle.step.specs.Lists.{is_away}
use Rattle.optable.specs.declared.touched.Touched.{Touched}
use Rattle.optable.specs.Counted.{accepted_if, released_by}
use Rattle.optable.specs.Called.{lent_of, away_with, place_of, CallsTo, ArmTo}
use Rattle.arrival.specs.declared.Arrived.{Arrived}
use Rattle.arrival.specs.declared.Arrived.TheVariants.{Answer, Flushed}
use Rattle.arrival.specs.Arrived.{arrived_call}
use Rattle.marks.specs.Marks.{MarksTo}
use Rattle.queuecore.proofs.QueuecoreTouching.{unfit}
use Rattle.abi.specs.RowWords.{rows_in}
use Rattle.abi.proofs.Laws.{count}
use Rattle.entry.specs.declared.settings.Setting.{Setting}
use Rattle.entry.specs.declared.settings.Setting.TheVariants.{Gate, ReadOnly, Forced, Poison}
use Rattle.entry.specs.Settings.{setting_call}
use Rattle.entry.specs.WordCalls.{counts_in, count_words, lent_in, Counted, Put}
use Rattle.entry.proofs.Calling.{words_read, put_in_words}
use Rattle.entry.specs.WholeRows.{Whole, CallsWhole, fits_in}

-- the lengths, with any rows as many as these
as_many : (rows store free ready owners pool : List ℕ) (rs : List Row) → length rs ≡ length rows / 16
    → same_lengths (lengths_of (lent_of rs store free ready owners pool)) store ≡ same_lengths (lengths_of (lent_in rows store free ready owners pool)) store
unfolding lengths_of
as_many rows store free ready owners pool rs len =
    ap (λ (k : ℕ). same_lengths (record { rows = k; store = length store; free = length free; ready = length ready; owners = length owners; pool = length pool }) store) (len ∙ sym (count rows))

-- nothing is put of a call that is turned away
away_put : (row : Row) (at : ℕ) (c : Counts) (counts rows : List ℕ) → Put (away_with row Unfit) at c counts rows (turnedAway Unfit) counts rows
unfolding away_with is_away
away_put row at c counts rows = record {
  counted = record { reply = refl; turned_away = λ e. refl; counts_are = λ e. absurd (not_both refl e) };
  turned_away = λ e. refl;
  row_is = λ e. absurd (not_both refl e);
  others = λ i apart. refl;
  long = refl;
}

module _ (call : Call) (counts rows store free ready owners pool : List ℕ) where
  -- whether the lengths are the opening's, with any rows as many as these
  abbrev same : List Row → Bool
  same rs = same_lengths (lengths_of (lent_of rs store free ready owners pool)) store

  other : Whole rows → fits_in rows store free ready owners pool ≡ false → same (rows_in rows) ≡ false
  unfolding fits_in
  other w unlike = sym (ap (λ (k : ℕ). eqb k 0 && same (rows_in rows)) w) ∙ unlike

  -- "A later call with another length of row memory or pool gets 13 first."
  pub turned_off : (b : Bool) → b ≡ fits_in rows store free ready owners pool → b ≡ false → CallsWhole call counts rows store free ready owners pool (turnedAway Unfit) counts rows store free ready owners pool
  turned_off b is unlike = record {
    whole = λ w.
        let c = counts_in counts in
        let row = get_or (rows_in rows) (place_of call c free) (freed 0) in
        put_in_words call counts rows store free ready owners pool (away_with row Unfit) store free ready owners pool c refl (place_of call c free) refl row refl
        (unfit call row c (length rows / 16) store free ready owners pool (away_with row Unfit) refl (λ rs len. as_many rows store free ready owners pool rs len ∙ other w (sym is ∙ unlike)))
        (turnedAway Unfit) counts rows (away_put row (place_of call c free) c counts rows) (λ e none. (refl, refl));
    cut = λ cut. (refl, refl, refl, refl, refl, refl, refl, refl);
  }

  module _ (t : Touched) (store' free' ready' owners' pool' : List ℕ) (b : Bool) (is : b ≡ fits_in rows store free ready owners pool) (fit : b ≡ true) (c : Counts) (c-is : c ≡ counts_in counts) (at : ℕ) (at-is : at ≡ place_of call c free) (row : Row)
      (row_is : row ≡ get_or (rows_in rows) at (freed 0)) (arm : ArmTo call row c (length rows / 16) store free ready owners pool t store' free' ready' owners' pool') where
    is_whole_lem : Whole rows
    unfolding fits_in
    is_whole_lem = eqb-true (length rows % 16) 0 (and_left (eqb (length rows % 16) 0) (same (rows_in rows)) (sym is ∙ fit))

    is_same : same (rows_in rows) ≡ true
    unfolding fits_in
    is_same = and_right (eqb (length rows % 16) 0) (same (rows_in rows)) (sym is ∙ fit)

    pub carried : (r : Reply) (counts' rows' : List ℕ) → Put t at c counts rows r counts' rows' → (call ≡ Take → t.reply ≡ None → (counts' ≡ counts) × (rows' ≡ rows)) → CallsWhole call counts rows store free ready owners pool r counts' rows' store' free' ready' owners' pool'
    carried r counts' rows' p none = record {
      whole = λ w. put_in_words call counts rows store free ready owners pool t store' free' ready' owners' pool' c c-is at at-is row row_is (λ rs len found. arm rs len found (as_many rows store free ready owners pool rs len ∙ is_same)) r counts' rows' p none;
      cut = λ cut. absurd (cut is_whole_lem);
    }

    -- the call's own promise, of the rows in the words
    promised : CallsTo call c (lent_in rows store free ready owners pool) t.reply (released_by t.frees (accepted_if t.accepts c)) (lent_of (set (rows_in rows) (place_of call c free) t.row) store' free' ready' owners' pool')
    promised = arm (rows_in rows) (count rows) (row_is ∙ ap (λ (k : ℕ). get_or (rows_in rows) k (freed 0)) at-is) is_same

    -- no row is touched; a taking that finds none leaves the counts, so that their words are written as they were
    pub carried_without : (r : Reply) (counts' : List ℕ) → length counts ≡ 3 → t.row ≡ row → Counted t c counts r counts' → CallsWhole call counts rows store free ready owners pool r counts' rows store' free' ready' owners' pool'
    unfolding is_away
    carried_without r counts' three same_row p = carried r counts' rows (record {
      counted = p;
      turned_away = λ e. refl;
      row_is = λ e. sym (ap (set (rows_in rows) at) (same_row ∙ row_is) ∙ set-get_or (rows_in rows) at (freed 0));
      others = λ i apart. refl;
      long = refl;
    }) (λ takes none. (p.counts_are (ap is_away none) ∙ ap count_words ((promised.none_ready takes none).0 ∙ c-is) ∙ words_read counts three, refl))

-- The same, as the functions' proofs cite it: of the lengths that were asked for.
module _ {call : Call} {counts rows store free ready owners pool : List ℕ} {b : Bool} (is : b ≡ fits_in rows store free ready owners pool) where
  pub unlike : b ≡ false → CallsWhole call counts rows store free ready owners pool (turnedAway Unfit) counts rows store free ready owners pool
  unlike e = turned_off call counts rows store free ready owners pool b is e

  module _ (fit : b ≡ true) {c : Counts} (c-is : c ≡ counts_in counts) {at : ℕ} (at-is : at ≡ place_of call c free) {row : Row} (row_is : row ≡ get_or (rows_in rows) at (freed 0)) {t : Touched} where
    -- a call goes by its arm; not a taking, which touches no row
    pub armed : call ≢ Take → {store' free' ready' owners' pool' : List ℕ} → ArmTo call row c (length rows / 16) store free ready owners pool t store' free' ready' owners' pool'
        → {r : Reply} {counts' rows' : List ℕ} → Put t at c counts rows r counts' rows' → CallsWhole call counts rows store free ready owners pool r counts' rows' store' free' ready' owners' pool'
    armed other {store'} {free'} {ready'} {owners'} {pool'} arm {r} {counts'} {rows'} put =
        carried call counts rows store free ready owners pool t store' free' ready' owners' pool' b is fit c c-is at at-is row row_is arm r counts' rows' put (λ e none. absurd (other e))

    -- one that sets words of the store changes nothing else
    pub marked : call ≢ Take → {store' : List ℕ} → MarksTo call row store t store' → {r : Reply} {counts' rows' : List ℕ} → Put t at c counts rows r counts' rows'
        → CallsWhole call counts rows store free ready owners pool r counts' rows' store' free ready owners pool
    marked other sets put = armed other (sets c (length rows / 16) free ready owners pool) put

-- Only a taking takes.
pub not_arrived : (t : ℕ) (what : Arrived) → arrived_call t what ≢ Take
unfolding arrived_call
not_arrived t (Answer answer back flushes) e = let z : ◌≡◌ {A = ℕ} 0 1 = cc in omega arith
not_arrived t (Flushed result) e = let z : ◌≡◌ {A = ℕ} 0 1 = cc in omega arith

pub not_set : (s : Setting) → setting_call s ≢ Take
not_set (Gate h gate) e = let z : ◌≡◌ {A = ℕ} 0 1 = cc in omega arith
not_set (ReadOnly h on) e = let z : ◌≡◌ {A = ℕ} 0 1 = cc in omega arith
not_set (Forced h on) e = let z : ◌≡◌ {A = ℕ} 0 1 = cc in omega arith
not_set (Poison cause) e = let z : ◌≡◌ {A = ℕ} 0 1 = cc in omega arith

-- A setting has no row of its own, and is known by its form.
pub no_place : (s : Setting) (c : Counts) (free : List ℕ) → 0 ≡ place_of (setting_call s) c free
unfolding place_of
no_place (Gate h gate) c free = refl
no_place (ReadOnly h on) c free = refl
no_place (Forced h on) c free = refl
no_place (Poison cause) c free = refl

pub known : {s s' : Setting} → s ≡ s' → (row : Row) (store : List ℕ) (t : Touched) (store' : List ℕ) → MarksTo (setting_call s') row store t store' → MarksTo (setting_call s) row store t store'
known e row store t store' sets = subst (λ (x : Setting). MarksTo (setting_call x) row store t store') (sym e) sets
