-- A mark set: "unknown handle: 1"; and otherwise the words have the region's mark, and nothing else changes.
use mathlib.Core.Path.{◌≡◌, refl, sym, ap, ap₂, ◌∙◌, subst}
use mathlib.Core.Bool.{Bool, true}
use mathlib.Core.List.{List}
use Prim.Native.Nat.{ℕ, ◌+◌, ◌*◌, ◌≤◌, ◌<◌}
use native.Mathlib.Decide.{dec_lt}
use native.Mathlib.Omega.{arith}
use lib.ListN.{length, get_or, set, drop, length-set, length-drop}
use lib.Seq.{drop-set-lt, drop-set-add, get_or-set_other}
use lib.Dec.{lit<}
use borrow.Author.Tests.{lt-ltb, le-ltb}
use Rattle.layout.specs.Pick.{pick}
use Rattle.layout.proofs.Tests.{not_both}
use Rattle.std.specs.declared.option.Option.TheVariants.{None, Some}
use Rattle.completion.specs.declared.Context.TheVariants.{None as bare}
use Rattle.completion.specs.declared.Refusal.TheVariants.{ForeignPosition}
use Rattle.completion.specs.declared.Reply.TheVariants.{Ok, No as turnedAway}
use Rattle.model.specs.declared.Counts.{Counts}
use Rattle.model.specs.declared.Row.{Row}
use Rattle.model.specs.declared.Call.{Call}
use Rattle.model.specs.State.{Region, State}
use Rattle.model.specs.Opening.{store_words}
use Rattle.model.specs.Memory.{Lent, lengths_of, same_lengths, flag, cause_in, settings_in, poison_in, region_in, regions_in, state_in}
use Rattle.step.specs.Questions.{region_at}
use Rattle.step.specs.Step.{called, marked, with_regions, step}
use Rattle.step.specs.Lists.{is_away}
use Rattle.step.specs.Sound.{Sound}
use Rattle.optable.specs.Counted.{accepted_if, released_by}
use Rattle.optable.specs.declared.touched.Touched.{Touched}
use Rattle.optable.specs.Called.{lent_of, away_with, place_of, Beyond, CallsTo}
use Rattle.marks.specs.Marks.{marked_in, with_store, SetsMark, MarksTo}
use Rattle.marks.proofs.Words.{marked_in_lem}
use Rattle.marks.proofs.Parts.{state_with}
use Rattle.marks.proofs.Regions.{regions_set}
use Rattle.marks.proofs.Calling.{enough, stepped, not_away, put_back}

module _ (call : Call) (h : ℕ) (f : Region → Region) (is : (s : State) → called s call ≡ marked s h (f (region_at s h))) (c : Counts) (l : Lent) (same : same_lengths (lengths_of l) l.store ≡ true) where
  abbrev s : State
  s = state_in c l

  -- no such region
  unknown_calls : (settings_in l.store).regions ≤ h → CallsTo call c l (turnedAway (ForeignPosition bare)) c l
  unfolding marked pick state_in
  unknown_calls past = record {
    another_length = λ e. absurd (not_both same e);
    turned_away = λ g e. (refl, refl);
    none_ready = λ e is. (refl, refl);
    as_step = λ i.
        stepped call c l same i ∙ is s
        ∙ ap (λ (b : Bool). pick b (with_regions s (set s.regions h (f (region_at s h))), Ok) (s, turnedAway (ForeignPosition bare))) (le-ltb h (settings_in l.store).regions past);
    beyond = λ i. record { lengths = refl; rows = refl; store = refl; free = refl; ready = refl; owners = refl };
  }

  -- the word of the mark
  module _ (mark word : ℕ) (below : mark < 3) (each : (marks ws : List ℕ) → mark < length marks → region_in (set marks mark word) ws ≡ f (region_in marks ws)) (known : h < (settings_in l.store).regions) where
    abbrev at : ℕ
    at = 24 + 3 * h + mark

    abbrev new : List ℕ
    new = set l.store at word

    module _ (i : Sound s) where
      most : h < 8
      unfolding state_in
      most =
          let eight = i.numbers.most_regions in
          omega (arith, known, eight)

      before : (j : ℕ) → j < 24 → get_or new j 0 ≡ get_or l.store j 0
      before j lt = get_or-set_other l.store at j word 0 (λ e. omega (arith, e, lt))

      poison_same : poison_in new ≡ poison_in l.store
      unfolding poison_in
      poison_same = λ k. pick (flag (before 19 (lit< tt) k)) (Some (cause_in (before 20 (lit< tt) k) (before 21 (lit< tt) k) (before 22 (lit< tt) k))) None

      regions_are : regions_in (settings_in l.store).regions (drop 24 new) (drop 48 new) ≡ set s.regions h (f (region_at s h))
      unfolding state_in region_at
      regions_are =
          let from : at ≡ 24 + (3 * h + mark) = omega arith in
          let long = enough (lengths_of l) l.store same in
          let inside : 3 * h + mark < length (drop 24 l.store) = omega (arith, most, below, long, length-drop 24 l.store) in
          ap₂ (regions_in (settings_in l.store).regions)
          (ap (λ (k : ℕ). drop 24 (set l.store k word)) from ∙ drop-set-add 24 l.store (3 * h + mark) word)
          (drop-set-lt 48 l.store at word (omega (arith, most, below)))
          ∙ regions_set mark word f below each (settings_in l.store).regions h (drop 24 l.store) (drop 48 l.store) known inside

      state_is : state_in c (with_store l new) ≡ with_regions s (set s.regions h (f (region_at s h)))
      unfolding state_in with_regions
      state_is = state_with c l new (λ j lt. before j (omega (arith, lt))) (set s.regions h (f (region_at s h))) (poison_in l.store) regions_are poison_same

      marked_is : marked s h (f (region_at s h)) ≡ (with_regions s (set s.regions h (f (region_at s h))), Ok)
      unfolding marked pick state_in
      marked_is = ap (λ (b : Bool). pick b (with_regions s (set s.regions h (f (region_at s h))), Ok) (s, turnedAway (ForeignPosition bare))) (lt-ltb h (settings_in l.store).regions known)

      known_step : step s (lengths_of l) call ≡ (state_in c (with_store l (marked_in h mark word l.store)), Ok)
      known_step =
          stepped call c l same i ∙ is s ∙ marked_is
          ∙ (λ k. ((sym state_is ∙ ap (λ (w : List ℕ). state_in c (with_store l w)) (sym (marked_in_lem h mark word l.store most below))) k, Ok))

      known_beyond : Beyond (settings_in l.store) l (with_store l new)
      unfolding lengths_of
      known_beyond = record {
        lengths = λ k. record { rows = length l.rows; store = length-set l.store at word k; free = length l.free; ready = length l.ready; owners = length l.owners; pool = length l.pool };
        rows = refl;
        store = drop-set-lt (store_words (settings_in l.store).regions) l.store at word (omega (arith, most, below));
        free = refl;
        ready = refl;
        owners = refl;
      }

    known_calls : CallsTo call c l Ok c (with_store l (marked_in h mark word l.store))
    unfolding is_away
    known_calls = record {
      another_length = λ e. absurd (not_both same e);
      turned_away = λ g e. not_away Ok g refl e;
      none_ready = λ e is. let z : ◌≡◌ {A = ℕ} 0 1 = cc in absurd (omega arith);
      as_step = known_step;
      beyond = λ i. subst (λ (w : List ℕ). Beyond (settings_in l.store) l (with_store l w)) (sym (marked_in_lem h mark word l.store (most i) below)) (known_beyond i);
    }

-- what a call that sets a mark is promised to leave
pub sets : (call : Call) (h mark word : ℕ) (f : Region → Region) → ((s : State) → called s call ≡ marked s h (f (region_at s h)))
    → mark < 3 → ((marks ws : List ℕ) → mark < length marks → region_in (set marks mark word) ws ≡ f (region_in marks ws))
    → (row : Row) (store : List ℕ) (r : Touched) (store' : List ℕ) → SetsMark row h mark word store r store' → MarksTo call row store r store'
unfolding away_with
sets call h mark word f is below each row store r store' m c n free ready owners pool rows len found same = by_case (dec_lt h (settings_in store).regions)
  where
    l : Lent
    l = lent_of rows store free ready owners pool

    long : 48 ≤ length store
    long = enough (lengths_of l) store same

    by_case : Dec (h < (settings_in store).regions) → CallsTo call c l r.reply (released_by r.frees (accepted_if r.accepts c)) (lent_of (set rows (place_of call c free) r.row) store' free ready owners pool)
    by_case (yes known) =
        let is_Known = m.known long known in
        put_back call row c rows free found l (λ rs. lent_of rs store' free ready owners pool) r Ok is_Known.0
        (subst (λ (w : List ℕ). CallsTo call c l Ok c (lent_of rows w free ready owners pool)) (sym is_Known.1) (known_calls call h f is c l same mark word below each known))
    by_case (no past) =
        let unknown : (settings_in store).regions ≤ h = omega (arith, past) in
        let is-unknown = m.unknown long unknown in
        put_back call row c rows free found l (λ rs. lent_of rs store' free ready owners pool) r (turnedAway (ForeignPosition bare)) is-unknown.0
        (subst (λ (w : List ℕ). CallsTo call c l (turnedAway (ForeignPosition bare)) c (lent_of rows w free ready owners pool)) (sym is-unknown.1) (unknown_calls call h f is c l same unknown))
