-- From what the parts of `call_words` ensure to what it ensures: `touch` ensures it of any rows among which the row found is the one to touch, and the rows in the
-- words are such rows. A call that is turned away leaves row and counts, and writes no word; else the row's words are put.
use mathlib.Core.Path.{◌≡◌, refl, sym, ap, ◌∙◌, subst}
use mathlib.Core.Bool.{Bool, true, false}
use mathlib.Core.Logic.{◌⊎◌}
use mathlib.Core.List.{List, [], ◌∷◌}
use Prim.Native.Nat.{ℕ, ◌+◌, ◌*◌, ◌/◌, ◌≤◌, ◌<◌}
use native.Mathlib.Omega.{arith}
use lib.ListN.{length, get_or, set}
use Rattle.layout.proofs.Tests.{not_both}
use Rattle.completion.specs.declared.Refusal.{Refusal}
use Rattle.completion.specs.declared.Reply.{Reply}
use Rattle.completion.specs.declared.Reply.TheVariants.{Piece, No as turnedAway, Rejected, Done, Flush, Took, None, Ok, Writes, Mark}
use Rattle.model.specs.declared.Call.{Call}
use Rattle.model.specs.declared.Call.TheVariants.{Take}
use Rattle.model.specs.declared.Counts.{Counts}
use Rattle.model.specs.declared.Row.{Row}
use Rattle.model.specs.State.{freed}
use Rattle.model.specs.Memory.{Lent}
use Rattle.optable.specs.Counted.{accepted_if, released_by}
use Rattle.optable.specs.declared.touched.Touched.{Touched}
use Rattle.optable.specs.Called.{lent_of, place_of, CallsTo, TouchesTo}
use Rattle.abi.specs.RowWords.{rows_in}
use Rattle.abi.proofs.Laws.{count}
use Rattle.step.specs.Lists.{is_away}
use Rattle.entry.specs.WordCalls.{counts_in, count_words, lent_in, Put, CallsInWords}

-- a call that is turned away, by its refusal
pub refusal_of_lem : {A : Type 0} (r : Reply) → is_away r ≡ true → ((f : Refusal) → r ≡ turnedAway f → A) → A
unfolding is_away
refusal_of_lem (Piece q o n b) e k = absurd (not_both e refl)
refusal_of_lem (turnedAway f) e k = k f refl
refusal_of_lem (Rejected r op raw b) e k = absurd (not_both e refl)
refusal_of_lem (Done q) e k = absurd (not_both e refl)
refusal_of_lem (Flush q n) e k = absurd (not_both e refl)
refusal_of_lem (Took c) e k = absurd (not_both e refl)
refusal_of_lem None e k = absurd (not_both e refl)
refusal_of_lem Ok e k = absurd (not_both e refl)
refusal_of_lem (Writes b) e k = absurd (not_both e refl)
refusal_of_lem (Mark n) e k = absurd (not_both e refl)

-- every other case is not turned away
pub not_away : (r : Reply) → ((f : Refusal) → r ≡ turnedAway f → ⊥) → false ≡ is_away r
unfolding is_away
not_away (Piece q o n b) other = refl
not_away (turnedAway f) other = absurd (other f refl)
not_away (Rejected r op raw b) other = refl
not_away (Done q) other = refl
not_away (Flush q n) other = refl
not_away (Took c) other = refl
not_away None other = refl
not_away Ok other = refl
not_away (Writes b) other = refl
not_away (Mark n) other = refl

-- the counts are read back from their words
pub counts_read : (c : Counts) → counts_in (count_words c) ≡ c
unfolding counts_in
counts_read c = refl

-- and three words are those of their counts
pub words_read : (counts : List ℕ) → length counts ≡ 3 → count_words (counts_in counts) ≡ counts
unfolding counts_in
words_read [] e = absurd (omega (arith, e))
words_read (a ∷ []) e = absurd (omega (arith, e))
words_read (a ∷ b ∷ []) e = absurd (omega (arith, e))
words_read (a ∷ b ∷ d ∷ []) e = refl
words_read (a ∷ b ∷ d ∷ x ∷ xs) e = absurd (omega (arith, e))

is_away_lem : (f : Refusal) → is_away (turnedAway f) ≡ true
unfolding is_away
is_away_lem f = refl

module _ (call : Call) (counts rows store free ready owners pool : List ℕ) (t : Touched) (store' free' ready' owners' pool' : List ℕ) (c : Counts) (c-is : c ≡ counts_in counts) (at : ℕ) (at-is : at ≡ place_of call c free) (row : Row)
    (row_is : row ≡ get_or (rows_in rows) at (freed 0)) (touches : TouchesTo call row c (length rows / 16) store free ready owners pool t store' free' ready' owners' pool') where
  abbrev lent : Lent
  lent = lent_in rows store free ready owners pool

  abbrev after : List Row → Lent
  after rs = lent_of rs store' free' ready' owners' pool'

  abbrev next : Counts
  next = released_by t.frees (accepted_if t.accepts c)

  touched : CallsTo call c lent t.reply next (after (set (rows_in rows) at t.row))
  touched =
      subst (λ (k : ℕ). CallsTo call c lent t.reply next (after (set (rows_in rows) k t.row))) (sym at-is)
      (touches (rows_in rows) (count rows) (row_is ∙ ap (λ (k : ℕ). get_or (rows_in rows) k (freed 0)) at-is))

  -- with the counts and the rows as they are in words
  in_words : (counts' : List ℕ) (rs : List Row) → counts_in counts' ≡ next → rs ≡ set (rows_in rows) at t.row → CallsTo call (counts_in counts) lent t.reply (counts_in counts') (after rs)
  in_words counts' rs e-counts e-rows =
      subst (λ (d : Counts). CallsTo call d lent t.reply (counts_in counts') (after rs)) c-is
      (subst (λ (d : Counts). CallsTo call c lent t.reply d (after rs)) (sym e-counts)
      (subst (λ (ys : List Row). CallsTo call c lent t.reply next (after ys)) (sym e-rows) touched))

  turned_back_lem : is_away t.reply ≡ true → CallsInWords call counts rows store free ready owners pool t.reply counts rows store' free' ready' owners' pool'
  turned_back_lem e = refusal_of_lem t.reply e (λ f is.
      let same = touched.turned_away f is in
      record {
        calls = in_words counts (rows_in rows) (sym c-is ∙ sym same.0) (sym (ap (λ (l : Lent). l.rows) same.1));
        turned_away = λ g e'. (refl, refl);
        none_ready = λ e' none. (refl, refl);
        others = λ i apart. refl;
        long = refl;
      })

  -- what a taking that finds none leaves in the words of the counts and the rows
  abbrev pub NoneReady : List ℕ → List ℕ → Type 0
  NoneReady counts' rows' = call ≡ Take → t.reply ≡ None → (counts' ≡ counts) × (rows' ≡ rows)

  carried_out : is_away t.reply ≡ false → (r : Reply) (counts' rows' : List ℕ) → Put t at c counts rows r counts' rows' → NoneReady counts' rows'
      → CallsInWords call counts rows store free ready owners pool t.reply counts' rows' store' free' ready' owners' pool'
  carried_out e r counts' rows' p none = record {
    calls = in_words counts' (rows_in rows') (ap counts_in (p.counted.counts_are e) ∙ counts_read next) (p.row_is e);
    turned_away = λ f is. absurd (not_both (ap is_away is ∙ is_away_lem f) e);
    none_ready = none;
    others = λ i apart. p.others i (subst (λ (k : ℕ). (i < 16 * k) ⊎ (16 * k + 16 ≤ i)) (sym place_is) apart);
    long = p.long;
  }
    where
      place_is : at ≡ place_of call (counts_in counts) free
      place_is = at-is ∙ ap (λ (d : Counts). place_of call d free) c-is

  -- as the row and the counts are put
  pub put_in_words : (r : Reply) (counts' rows' : List ℕ) → Put t at c counts rows r counts' rows' → NoneReady counts' rows' → CallsInWords call counts rows store free ready owners pool r counts' rows' store' free' ready' owners' pool'
  put_in_words r counts' rows' p none = subst (λ (x : Reply). CallsInWords call counts rows store free ready owners pool x counts' rows' store' free' ready' owners' pool') (sym p.counted.reply) (by_away (is_away t.reply) refl)
    where
      by_away : (b : Bool) → is_away t.reply ≡ b → CallsInWords call counts rows store free ready owners pool t.reply counts' rows' store' free' ready' owners' pool'
      by_away true e =
          subst (λ (ws : List ℕ). CallsInWords call counts rows store free ready owners pool t.reply ws rows' store' free' ready' owners' pool') (sym (p.counted.turned_away e))
          (subst (λ (ws : List ℕ). CallsInWords call counts rows store free ready owners pool t.reply counts ws store' free' ready' owners' pool') (sym (p.turned_away e)) (turned_back_lem e))
      by_away false e = carried_out e r counts' rows' p none
