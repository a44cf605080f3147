-- "The host lends row memory and a pool": the same table, the rows in words (abi's RowWords: rows_in) and the counts in three words. The promises
-- are the very ones of a host that lends records (OpensTo of opening's Opened, CallsTo and LooksTo of optable's Called), and what is left of the
-- rows' words besides.
use Rattle.std.specs.Prelude.{◌≡◌, true, false, ◌⊎◌, List, [], ◌∷◌, ℕ, ◌+◌, ◌*◌, ◌≤◌, ◌<◌, length, get_or, drop, set}
use Rattle.completion.specs.declared.{Refusal.Refusal, Reply.Reply}
use Rattle.model.specs.declared.{Call.Call, Counts.Counts, Lookup.Lookup, Opening.Opening}
use Rattle.model.specs.Memory.{Lent}
use Rattle.optable.specs.Counted.{accepted_if, released_by}
use Rattle.optable.specs.declared.touched.Touched.{Touched}
use Rattle.optable.specs.Called.{lent_of, place_of, CallsTo, LooksTo}
use Rattle.opening.specs.Opened.{OpensTo, Opened}
use Rattle.step.specs.Lists.{is_away}
use Rattle.abi.specs.RowWords.{rows_in}
use Rattle.std.specs.declared.result.Result.{Result}

-- "the counts of live rows, ready completions and submissions", in that order
unfoldable pub counts_in : List ℕ → Counts
counts_in w = record { live = get_or w 0 0; ready = get_or w 1 0; submissions = get_or w 2 0 }

-- and the words of counts
abbrev pub count_words : Counts → List ℕ
count_words c = c.live ∷ c.ready ∷ c.submissions ∷ []

-- what a host lends, its rows in words
abbrev pub lent_in : List ℕ → List ℕ → List ℕ → List ℕ → List ℕ → List ℕ → Lent
lent_in rows store free ready owners pool = lent_of (rows_in rows) store free ready owners pool

-- "Is all this so, and the row memory long enough? No: 13."
pub record OpensInWords (o : Opening) (plan rows store free ready owners pool : List ℕ) (r : Opened)
    (rows' store' free' ready' owners' : List ℕ) : Type 0 where
  pub opens : OpensTo o plan (lent_in rows store free ready owners pool) r (rows_in rows') store' free' ready' owners'
  -- a refused opening changes no word of the rows either, and none behind the last row of an admitted one is written
  pub turned_away : (f : Refusal) → r ≡ Result.Err f → rows' ≡ rows
  pub behind : drop (16 * o.depth) rows' ≡ drop (16 * o.depth) rows
  pub long : length rows' ≡ length rows

-- what a call leaves of the counts lies in their words afterwards; one that is turned away writes none
pub record Counted (t : Touched) (c : Counts) (counts : List ℕ) (r : Reply) (counts' : List ℕ) : Type 0 where
  pub reply : r ≡ t.reply
  pub turned_away : is_away t.reply ≡ true → counts' ≡ counts
  pub counts_are : is_away t.reply ≡ false → counts' ≡ count_words (released_by t.frees (accepted_if t.accepts c))

-- likewise of the row that it touches: no other word of the rows is written
pub record Put (t : Touched) (at : ℕ) (c : Counts) (counts rows : List ℕ) (r : Reply) (counts' rows' : List ℕ) : Type 0 where
  pub counted : Counted t c counts r counts'
  pub turned_away : is_away t.reply ≡ true → rows' ≡ rows
  pub row_is : is_away t.reply ≡ false → rows_in rows' ≡ set (rows_in rows) at t.row
  pub others : (i : ℕ) → (i < 16 * at) ⊎ (16 * at + 16 ≤ i) → get_or rows' i 0 ≡ get_or rows i 0
  pub long : length rows' ≡ length rows

pub record CallsInWords (call : Call) (counts rows store free ready owners pool : List ℕ) (r : Reply)
    (counts' rows' store' free' ready' owners' pool' : List ℕ) : Type 0 where
  pub calls : CallsTo call (counts_in counts) (lent_in rows store free ready owners pool) r
      (counts_in counts') (lent_in rows' store' free' ready' owners' pool')
  -- a call that is turned away changes nothing: no word of the counts or of the rows either
  pub turned_away : (f : Refusal) → r ≡ Reply.No f → (counts' ≡ counts) × (rows' ≡ rows)
  -- "With none ready the reply is none and nothing changes.": no word of these either, also none that counts_in and rows_in do not read
  pub none_ready : call ≡ Call.Take → r ≡ Reply.None → (counts' ≡ counts) × (rows' ≡ rows)
  -- no word but those of the row that the call touches is written
  pub others : (i : ℕ) → (i < 16 * place_of call (counts_in counts) free) ⊎ (16 * place_of call (counts_in counts) free + 16 ≤ i)
      → get_or rows' i 0 ≡ get_or rows i 0
  pub long : length rows' ≡ length rows

-- what a lookup gives: it changes nothing
abbrev pub LooksInWords : Lookup → List ℕ → List ℕ → List ℕ → List ℕ → List ℕ → List ℕ → List ℕ → Reply → Type 0
LooksInWords x counts rows store free ready owners pool r = LooksTo x (counts_in counts) (lent_in rows store free ready owners pool) r
