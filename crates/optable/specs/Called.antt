-- What a call leaves: its reply, the counts, and all that is lent. One equation with the step, of every sound table; and what holds of any words.
use Rattle.std.specs.Prelude.{◌≡◌, ℕ, true, false, List, length, drop, slice_index, slice_index_or, slice_set}
use Rattle.completion.specs.declared.{Refusal.Refusal, Reply.Reply}
use Rattle.model.specs.declared.{Opening.Opening, Counts.Counts, Row.Row, Call.Call, Lookup.Lookup}
use Rattle.model.specs.State.{freed}
use Rattle.model.specs.Opening.{store_words, ready_words}
use Rattle.model.specs.Memory.{Lent, lengths_of, same_lengths, settings_in, state_in}
use Rattle.step.specs.Step.{row_of, step, look}
use Rattle.step.specs.Sound.{Sound}
use Rattle.optable.specs.declared.Frees.TheVariants as Frees
use Rattle.optable.specs.Counted.{accepted_if, released_by}
use Rattle.optable.specs.declared.touched.Touched.{Touched}

-- what a host lends
abbrev pub lent_of : List Row → List ℕ → List ℕ → List ℕ → List ℕ → List ℕ → Lent
lent_of rows store free ready owners pool = record { rows = rows; store = store; free = free; ready = ready; owners = owners; pool = pool }

-- a call that is turned away
unfoldable pub away_with : Row → Refusal → Touched
away_with row f = record { row = row; accepts = false; frees = Frees.Nothing; reply = Reply.No f }

-- the place of the row that a call touches: of a submission the one on top of the free stack, of an answer or a flush result the one that its
-- tag names; of the other calls, which touch none, 0
unfoldable pub place_of : Call → Counts → List ℕ → ℕ
place_of (Call.Write q) c free = slice_index free c.live
place_of (Call.ReadPage q) c free = slice_index free c.live
place_of (Call.Answer t answer back flushes) c free = row_of t
place_of (Call.Flushed t result) c free = row_of t
place_of Call.Take c free = 0
place_of (Call.SetGate h x) c free = 0
place_of (Call.SetReadOnly h x) c free = 0
place_of (Call.SetForced h x) c free = 0
place_of (Call.ReportPoison cause) c free = 0

-- nothing lent beyond what the table needs is written, and no length changes
pub record Beyond (o : Opening) (l l' : Lent) : Type 0 where
  pub lengths : lengths_of l' ≡ lengths_of l
  pub rows : drop o.depth l'.rows ≡ drop o.depth l.rows
  pub store : drop (store_words o.regions) l'.store ≡ drop (store_words o.regions) l.store
  pub free : drop o.depth l'.free ≡ drop o.depth l.free
  pub ready : drop (ready_words o.depth) l'.ready ≡ drop (ready_words o.depth) l.ready
  pub owners : drop o.buffers l'.owners ≡ drop o.buffers l.owners

pub record CallsTo (call : Call) (c : Counts) (l : Lent) (r : Reply) (c' : Counts) (l' : Lent) : Type 0 where
  -- "A later call with another length of row memory or pool gets 13 first.": another than the store's words 13 to 18 say, where the opening put its
  -- lengths. A host that lends another part of memory as the store has changed the row memory: no values are promised of that, only this clause and
  -- the next two, which hold of any words.
  pub another_length : same_lengths (lengths_of l) l.store ≡ false → r ≡ Reply.No Refusal.Unfit
  -- a call that is turned away changes nothing: no count, no row, no word, no byte
  pub turned_away : (f : Refusal) → r ≡ Reply.No f → (c' ≡ c) × (l' ≡ l)
  -- "With none ready the reply is none and nothing changes.": no count, no row, no word, no byte
  pub none_ready : call ≡ Call.Take → r ≡ Reply.None → (c' ≡ c) × (l' ≡ l)
  -- of every table that calls have left: the reply and the next state are the step's
  pub as_step : Sound (state_in c l) → step (state_in c l) (lengths_of l) call ≡ (state_in c' l', r)
  pub beyond : Sound (state_in c l) → Beyond (settings_in l.store) l l'

-- what a lookup gives: it changes nothing
pub record LooksTo (x : Lookup) (c : Counts) (l : Lent) (r : Reply) : Type 0 where
  pub another_length : same_lengths (lengths_of l) l.store ≡ false → r ≡ Reply.No Refusal.Unfit
  pub as_look : Sound (state_in c l) → r ≡ look (state_in c l) (lengths_of l) x

-- with any rows among which the given one is the one to touch, the call as a whole
abbrev pub TouchesTo : Call → Row → Counts → ℕ → List ℕ → List ℕ → List ℕ → List ℕ → List ℕ
    → Touched → List ℕ → List ℕ → List ℕ → List ℕ → List ℕ → Type 0
TouchesTo call row c n store free ready owners pool t store' free' ready' owners' pool' =
    (rows : List Row) → length rows ≡ n → row ≡ slice_index_or rows (place_of call c free) (freed 0)
    → CallsTo call c (lent_of rows store free ready owners pool) t.reply (released_by t.frees (accepted_if t.accepts c))
    (lent_of (slice_set rows (place_of call c free) t.row) store' free' ready' owners' pool')

-- likewise of one kind of call, once the lengths are found to be the opening's
abbrev pub ArmTo : Call → Row → Counts → ℕ → List ℕ → List ℕ → List ℕ → List ℕ → List ℕ
    → Touched → List ℕ → List ℕ → List ℕ → List ℕ → List ℕ → Type 0
ArmTo call row c n store free ready owners pool t store' free' ready' owners' pool' =
    (rows : List Row) → length rows ≡ n → row ≡ slice_index_or rows (place_of call c free) (freed 0)
    → same_lengths (lengths_of (lent_of rows store free ready owners pool)) store ≡ true
    → CallsTo call c (lent_of rows store free ready owners pool) t.reply (released_by t.frees (accepted_if t.accepts c))
    (lent_of (slice_set rows (place_of call c free) t.row) store' free' ready' owners' pool')
