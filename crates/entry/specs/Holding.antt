-- A host in C or Rust, which lends words: every export that replies, from `table_open` on. What it holds is a table that calls have left, and
-- demand 3 is said of its words. A code that names nothing makes no call, and an opening that is refused changes nothing: these are no events of
-- the history. `table_turn` is lent no table: what it does to bytes of the pool is the host's own writing. Proved in proofs/Holding.antt
-- (asked-returns, host-holds-words, demand3-in-words).
use Rattle.std.specs.Prelude.{◌≡◌, ◌≢◌, Bool, true, false, List, [], ◌∷◌, ◌++◌, ℕ, ◌+◌, ◌/◌, ◌%◌, length, take, drop, eqb}
use Rattle.std.proofs.Math.Option.{Option, none, some}
use Rattle.layout.specs.Pick.{pick}
use Rattle.completion.specs.declared.Refusal.TheVariants as Refusal
use Rattle.completion.specs.declared.Completion.{Completion}
use Rattle.completion.specs.declared.Reply.TheVariants as Reply
use Rattle.model.specs.declared.{Opening.Opening, Lengths.Lengths, Call.Call}
use Rattle.model.specs.State.{State, live_rows}
use Rattle.model.specs.Memory.{Lent, state_in}
use Rattle.posix.specs.Posix.{Card}
use Rattle.step.specs.Step.{row_at, bytes_at, is_live, eq_lengths}
use Rattle.step.specs.Run.{Made, Made.calls, Made.looks, Event, leave, next, Start, opened_by, after, reply_to}
use Rattle.step.specs.Lists.{times, brought, is_brought, Completed, with_bytes, takings, card_after, HostMay, tag_at}
use Rattle.step.specs.Alone.{Course.completed}
use Rattle.step.specs.Demand3.{alone_at, Supposed}
use Rattle.optable.specs.Held.{Holds, OwnWords, Begins, event}
use Rattle.abi.specs.ReplyWords.{reply_words, unknown_words}
use Rattle.entry.specs.WordCalls.{counts_in, lent_in}
use Rattle.entry.specs.WholeRows.{Whole}
use Rattle.entry.specs.Entry.{Parts, parts_of, AnswersOut, LooksOut, OpensOut}

-- ---- what is held, in words

abbrev pub lent_of_parts : Parts → Lent
lent_of_parts p = lent_in p.rows p.store p.free p.ready p.owners p.pool

-- the table in them
unfoldable pub table_in : Parts → State
table_in p = state_in (counts_in p.counts) (lent_of_parts p)

-- a history is in them (optable's Held: Holds)
pub record HoldsIn (x : Start) (h : List Event) (p : Parts) : Type 0 where
  pub whole : Whole p.rows
  pub holds : Holds x h (counts_in p.counts) (lent_of_parts p)

-- with other bytes in the pool
abbrev pub parts_with : Parts → List ℕ → Parts
parts_with p pool = parts_of p.counts p.rows p.store p.free p.ready p.owners pool

-- ---- one call of an export

-- what an export asks for: a call or a lookup; nothing, where its code names nothing; an opening, which is refused (one that is admitted begins
-- another history)
pub data Export : Type 0 where
  makes : Made → Export
  nameless : Export
  reopens : Opening → List ℕ → Export

-- what its codes ask for (abi's Asked)
unfoldable pub export_of : Option Call → Export
export_of (some call) = makes (calls call)
export_of none = nameless

-- what it leaves in what it is lent and in `out` (Entry); to a lookup all is lent by `&`, so that nothing can change
unfoldable pub Returns : Export → Parts → Parts → List ℕ → Type 0
Returns (makes (calls call)) p p' out = AnswersOut (some call) p p' out
Returns (makes (looks x)) p p' out = LooksOut x p out × (p' ≡ p)
Returns nameless p p' out = AnswersOut none p p' out
Returns (reopens o plan) p p' out = OpensOut o plan p p' out × (out ≡ reply_words (Reply.No Refusal.Unfit))

-- an export whose codes may name nothing returns so
unfoldable pub AskedReturns : Type 0
AskedReturns = (a : Option Call) (p p' : Parts) (out : List ℕ) → AnswersOut a p p' out → Returns (export_of a) p p' out

-- the lengths of what is lent, the rows' in words
abbrev pub word_lengths : Parts → Lengths
word_lengths p =
    record {
      rows = length p.rows;
      store = length p.store;
      free = length p.free;
      ready = length p.ready;
      owners = length p.owners;
      pool = length p.pool;
    }

-- the same in rows: words that are no whole rows are another length than any that was opened, as no rows are
unfoldable pub lengths_lent : Parts → Lengths
lengths_lent p =
    record {
      rows = pick (eqb (length p.rows % 16) 0) (length p.rows / 16) 0;
      store = length p.store;
      free = length p.free;
      ready = length p.ready;
      owners = length p.owners;
      pool = length p.pool;
    }

-- what is lent, of what is held, as of records (optable's Held: Lends): in the opening's lengths all that is held
pub record LendsWords (p lent : Parts) : Type 0 where
  pub words : OwnWords p.store lent.store
  pub all : word_lengths lent ≡ word_lengths p → lent ≡ p

-- one call of an export: the pool as the host leaves it, what is asked and lent, what is left of that and in `out`, and what the host holds then
pub record WordTurn : Type 0 where
  pub leaves : List ℕ
  pub export : Export
  pub lent : Parts
  pub left : Parts
  pub out : List ℕ
  pub held : Parts

-- from what is held, p
pub record WordTurnFrom (p : Parts) (u : WordTurn) : Type 0 where
  pub may : HostMay (table_in p) u.leaves
  pub lends : LendsWords (parts_with p u.leaves) u.lent
  pub returns : Returns u.export u.lent u.left u.out
  -- it lent all that it holds: it holds what is left of that
  pub all : word_lengths u.lent ≡ word_lengths (parts_with p u.leaves) → u.held ≡ u.left
  -- it lent other parts of it, and they are left as they were: it holds what it held
  pub others : word_lengths u.lent ≢ word_lengths (parts_with p u.leaves) → u.left ≡ u.lent → u.held ≡ parts_with p u.leaves

-- ---- lists of them

unfoldable pub WordTurnsFrom : Parts → List WordTurn → Type 0
WordTurnsFrom p [] = Unit {0}
WordTurnsFrom p (u ∷ us) = WordTurnFrom p u × WordTurnsFrom u.held us

unfoldable pub parts_after : Parts → List WordTurn → Parts
parts_after p [] = p
parts_after p (u ∷ us) = parts_after u.held us

-- the history that they are
unfoldable pub events_for : Export → List ℕ → Lengths → List Event
events_for (makes m) pool ls = event pool ls m ∷ []
events_for nameless pool ls = []
events_for (reopens o plan) pool ls = []

abbrev pub events_of : WordTurn → List Event
events_of u = events_for u.export u.leaves (lengths_lent u.lent)

unfoldable pub history_of : List WordTurn → List Event
history_of [] = []
history_of (u ∷ us) = events_of u ++ history_of us

-- from the table s: what `out` gets, the words of the step's reply, of a code that names nothing a case of its own, but 13 first, of a refused
-- opening 13; and the table that is held then, the step's
unfoldable pub out_for : State → Export → List ℕ → Lengths → List ℕ
out_for s (makes m) pool ls = reply_words (reply_to s (event pool ls m))
out_for s nameless pool ls = pick (eq_lengths ls s.lengths) unknown_words (reply_words (Reply.No Refusal.Unfit))
out_for s (reopens o plan) pool ls = reply_words (Reply.No Refusal.Unfit)

unfoldable pub next_for : State → Export → List ℕ → Lengths → State
next_for s (makes m) pool ls = next s (event pool ls m)
next_for s nameless pool ls = leave s pool
next_for s (reopens o plan) pool ls = leave s pool

-- each of them was so, to the byte
unfoldable pub WordsAsSteps : State → List WordTurn → Type 0
WordsAsSteps s [] = Unit {0}
WordsAsSteps s (u ∷ us) =
    let s' = next_for s u.export u.leaves (lengths_lent u.lent) in
    (u.out ≡ out_for s u.export u.leaves (lengths_lent u.lent)) × (table_in u.held ≡ s') × WordsAsSteps s' us

-- ---- what a host in C or Rust holds

-- After an opening of what is lent in p, which left p₀, and a list of calls: the opened table was in p₀; from it each of them was the step's, what
-- `out` got and what is held after it; and the history that they are is in what is held at the end.
pub record WordsHeldFrom (o : Opening) (plan : List ℕ) (p p₀ : Parts) (us : List WordTurn) : Type 0 where
  pub start : Start
  pub begins : Begins o plan (lengths_lent p) p.pool start
  pub opened : table_in p₀ ≡ opened_by start
  pub as_steps : WordsAsSteps (opened_by start) us
  pub holds : HoldsIn start (history_of us) (parts_after p₀ us)

-- from an opening that was admitted, as `out` says
unfoldable pub HostHoldsWords : Type 0
HostHoldsWords = (o : Opening) (plan : List ℕ) (p p₀ : Parts) (out : List ℕ) → OpensOut o plan p p₀ out → out ≡ reply_words Reply.Ok
    → (us : List WordTurn) → WordTurnsFrom p₀ us → WordsHeldFrom o plan p p₀ us

-- ---- demand 3, of the words

-- what brings something to the operation under the queue tag t
unfoldable pub brings_to : ℕ → Export → Bool
brings_to t (makes m) = is_brought (brought t m)
brings_to t nameless = false
brings_to t (reopens o plan) = false

-- the completions that a call adds behind those that were ready, in the words
abbrev pub added_to : Parts → Parts → List Completion
added_to p p' = drop (length (table_in p).ready) (table_in p').ready

-- all that the operation under the queue tag t gets, and every byte of its buffer b when the completing call returns, as they lie in the words then
unfoldable pub gets_in_words : Parts → List WordTurn → ℕ → ℕ → List Completed
gets_in_words p [] t b = []
gets_in_words p (u ∷ us) t b =
    pick (brings_to t u.export) (with_bytes (bytes_at (table_in u.held) b) (added_to p u.held)) [] ++ gets_in_words u.held us t b

unfoldable pub added_in_words : Parts → List WordTurn → List Completion
added_in_words p [] = []
added_in_words p (u ∷ us) = added_to p u.held ++ added_in_words u.held us

-- "each operation open at first gets in both exactly one completion, and its buffer as completed, equal to those of document 01's operation alone"
pub record OneEachInWords (x : Start) (h : List Event) (p : Parts) (us vs : List WordTurn) (r : ℕ) : Type 0 where
  pub it : Completed
  pub first : gets_in_words p us (tag_at (table_in p) r) (row_at (table_in p) r).buffer ≡ it ∷ []
  pub second : gets_in_words p vs (tag_at (table_in p) r) (row_at (table_in p) r).buffer ≡ it ∷ []
  pub alone₁ : alone_at x (h ++ history_of us) (tag_at (table_in p) r) ≡ some (completed it)
  pub alone₂ : alone_at x (h ++ history_of vs) (tag_at (table_in p) r) ≡ some (completed it)

-- of one list: each call was the step's, `out` with it; no completion but those, and each is taken or still ready, oldest first
pub record NoMoreInWords (x : Start) (h : List Event) (p : Parts) (us : List WordTurn) : Type 0 where
  pub as_steps : WordsAsSteps (table_in p) us
  pub count : length (added_in_words p us) ≡ live_rows (table_in p).rows
  pub queue : (table_in p).ready ++ added_in_words p us ≡ takings (after x h) (history_of us) ++ (table_in (parts_after p us)).ready
  -- "free plus live rows equal the depth after every call"
  pub balance : (n : ℕ) → length (table_in (parts_after p (take n us))).free + live_rows (table_in (parts_after p (take n us))).rows
      ≡ (table_in p).settings.depth

pub record AgreedInWords (x : Start) (h : List Event) (p : Parts) (card : Card) (us vs : List WordTurn) : Type 0 where
  pub each : (r : ℕ) → is_live (row_at (table_in p) r).awaits ≡ true → OneEachInWords x h p us vs r
  pub no_more₁ : NoMoreInWords x h p us
  pub no_more₂ : NoMoreInWords x h p vs
  -- "the set of free rows, the generations and the card's bytes, equal at first, agree"
  pub free_rows : (r : ℕ) → times r (table_in (parts_after p us)).free ≡ times r (table_in (parts_after p vs)).free
  pub generations : (r : ℕ) → (row_at (table_in (parts_after p us)) r).generation ≡ (row_at (table_in (parts_after p vs)) r).generation
  pub card_bytes : (b : ℕ) → card_after (after x h) (history_of us) card b ≡ card_after (after x h) (history_of vs) card b

-- two lists of calls by a host in C, on two copies of its memory, under demand 3's suppositions of their histories
unfoldable pub Demand3InWords : Type 0
Demand3InWords = (x : Start) (h : List Event) (p : Parts) → HoldsIn x h p → (card : Card) (us vs : List WordTurn)
    → WordTurnsFrom p us → WordTurnsFrom p vs → Supposed (after x h) (history_of us) (history_of vs) → AgreedInWords x h p card us vs
