-- How a line is answered once the table is open: TRACE.md's "Calls" and "Replies".
use Rattle.std.specs.Prelude.{◌≡◌, List, [], ℕ, ◌-◌, length, take}
use Rattle.completion.specs.declared.Reply.{Reply}
use Rattle.model.specs.declared.{Counts.Counts, Lookup.Lookup}
use Rattle.model.specs.Memory.{Lent}
use Rattle.optable.specs.Called.{LooksTo}
use Rattle.optable.specs.Held.{lent_with}
use Rattle.parser.specs.declared.forms.Said.{Said}
use Rattle.parser.specs.Asks.{asks_of}
use Rattle.printer.specs.Texts.{bad_text}
use Rattle.printer.specs.Replay.{replay_text}
use Rattle.session.specs.Asking.{Held, named_in, Still, Ran, Asked}
use Rattle.session.specs.Host.{FillsIn, summed, ListsIn}

-- a lookup is made over what is lent, and its reply printed
pub record LooksAs (x : Lookup) (c : Counts) (lent : Lent) (text : List ℕ) : Type 0 where
  pub reply : Reply
  pub looked : LooksTo x c lent reply
  pub prints : text ≡ replay_text reply

abbrev pub Looks : Lookup → Lent → Held → Held → List ℕ → Type 0
Looks x lent h h' text = (h' ≡ h) × LooksAs x h.counts lent text

-- `len`: "a lookup with another length of row memory": the free stack is lent without its last word
unfoldable pub shorter : Lent → Lent
shorter l =
    record { rows = l.rows; store = l.store; free = take (length l.free - 1) l.free; ready = l.ready; owners = l.owners; pool = l.pool }

-- `fill` (Host): nothing but the pool is changed
unfoldable pub with_pool : List ℕ → Held → Held
with_pool pool h =
    record {
      flushes = h.flushes;
      counts = h.counts;
      lent = lent_with h.lent pool;
    }

abbrev pub Fills : ℕ → ℕ → ℕ → ℕ → ℕ → Held → Held → List ℕ → Type 0
Fills b at n seed number h h' text =
    (h' ≡ with_pool h'.lent.pool h) ×
    FillsIn b at n seed number h.lent.rows h.lent.store h.lent.owners h.lent.pool h'.lent.pool text

-- `rows` (Host)
abbrev pub Lists : Held → Held → List ℕ → Type 0
Lists h h' text = (h' ≡ h) × ListsIn h.counts h.lent.rows h.lent.store h.lent.free text

-- a line's answer; `a`, `w` and `r` ask for the call that the last flush count and handle 0 make of them
unfoldable pub Answers : Said → ℕ → Held → Held → List ℕ → Type 0
Answers Said.Comment number h h' text = Still h h' text []
Answers (Said.Call c) number h h' text = Ran c h h' text
Answers (Said.Own write b p n durable tag) number h h' text =
    Asked (asks_of (Said.Own write b p n durable tag) (named_in h.lent.store) h.flushes) number h h' text
Answers (Said.Count t n) number h h' text = Asked (asks_of (Said.Count t n) (named_in h.lent.store) h.flushes) number h h' text
Answers (Said.Look x) number h h' text = Looks x h.lent h h' text
Answers Said.Len number h h' text = Looks Lookup.WritesLive (shorter h.lent) h h' text
Answers (Said.Fill b at n seed) number h h' text = Fills b at n seed number h h' text
Answers (Said.Sum b at n) number h h' text = Still h h' text (summed b at n number h.lent.store h.lent.pool)
Answers Said.Rows number h h' text = Lists h h' text
Answers Said.Bad number h h' text = Still h h' text (bad_text number)
