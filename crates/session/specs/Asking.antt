-- What a line of an open table asks for, and what becomes of it: TRACE.md's "Calls" and "Replies".
use Rattle.std.specs.Prelude.{◌≡◌, List, [], ℕ, ◌+◌, get_or}
use Rattle.completion.specs.declared.Reply.{Reply}
use Rattle.model.specs.declared.{Counts.Counts, Call.Call}
use Rattle.model.specs.Memory.{Lent}
use Rattle.model.specs.Opening.{HEAD}
use Rattle.optable.specs.Called.{CallsTo}
use Rattle.parser.specs.declared.{requests.Named.Named, requests.Asks.Asks}
use Rattle.printer.specs.Texts.{bad_text}
use Rattle.printer.specs.Replay.{replay_text}

-- what stands between two lines: "the flush count last given, 0 at first", the counts, and what is lent
pub record Held : Type 0 where
  pub flushes : ℕ
  pub counts : Counts
  pub lent : Lent

abbrev pub held_of : ℕ → Counts → Lent → Held
held_of flushes counts lent = record { flushes = flushes; counts = counts; lent = lent }

-- "handle 0, with its own volume, id and generation": words 8, 48 and 49 of the table's (the model's Memory) are the volume and region 0's id and
-- generation
unfoldable pub named_in : List ℕ → Named
named_in store = record { volume = get_or store 8 0; region = get_or store HEAD 0; generation = get_or store (HEAD + 1) 0 }

-- "the flush count last given": `A QTAG FLUSHES BACK ..` gives one
unfoldable pub given_by : Call → ℕ → ℕ
given_by (Call.Write q) n = n
given_by (Call.ReadPage q) n = n
given_by (Call.Answer t a back flushes) n = flushes
given_by (Call.Flushed t f) n = n
given_by Call.Take n = n
given_by (Call.SetGate h g) n = n
given_by (Call.SetReadOnly h b) n = n
given_by (Call.SetForced h b) n = n
given_by (Call.ReportPoison c) n = n

-- nothing is changed, and this is printed
pub record Still (h h' : Held) (text said : List ℕ) : Type 0 where
  pub held : h' ≡ h
  pub prints : text ≡ said

-- a call is made, and its reply printed
pub record Ran (call : Call) (h h' : Held) (text : List ℕ) : Type 0 where
  pub reply : Reply
  pub called : CallsTo call h.counts h.lent reply h'.counts h'.lent
  pub flushes : h'.flushes ≡ given_by call h.flushes
  pub prints : text ≡ replay_text reply

-- what a line of calls asks for: "A line that starts with `#` is passed over"; another form "prints `bad` and its number in the file, from 1, and
-- changes nothing"
unfoldable pub Asked : Asks → ℕ → Held → Held → List ℕ → Type 0
Asked Asks.Nothing number h h' text = Still h h' text []
Asked (Asks.Call c) number h h' text = Ran c h h' text
Asked Asks.Other number h h' text = Still h h' text (bad_text number)
