-- How a line is answered: "The program `optrun` has this opening and a flush count of 0." "Requests name the opening's volume, region and
-- generation."
use Rattle.std.specs.Prelude.{◌≡◌, List, [], ℕ}
use Rattle.completion.specs.declared.Reply.{Reply}
use Rattle.model.specs.declared.{Counts.Counts, Call.Call}
use Rattle.model.specs.Memory.{Lent}
use Rattle.optable.specs.Called.{CallsTo}
use Rattle.parser.specs.declared.{requests.Named.Named, requests.Asks.Asks}
use Rattle.printer.specs.Texts.{bad_text}
use Rattle.printer.specs.Short.{short_text}

-- "handle 0, with its own volume, id and generation"
unfoldable pub figures_named : Named
figures_named = record { volume = 1; region = 7; generation = 3 }

-- a call was made, and its reply is what is printed
pub record Ran (call : Call) (c : Counts) (l : Lent) (c' : Counts) (l' : Lent) (text : List ℕ) : Type 0 where
  pub reply : Reply
  pub called : CallsTo call c l reply c' l'
  pub prints : text ≡ short_text reply

-- nothing is changed, and this is printed
pub record Still (c : Counts) (l : Lent) (c' : Counts) (l' : Lent) (text said : List ℕ) : Type 0 where
  pub counts : c' ≡ c
  pub lent : l' ≡ l
  pub prints : text ≡ said

-- "A line that starts with `#` is passed over"; another form "prints `bad` and its number in the file, from 1, and changes nothing"
unfoldable pub Answers : Asks → ℕ → Counts → Lent → Counts → Lent → List ℕ → Type 0
Answers Asks.Nothing n c l c' l' text = Still c l c' l' text []
Answers (Asks.Call x) n c l c' l' text = Ran x c l c' l' text
Answers Asks.Other n c l c' l' text = Still c l c' l' text (bad_text n)
