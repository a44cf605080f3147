-- What a line of optrun asks for, and what a step in the input alone leaves as it was.
use mathlib.Core.Path.{◌≡◌, ap, ◌∙◌, subst}
use mathlib.Core.List.{List}
use Prim.Native.Nat.{ℕ}
use Rattle.model.specs.declared.Counts.{Counts}
use Rattle.model.specs.Memory.{Lent}
use Rattle.optable.specs.Called.{lent_of}
use Rattle.parser.specs.declared.forms.Said.{Said}
use Rattle.parser.specs.Said.{said_read, optrun_line}
use Rattle.parser.specs.declared.requests.Named.{Named}
use Rattle.parser.specs.declared.requests.Asks.{Asks}
use Rattle.parser.specs.Asks.{asks_of}
use Rattle.runner.specs.Runner.{figures_named, Answers as AnswersTo}
use Rattle.runner.specs.declared.turn.Running.{Running}
use Rattle.runner.specs.Running.{Line, standing}

-- the same, further in the input, stands where it stood
pub same : (r now : Running) (store free ready owners pool : List ℕ) → now.host ≡ r.host → standing now store free ready owners pool ≡ standing r store free ready owners pool
same r now store free ready owners pool m = λ j. record { counts = (m j).counts; lent = lent_of (m j).rows store free ready owners pool }

-- what is asked for is what the line's bytes say
pub line_says : (bytes : List ℕ) (read said : Said) (named : Named) (asks : Asks) → read ≡ said_read bytes → said ≡ optrun_line read → named ≡ figures_named → asks ≡ asks_of said named 0
    → (n : ℕ) (c c' : Counts) (l l' : Lent) (text : List ℕ) → AnswersTo asks n c l c' l' text → Line bytes n c l c' l' text
line_says bytes read said named asks is_read is_said is-named is-asks n c c' l l' text a =
    subst (λ (x : Asks). AnswersTo x n c l c' l' text) (is-asks ∙ (λ j. asks_of ((is_said ∙ ap optrun_line is_read) j) (is-named j) 0)) a
