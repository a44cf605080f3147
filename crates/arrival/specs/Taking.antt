-- What a taking leaves.
use Rattle.std.specs.Prelude.{ℕ, List, slice_set}
use Rattle.completion.specs.Buffers.{Buffer}
use Rattle.std.specs.declared.option.Option.TheVariants.{Some as Back, None as Lost}
use Rattle.model.specs.declared.{Counts.Counts, Row.Row}
use Rattle.model.specs.declared.Call.TheVariants as Call
use Rattle.optable.specs.declared.touched.Touched.{Touched}
use Rattle.optable.specs.Called.{ArmTo}

-- "taking one gives its buffer back, if it came back": 0 is the host
unfoldable pub back_in : Buffer → List ℕ → List ℕ
back_in (Back h) owners = slice_set owners h.buffer 0
back_in Lost owners = owners

-- a taking, of any table whose parts these words are: only the completions and the owners change
abbrev pub TakesTo : Row → Counts → List ℕ → List ℕ → List ℕ → Touched → List ℕ → List ℕ → Type 0
TakesTo row c store ready owners r ready' owners' =
    (n : ℕ) (free pool : List ℕ) → ArmTo Call.Take row c n store free ready owners pool r store free ready' owners' pool
