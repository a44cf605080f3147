-- What replay prints of a sum and of the rows: TRACE.md's section "Replies".
use Rattle.std.specs.Prelude.{List, [], ◌∷◌, ◌++◌, ℕ}
use Rattle.fields.specs.Codes.{codes}
use Rattle.printer.specs.Texts.{numbered}
use Rattle.printer.specs.Parts.{fields_of}

-- `sum`, `rows`, ` free`
abbrev pub sum_word : List ℕ
sum_word = codes "sum"

abbrev pub rows_word : List ℕ
rows_word = codes "rows"

abbrev pub free_word : List ℕ
free_word = codes " free"

-- `sum S`
unfoldable pub sum_text : ℕ → List ℕ
sum_text s = numbered sum_word s

-- `rows GENERATION... free ROW...`
unfoldable pub rows_text : List ℕ → List ℕ → List ℕ
rows_text generations free = fields_of rows_word generations ++ fields_of free_word free ++ (10 ∷ [])
