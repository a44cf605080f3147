-- The lines that both programs print: of a piece, of a number behind a word, and of a line that is not understood.
use Rattle.std.specs.Prelude.{List, [], ◌∷◌, ◌++◌, ℕ}
use Rattle.fields.specs.Codes.{codes}
use Rattle.printer.specs.Spaced.{spaced}

-- `piece`, `no`, `bad`
unfoldable pub piece_word : List ℕ
piece_word = codes "piece"

unfoldable pub no_word : List ℕ
no_word = codes "no"

unfoldable pub bad_word : List ℕ
bad_word = codes "bad"

unfoldable pub piece_text : ℕ → ℕ → ℕ → List ℕ
piece_text t o n = piece_word ++ spaced t ++ spaced o ++ spaced n ++ (10 ∷ [])

-- a word, a number and the line's end
unfoldable pub numbered : List ℕ → ℕ → List ℕ
numbered word n = word ++ spaced n ++ (10 ∷ [])

-- `bad` and the line's number
unfoldable pub bad_text : ℕ → List ℕ
bad_text n = numbered bad_word n
