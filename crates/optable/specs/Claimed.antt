-- The rows after a call: the one that it touches is claimed or released, by what the call frees.
use Rattle.std.specs.Prelude.{ℕ, Bool, true, false, List, slice_set}
use Rattle.layout.specs.Pick.{pick}
use Rattle.model.specs.declared.Row.{Row}
use Rattle.optable.specs.declared.Frees.{Frees}

-- whether the call gives its row back: its first piece was refused, or it is completed. A completion that is taken has given its row back before.
unfoldable pub frees_row : Frees → Bool
frees_row Frees.Nothing = false
frees_row Frees.Rejected = true
frees_row Frees.Completed = true
frees_row Frees.Taken = false

-- how many of n rows a claim may write, and a release
unfoldable pub claimable_of : Frees → ℕ → ℕ
claimable_of f n = pick (frees_row f) 0 n

unfoldable pub releasable_of : Frees → ℕ → ℕ
releasable_of f n = pick (frees_row f) n 0

-- "the row on top of the free stack is taken": the row stands at its place, and so does one that a call keeps; of a call that gives its row back
-- no row is claimed.
unfoldable pub claimed_in : Frees → ℕ → Row → List Row → List Row
claimed_in f at row rows = pick (frees_row f) rows (slice_set rows at row)

-- "Completing frees the row and raises its generation", "First piece refused: the row is freed, its generation kept": the freed row stands at its
-- place; of a call that gives no row back none is released.
unfoldable pub released_in : Frees → ℕ → Row → List Row → List Row
released_in f at row rows = pick (frees_row f) (slice_set rows at row) rows
