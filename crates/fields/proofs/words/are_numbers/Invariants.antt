-- `words::are_numbers` meets its contract: the fields before the k-th are numbers.
use Rattle.std.proofs.Common.{◌≡◌, ◌≤◌, ◌<◌, ℕ, true}
use Rattle.fields.specs.Fields.{field, is_number}
use Rattle.fields.proofs.words.are_numbers.Given as goal

abbrev pub invariant-loop-k : goal.invariant-loop-k
invariant-loop-k l = (j : ℕ) → 1 ≤ j → j < l.k → is_number (field j l.text) ≡ true
