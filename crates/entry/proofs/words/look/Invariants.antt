-- `words::look` meets its contract. The loop's invariant: what is found in the rows from the index on (lookup's Turning).
use mathlib.Core.Path.{◌≡◌}
use Prim.Native.Nat.{◌/◌, ◌≤◌, min}
use lib.ListN.{length}
use Rattle.optable.proofs.Turning.{found}
use Rattle.abi.specs.RowWords.{rows_in}
use Rattle.entry.proofs.words.look.Given as goal

abbrev pub invariant-loop-i : goal.invariant-loop-i
invariant-loop-i l = (l.i ≤ min l.depth (length l.rows / 16)) × (l.l ≡ found l.next l.depth (rows_in l.rows) l.i)
