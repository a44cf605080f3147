-- `lookup::look` meets its contract: before each turn l is what is found in the rows behind those that are left.
use Rattle.std.proofs.Common.{◌≡◌, ◌++◌, List, take}
use Rattle.model.specs.declared.Row.{Row}
use Rattle.optable.specs.Looked.{looked_in}
use Rattle.optable.proofs.lookup.look.Given as goal

abbrev pub invariant-loop-row : goal.invariant-loop-row
invariant-loop-row l = (zs : List Row) × (l.row-iterator.iter.rest.now ++ zs ≡ take l.depth l.rows) × (l.l ≡ looked_in l.next zs)
