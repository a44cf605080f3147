-- `mayfill::any_loose` meets its contract: before each turn no row that was passed is loose.
use Rattle.std.proofs.Common.{◌≡◌, List, ℕ, false, take}
use Rattle.model.specs.declared.Counts.{Counts}
use Rattle.model.specs.Memory.{state_in}
use Rattle.optable.specs.Called.{lent_of}
use Rattle.hostfill.specs.MayFill.{any_loose, Open}
use Rattle.hostfill.proofs.mayfill.any_loose.Given as goal

abbrev pub invariant-loop-row : goal.invariant-loop-row
invariant-loop-row l =
    (c : Counts) (free ready owners pool : List ℕ) → Open c (lent_of l.fn.rows l.store free ready owners pool)
    → any_loose (state_in c (lent_of l.fn.rows l.store free ready owners pool)) l.b l.end (take l.row-index (take l.depth l.fn.rows)) ≡ false
