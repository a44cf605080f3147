-- `input::scan` meets its contract: the bytes from where it began are passed, and none of them is an LF.
use Rattle.std.proofs.Common.{◌≤◌, length, max}
use Rattle.input.proofs.Cut.{Passed}
use Rattle.input.proofs.scan.Given as goal

abbrev pub invariant-loop-at : goal.invariant-loop-at
invariant-loop-at l = record { passed : Passed l.i l.initial.line l.chunk l.reader l.line l.at; within : l.at ≤ max l.i.at (length l.chunk) }
