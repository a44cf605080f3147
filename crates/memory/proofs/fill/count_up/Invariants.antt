-- `fill::count_up` meets its contract. The loop's invariant: the first i words count up from 0, and nothing else has changed.
use Rattle.std.proofs.Common.{◌≡◌, ◌++◌, drop}
use Rattle.model.specs.State.{up_from}
use Rattle.memory.proofs.fill.count_up.Given as goal

abbrev pub invariant-loop-i : goal.invariant-loop-i
invariant-loop-i l = l.word-items ≡ up_from 0 l.i ++ drop l.i l.initial.word-items
