-- `preamble::plan::put_region` meets its contract: before each turn the plan is what it was with the first j of the region's words laid over it from
-- `at` on.
use Rattle.std.proofs.Common.{◌≡◌}
use Rattle.std.proofs.Math.Seq.{paste}
use Rattle.parser.specs.Openings.{region_words}
use Rattle.parser.proofs.preamble.plan.put_region.Given as goal

abbrev pub invariant-loop-j : goal.invariant-loop-j
invariant-loop-j l = l.plan ≡ paste l.initial.plan l.at (region_words l.text) l.j
