-- `pool::sum` meets its contract: before each turn the sum of what is left, from the two numbers on, is the whole's.
use Rattle.std.proofs.Common.{◌≡◌, ◌<◌, drop}
use Rattle.hostfill.specs.Writes.{sum_from, sum_of}
use Rattle.hostfill.proofs.pool.sum.Given as goal

abbrev pub invariant-loop-b : goal.invariant-loop-b
invariant-loop-b l = record {
  first : l.s1 < 4294967291;
  second : l.s2 < 4294967291;
  left : sum_from l.s1 l.s2 (drop l.b-index l.bytes) ≡ sum_of l.bytes;
}
