-- `conclude::conclude` meets its contract, by the three cases of the definition.
use Rattle.std.proofs.Common.{rules}
use Rattle.layout.specs.Pick.{pick}
use Rattle.step.specs.Rules.{written_as}
use Rattle.settle.specs.Finished.{fate_by, cause_is}
use Rattle.settle.proofs.conclude.conclude.Goals as goal

pub returns-then-not-durable : goal.returns-then-not-durable
unfolding written_as fate_by cause_is pick
returns-then-not-durable c = search rules

pub returns-then-o : goal.returns-then-o
unfolding written_as fate_by cause_is pick
returns-then-o c = search rules

pub returns : goal.returns
unfolding written_as fate_by cause_is pick
returns c = search rules
