-- `preamble::planned::with_regions` meets its contract: field by field.
use mathlib.Core.Path.{refl}
use Rattle.session.specs.Unopened.{with_regions}
use Rattle.session.proofs.preamble.planned.with_regions.Goals as goal

pub returns : goal.returns
unfolding with_regions
returns c = refl
