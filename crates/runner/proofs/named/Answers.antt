-- `runner::named` meets its contract: the numbers are the figures'.
use mathlib.Core.Path.{refl}
use Rattle.runner.specs.Runner.{figures_named}
use Rattle.runner.proofs.named.Goals as goal

pub returns : goal.returns
unfolding figures_named
returns c = refl
