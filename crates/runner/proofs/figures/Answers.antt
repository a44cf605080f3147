-- `runner::figures` meets its contract: the numbers are the figures'.
use mathlib.Core.Path.{refl}
use Rattle.step.specs.Figures.{figures_opening}
use Rattle.runner.proofs.figures.Goals as goal

pub returns : goal.returns
unfolding figures_opening
returns c = refl
