-- `turn::plan` meets its contract: by computation.
use mathlib.Core.Path.{refl}
use Rattle.step.specs.Figures.{figures_plan}
use Rattle.runner.proofs.turn.plan.Goals as goal

pub returns : goal.returns
unfolding figures_plan
returns c = refl
