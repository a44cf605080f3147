-- `turn::over` meets its contract: by the stage (Turns).
use Rattle.session.proofs.Turns.{over_ends, others_go_on}
use Rattle.session.proofs.turn.over.Goals as goal

pub returns-in-Over : goal.returns-in-Over
returns-in-Over c = over_ends _ _ c.in-Over.is

pub returns-in_default : goal.returns-in_default
returns-in_default c = others_go_on _ _ c.in_default.not-Over
