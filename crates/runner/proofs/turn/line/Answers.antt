-- `turn::line` meets its contract: what is asked for is what the line says (Turns).
use Rattle.runner.proofs.Turns.{line_says}
use Rattle.runner.proofs.turn.line.Goals as goal

pub returns-clause-by_index : goal.returns-clause-by_index
returns-clause-by_index c =
    λ bytes k. line_says bytes _ _ _ _ (c.finish.ensures bytes k) c.optrun_line-said.ensures c.named.ensures c.asked-asks.ensures _ _ _ _ _ _ c.answer.ensures.answers
