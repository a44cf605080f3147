-- The two small orders by which demand 3's claim is run clause by clause (crate step, specs/Orders.antt) are lists of which demand 3 speaks: the host
-- keeps to its buffers in the history, and the suppositions hold. Proved in proofs/OrdersSupposed.antt (orders-supposed).
use Rattle.std.specs.Prelude.{◌≡◌, true, length}
use Rattle.model.specs.Opening.{opens}
use Rattle.step.specs.Lists.{Hosted}
use Rattle.step.specs.Demand3.{Supposed}
use Rattle.step.specs.Run.{opened_by, after}
use Rattle.step.specs.Figures.{figures_plan}
use Rattle.step.specs.Orders.{opening, lengths, filled, start, history, order₁, order₂}

pub record OrdersSupposed (admitted : opens opening figures_plan lengths ≡ true) (whole : length filled ≡ lengths.pool) : Type 0 where
  pub hosted : Hosted (opened_by (start admitted whole)) (history admitted whole)
  pub supposed : Supposed (after (start admitted whole) (history admitted whole)) (order₁ admitted whole) (order₂ admitted whole)
