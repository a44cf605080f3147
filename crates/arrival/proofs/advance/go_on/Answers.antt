-- `advance::go_on` meets its contract: its parts are what the callees ensure.
use Rattle.std.proofs.Common.{false}
use Rattle.optable.specs.declared.Frees.TheVariants.{Nothing as none}
use Rattle.arrival.specs.Carried.{TouchedBy}
use Rattle.arrival.proofs.advance.go_on.Goals as goal

pub returns : goal.returns
unfolding TouchedBy
returns c =
    ((λ g. (c.asks_for.ensures, (λ i. record { row = c.awaits_now.ensures i; accepts = false; frees = none; reply = c.asks_for.result }))), c.turn.ensures)
