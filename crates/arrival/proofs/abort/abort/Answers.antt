-- `abort::abort` meets its contract: each part is what a callee ensures.
use Rattle.std.proofs.Common.{false, refl}
use Rattle.optable.specs.declared.Frees.TheVariants.{Rejected as oneRejected}
use Rattle.step.specs.Step.{row_of}
use Rattle.settle.specs.Finished.{plan_with}
use Rattle.arrival.specs.Carried.{TouchedBy}
use Rattle.arrival.proofs.abort.abort.Goals as goal

pub returns : goal.returns
unfolding TouchedBy row_of plan_with
returns c =
    let a = c.args in (
      (λ store m. (λ i. record { row = c.freed_row.ensures i; accepts = false; frees = oneRejected; reply = c.rejection.ensures (plan_with a.g m) refl i })),
      c.push.ensures,
      c.own.ensures,
    )
