-- `start::start` meets its contract: each field is the definition's.
use Rattle.std.proofs.Common.{Bool, ap}
use Rattle.model.specs.declared.Awaits.TheVariants.{Piece}
use Rattle.step.specs.Step.{claimed_by, begun}
use Rattle.optable.proofs.start.start.Goals as goal

pub returns : goal.returns
unfolding claimed_by
returns c =
    let a = c.args in
    ap (λ (d : Bool). record { generation = a.generation; tag = a.q.tag; seq = a.seq; handle = a.q.handle; buffer = a.q.buffer; durable = d; awaits = Piece a.kind (begun a.q.length) }) c.durable_as.ensures
