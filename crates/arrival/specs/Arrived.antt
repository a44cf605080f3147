-- What arrives under a queue tag, an answer or a flush result: which call it is, and what becomes of the operation.
use Rattle.std.specs.Prelude.{ℕ, List}
use Rattle.model.specs.declared.{Call.Call, Opening.Opening, Row.Row}
use Rattle.memory.specs.declared.liveregion.LiveRegion.{LiveRegion}
use Rattle.settle.specs.declared.Finished.{Finished}
use Rattle.arrival.specs.UnderWay.{FinishedIn, FlushedIn}
use Rattle.arrival.specs.declared.Arrived.{Arrived}

unfoldable pub arrived_call : ℕ → Arrived → Call
arrived_call t (Arrived.Answer answer back flushes) = Call.Answer t answer back flushes
arrived_call t (Arrived.Flushed result) = Call.Flushed t result

unfoldable pub BecomesIn : Arrived → ℕ → Opening → LiveRegion → Row → List ℕ → Finished → Type 0
BecomesIn (Arrived.Answer answer back flushes) t o g row store f = FinishedIn t o g row answer back flushes store f
BecomesIn (Arrived.Flushed result) t o g row store f = FlushedIn t o row result f
