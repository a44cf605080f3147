-- What a call leaves, over the words in the struct in which they are lent on (memory's Words), and the pool.
use Rattle.std.specs.Prelude.{ℕ, List}
use Rattle.model.specs.declared.{Opening.Opening, Counts.Counts, Row.Row, Call.Call}
use Rattle.memory.specs.declared.liveregion.LiveRegion.{LiveRegion}
use Rattle.memory.specs.declared.words.Words.{Words}
use Rattle.optable.specs.declared.touched.Touched.{Touched}
use Rattle.optable.specs.Called.{TouchesTo, ArmTo}
use Rattle.settle.specs.declared.Finished.{Finished}
use Rattle.arrival.specs.Carried.{Carried}

abbrev pub CarriedIn : Finished → ℕ → Row → Opening → LiveRegion → Counts → Words → List ℕ → Touched → Words → List ℕ → Type 0
CarriedIn f t row o g c w pool r w' pool' =
    Carried f t row o g c w.store.now w.free.now w.ready.now w.owners.now pool
    r w'.store.now w'.free.now w'.ready.now w'.owners.now pool'

abbrev pub ArmIn : Call → Row → Counts → ℕ → Words → List ℕ → Touched → Words → List ℕ → Type 0
ArmIn call row c n w pool t w' pool' =
    ArmTo call row c n w.store.now w.free.now w.ready.now w.owners.now pool
    t w'.store.now w'.free.now w'.ready.now w'.owners.now pool'

abbrev pub TouchesIn : Call → Row → Counts → ℕ → Words → List ℕ → Touched → Words → List ℕ → Type 0
TouchesIn call row c n w pool t w' pool' =
    TouchesTo call row c n w.store.now w.free.now w.ready.now w.owners.now pool
    t w'.store.now w'.free.now w'.ready.now w'.owners.now pool'
