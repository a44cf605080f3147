-- What becomes of an operation is carried into the table, case by case.
use Rattle.std.proofs.Common.{◌≡◌, ℕ, List, set, sym, refl, subst}
use Rattle.std.specs.declared.option.Option.{Option}
use Rattle.completion.specs.Buffers.{Buffer}
use Rattle.completion.specs.declared.Refusal.{Refusal}
use Rattle.model.specs.declared.Awaits.{Awaits}
use Rattle.model.specs.declared.Counts.{Counts}
use Rattle.model.specs.declared.Opening.{Opening}
use Rattle.model.specs.declared.Row.{Row}
use Rattle.memory.specs.declared.liveregion.LiveRegion.{LiveRegion}
use Rattle.step.specs.Step.{row_of}
use Rattle.optable.specs.declared.touched.Touched.{Touched}
use Rattle.optable.specs.Called.{away_with}
use Rattle.settle.specs.declared.Turn.{Turn}
use Rattle.settle.specs.declared.Finished.{Finished}
use Rattle.settle.specs.declared.Finished.TheVariants.{Away, Next, Rejected}
use Rattle.arrival.specs.Carried.{turned_pool, pushed, owner_word, store_by, free_by, ready_by, owners_by, pool_by, TouchedBy, Carried}

-- what is carried at a known end is carried at the end
pub known_carried : (f known : Finished) → f ≡ known → (t : ℕ) (row : Row) (o : Opening) (g : LiveRegion) (c : Counts) (store free ready owners pool : List ℕ) (r : Touched) (store' free' ready' owners' pool' : List ℕ)
    → Carried known t row o g c store free ready owners pool r store' free' ready' owners' pool' → Carried f t row o g c store free ready owners pool r store' free' ready' owners' pool'
known_carried f known is t row o g c store free ready owners pool r store' free' ready' owners' pool' carried =
    subst (λ (x : Finished). Carried x t row o g c store free ready owners pool r store' free' ready' owners' pool') (sym is) carried

pub away_carried : (f : Finished) (why : Refusal) → f ≡ Away why → (t : ℕ) (row : Row) (o : Opening) (g : LiveRegion) (c : Counts) (store free ready owners pool : List ℕ) (r : Touched)
    → r ≡ away_with row why → Carried f t row o g c store free ready owners pool r store free ready owners pool
unfolding TouchedBy store_by free_by ready_by owners_by pool_by
away_carried f why known t row o g c store free ready owners pool r is =
    known_carried f (Away why) known t row o g c store free ready owners pool r store free ready owners pool
    (record { touched_is = is; store_is = refl; free_is = refl; ready_is = refl; owners_is = refl; pool_is = refl })

pub next_carried : (f : Finished) (a : Awaits) (by : Turn) → f ≡ Next a by → (t : ℕ) (row : Row) (o : Opening) (g : LiveRegion) (c : Counts) (store free ready owners pool : List ℕ) (r : Touched) (pool' : List ℕ)
    → TouchedBy (Next a by) t row g store r → pool' ≡ turned_pool o.capacity row.buffer by pool
    → Carried f t row o g c store free ready owners pool r store free ready owners pool'
unfolding store_by free_by ready_by owners_by pool_by
next_carried f a by known t row o g c store free ready owners pool r pool' is turned =
    known_carried f (Next a by) known t row o g c store free ready owners pool r store free ready owners pool'
    (record { touched_is = is; store_is = refl; free_is = refl; ready_is = refl; owners_is = refl; pool_is = turned })

pub rejected_carried : (f : Finished) (e : Option ℕ) (b : Buffer) → f ≡ Rejected e b → (t : ℕ) (row : Row) (o : Opening) (g : LiveRegion) (c : Counts) (store free ready owners pool : List ℕ) (r : Touched) (free' owners' : List ℕ)
    → TouchedBy (Rejected e b) t row g store r → free' ≡ pushed c.live (row_of t) free → owners' ≡ set owners row.buffer (owner_word 0 b)
    → Carried f t row o g c store free ready owners pool r store free' ready owners' pool
unfolding store_by free_by ready_by owners_by pool_by
rejected_carried f e b known t row o g c store free ready owners pool r free' owners' is gone owned =
    known_carried f (Rejected e b) known t row o g c store free ready owners pool r store free' ready owners' pool
    (record { touched_is = is; store_is = refl; free_is = gone; ready_is = refl; owners_is = owned; pool_is = refl })
