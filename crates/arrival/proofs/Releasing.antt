-- The free stack, and each part of the memory where an operation is over.
use Rattle.std.proofs.Common.{◌≡◌, ℕ, ◌-◌, ◌<◌, ◌≤◌, false, List, set, le-ltb, lt-ltb}
use Rattle.layout.specs.Pick.{pick}
use Rattle.completion.specs.declared.Reply.TheVariants.{Done}
use Rattle.model.specs.declared.Counts.{Counts}
use Rattle.model.specs.declared.Opening.{Opening}
use Rattle.model.specs.declared.Row.{Row}
use Rattle.model.specs.State.{freed}
use Rattle.optable.specs.declared.Frees.TheVariants.{Completed as oneCompleted}
use Rattle.ring.specs.Queue.{published}
use Rattle.memory.specs.declared.liveregion.LiveRegion.{LiveRegion}
use Rattle.step.specs.Step.{raised, completion_of, row_of}
use Rattle.settle.specs.declared.End.{End}
use Rattle.settle.specs.declared.Finished.TheVariants.{Ended}
use Rattle.arrival.specs.Carried.{turned_pool, pushed, owner_word, poisoned_by, store_by, free_by, ready_by, owners_by, pool_by, TouchedBy, Carried}

pub pushed_none : (live row : ℕ) (free : List ℕ) → live ≤ 0 → pushed live row free ≡ free
unfolding pushed pick
pushed_none live row free l = rw (le-ltb 0 live l)

pub pushed_on : (live row : ℕ) (free : List ℕ) → 0 < live → pushed live row free ≡ set free (live - 1) row
unfolding pushed pick
pushed_on live row free l = rw (lt-ltb 0 live l)

pub ended_carried : (end : End) (t : ℕ) (row : Row) (o : Opening) (g : LiveRegion) (c : Counts) (store free ready owners pool : List ℕ) (over : Row) (store' free' ready' owners' pool' : List ℕ)
    → over ≡ freed (raised row.generation) → store' ≡ poisoned_by end.cause store → free' ≡ pushed c.live (row_of t) free → ready' ≡ published o.depth c.ready (completion_of row end.outcome end.buf) ready
    → owners' ≡ set owners row.buffer (owner_word 1 end.buf) → pool' ≡ turned_pool o.capacity row.buffer end.turn pool
    → Carried (Ended end) t row o g c store free ready owners pool (record { row = over; accepts = false; frees = oneCompleted; reply = Done t }) store' free' ready' owners' pool'
unfolding TouchedBy store_by free_by ready_by owners_by pool_by
ended_carried end t row o g c store free ready owners pool over store' free' ready' owners' pool' is poisoned gone put owned turned =
    record { touched_is = (λ i. record { row = is i; accepts = false; frees = oneCompleted; reply = Done t }); store_is = poisoned; free_is = gone; ready_is = put; owners_is = owned; pool_is = turned }
