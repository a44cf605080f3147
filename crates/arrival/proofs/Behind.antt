-- Nothing past what the table needs is written, and no length changes, whatever becomes of an operation.
use Rattle.std.proofs.Common.{◌≡◌, ℕ, ◌+◌, ◌-◌, ◌*◌, ◌<◌, ◌≤◌, List, length, drop, set, sym, refl, ap, ◌∙◌, arith, length-set, drop-drop, drop-set-lt}
use Rattle.iobuf.proofs.Laws.{turn_laws}
use Rattle.std.specs.declared.option.Option.{Option}
use Rattle.std.specs.declared.option.Option.TheVariants.{None, Some}
use Rattle.domain.specs.declared.FirstCause.{FirstCause}
use Rattle.model.specs.declared.Counts.{Counts}
use Rattle.model.specs.declared.Row.{Row}
use Rattle.model.specs.Memory.{lengths_of, settings_in}
use Rattle.step.specs.Step.{completion_of}
use Rattle.ring.proofs.Laws.{queue_laws}
use Rattle.marks.proofs.Laws.{poison_laws}
use Rattle.optable.specs.Called.{lent_of, Beyond}
use Rattle.settle.specs.declared.Finished.{Finished}
use Rattle.settle.specs.declared.Finished.TheVariants.{Away, Next, Ended, Rejected}
use Rattle.arrival.specs.Carried.{turned_pool, pushed, owner_word, poisoned_by, store_by, free_by, ready_by, owners_by, pool_by}
use Rattle.arrival.proofs.Releasing.{pushed_on}
use Rattle.arrival.proofs.Settling.{Held}

-- as long as before, and the same from a place on
pub record Kept (n : ℕ) (xs ys : List ℕ) : Type 0 where
  pub long : length xs ≡ length ys
  pub behind : drop n xs ≡ drop n ys

as_is : (n : ℕ) (xs : List ℕ) → Kept n xs xs
as_is n xs = record { long = refl; behind = refl }

set_kept : (n : ℕ) (xs : List ℕ) (k x : ℕ) → k < n → Kept n (set xs k x) xs
set_kept n xs k x low = record { long = length-set xs k x; behind = drop-set-lt n xs k x low }

poison_kept : (n : ℕ) (p : Option FirstCause) (store : List ℕ) → Kept (48 + 70 * n) (poisoned_by p store) store
unfolding poisoned_by
poison_kept n None store = as_is (48 + 70 * n) store
poison_kept n (Some cause) store =
    let e = poison_laws.beyond cause store in
    record { long = e.0; behind = sym (drop-drop (70 * n) 48 _) ∙ ap (drop (70 * n)) e.1 ∙ drop-drop (70 * n) 48 store }

store_kept : (n : ℕ) (f : Finished) (store : List ℕ) → Kept (48 + 70 * n) (store_by f store) store
unfolding store_by
store_kept n (Away f) store = as_is (48 + 70 * n) store
store_kept n (Next a t) store = as_is (48 + 70 * n) store
store_kept n (Ended end) store = poison_kept n end.cause store
store_kept n (Rejected e b) store = as_is (48 + 70 * n) store

pushed_kept : (d live r : ℕ) (free : List ℕ) → 0 < live → live ≤ d → Kept d (pushed live r free) free
pushed_kept d live r free some most =
    let e = pushed_on live r free some in
    let k = set_kept d free (live - 1) r (omega (arith, some, most)) in
    record { long = ap length e ∙ k.long; behind = ap (drop d) e ∙ k.behind }

free_kept : (d live r : ℕ) (f : Finished) (free : List ℕ) → 0 < live → live ≤ d → Kept d (free_by f live r free) free
unfolding free_by
free_kept d live r (Away f) free some most = as_is d free
free_kept d live r (Next a t) free some most = as_is d free
free_kept d live r (Ended end) free some most = pushed_kept d live r free some most
free_kept d live r (Rejected e b) free some most = pushed_kept d live r free some most

ready_kept : (d n : ℕ) (row : Row) (f : Finished) (ready : List ℕ) → Kept (1 + 16 * d) (ready_by f d n row ready) ready
unfolding ready_by
ready_kept d n row (Away f) ready = as_is (1 + 16 * d) ready
ready_kept d n row (Next a t) ready = as_is (1 + 16 * d) ready
ready_kept d n row (Ended end) ready = record { long = queue_laws.publish_length d n (completion_of row end.outcome end.buf) ready; behind = queue_laws.publish_behind d n (completion_of row end.outcome end.buf) ready }
ready_kept d n row (Rejected e b) ready = as_is (1 + 16 * d) ready

owners_kept : (n : ℕ) (row : Row) (f : Finished) (owners : List ℕ) → row.buffer < n → Kept n (owners_by f row owners) owners
unfolding owners_by
owners_kept n row (Away f) owners among = as_is n owners
owners_kept n row (Next a t) owners among = as_is n owners
owners_kept n row (Ended end) owners among = set_kept n owners row.buffer (owner_word 1 end.buf) among
owners_kept n row (Rejected e b) owners among = set_kept n owners row.buffer (owner_word 0 b) among

pool_long : (capacity : ℕ) (row : Row) (f : Finished) (pool : List ℕ) → length (pool_by f capacity row pool) ≡ length pool
unfolding pool_by turned_pool
pool_long capacity row (Away f) pool = refl
pool_long capacity row (Next a t) pool = turn_laws.turned_in_length capacity row.buffer t.total t.by pool
pool_long capacity row (Ended end) pool = turn_laws.turned_in_length capacity row.buffer end.turn.total end.turn.by pool
pool_long capacity row (Rejected e b) pool = refl

module _ (c : Counts) (rows : List Row) (store free ready owners pool : List ℕ) (r : ℕ) (row : Row) (h : Held c (lent_of rows store free ready owners pool) r row) where
  pub behind_all : (f : Finished) (x : Row)
      → Beyond (settings_in store) (lent_of rows store free ready owners pool)
      (lent_of (set rows r x) (store_by f store) (free_by f c.live r free) (ready_by f (settings_in store).depth c.ready row ready) (owners_by f row owners) (pool_by f (settings_in store).capacity row pool))
  unfolding lengths_of
  behind_all f x =
      let most = h.most in
      let stores = store_kept (settings_in store).regions f store in
      let frees = free_kept (settings_in store).depth c.live r f free h.some (omega (arith, most)) in
      let readies = ready_kept (settings_in store).depth c.ready row f ready in
      let owned = owners_kept (settings_in store).buffers row f owners h.among in
      record {
        lengths = λ j. record { rows = length-set rows r x j; store = stores.long j; free = frees.long j; ready = readies.long j; owners = owned.long j; pool = pool_long (settings_in store).capacity row f pool j };
        rows = drop-set-lt (settings_in store).depth rows r x h.below;
        store = stores.behind;
        free = frees.behind;
        ready = readies.behind;
        owners = owned.behind;
      }
