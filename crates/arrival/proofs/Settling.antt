-- What becomes of an operation, carried into what is lent, is what the step makes of the state.
use Rattle.std.proofs.Common.{◌≡◌, ℕ, ◌+◌, ◌-◌, ◌%◌, ◌^◌, ◌<◌, ◌≤◌, List, [], ◌∷◌, ◌++◌, length, get_or, take, drop, set, sym, ap, ◌∙◌, append-nil, mod-eq_of_lt, arith}
use mathlib.Core.Option.{none}
use lib.Seq.{take-set-lt}
use Rattle.regionmap.specs.Found.{wrap64}
use Rattle.iobuf.specs.Turn.{stretch, with_stretch}
use Rattle.iobuf.specs.TurnLaws.{Fits}
use Rattle.iobuf.proofs.Laws.{turn_laws}
use Rattle.std.specs.declared.option.Option.{Option}
use Rattle.domain.specs.declared.FirstCause.{FirstCause}
use Rattle.completion.specs.declared.Outcome.{Outcome}
use Rattle.completion.specs.Buffers.{Buffer}
use Rattle.completion.specs.declared.Completion.{Completion}
use Rattle.model.specs.declared.Counts.{Counts}
use Rattle.model.specs.declared.Awaits.{Awaits}
use Rattle.model.specs.declared.Row.{Row}
use Rattle.model.specs.State.{State, Owner, Owner.host, Owner.table, freed}
use Rattle.model.specs.Memory.{Lent, CompletionFits, settings_in, poison_in, ready_in, owner_in, state_in}
use Rattle.step.specs.Step.{raised, awaits_now, bytes_at, one_less, kept_by, poison_with, going, freeing, completion_of, with_poison}
use Rattle.optable.specs.declared.Frees.TheVariants.{Rejected as oneRejected, Completed as oneCompleted}
use Rattle.optable.specs.Counted.{released_by}
use Rattle.ring.specs.Queue.{Ring, published}
use Rattle.ring.proofs.Laws.{queue_laws}
use Rattle.optable.specs.Called.{lent_of}
use Rattle.settle.specs.declared.Turn.{Turn}
use Rattle.settle.specs.Finished.{turned_by, cause_is}
use Rattle.arrival.specs.Carried.{turned_pool, pushed, owner_word, poisoned_by}
use Rattle.arrival.proofs.Parts.{pushed_free, owner_set, kept_table, kept_host, CauseFits, poison_in_lem}

-- what is used of a live row in place r
pub record Held (c : Counts) (l : Lent) (r : ℕ) (row : Row) : Type 0 where
  pub below : r < (settings_in l.store).depth
  pub among : row.buffer < (settings_in l.store).buffers
  pub some : 0 < c.live
  pub most : c.live + c.ready ≤ (settings_in l.store).depth
  pub long : (settings_in l.store).depth ≤ length l.free
  pub words : 48 ≤ length l.store
  pub ring : Ring (settings_in l.store).depth l.ready
  pub fits : Fits (settings_in l.store).capacity row.buffer l.pool

module _ (c : Counts) (rows : List Row) (store free ready owners pool : List ℕ) (r : ℕ) (row : Row) (h : Held c (lent_of rows store free ready owners pool) r row) where
  abbrev l : Lent
  l = lent_of rows store free ready owners pool

  abbrev s : State
  s = state_in c l

  abbrev d : ℕ
  d = (settings_in store).depth

  abbrev capacity : ℕ
  capacity = (settings_in store).capacity

  -- the pool, turned
  pool_turned : (t : Turn) → turned_pool capacity row.buffer t pool ≡ with_stretch capacity row.buffer (turned_by t (stretch capacity row.buffer pool)) pool
  unfolding turned_pool turned_by
  pool_turned t = turn_laws.turned_in_lem capacity row.buffer t.total t.by pool h.fits

  -- ---- it goes on

  pub going_in : (a : Awaits) (t : Turn)
      → state_in c (lent_of (set rows r (awaits_now row a)) store free ready owners (turned_pool capacity row.buffer t pool)) ≡ going s r row a (turned_by t (bytes_at s row.buffer))
  unfolding state_in going bytes_at
  going_in a t = λ j. record { settings = s.settings; lengths = s.lengths; regions = s.regions; poison = s.poison; counts = c; rows = take-set-lt d rows r (awaits_now row a) h.below j; free = s.free; ready = s.ready; owners = s.owners; pool = pool_turned t j }

  -- ---- its row is freed

  module _ (generation : ℕ) (more : List Completion) (ready' : List ℕ) (word : ℕ) (who : Owner) (owner-is : owner_in word ≡ who)
      (ready_is : ready_in (settings_in store) d (get_or ready' 0 0) (c.ready + length more) (drop 1 ready') ≡ ready_in (settings_in store) d (get_or ready 0 0) c.ready (drop 1 ready) ++ more)
      (bytes pool' : List ℕ) (pool_is : pool' ≡ with_stretch capacity row.buffer bytes pool) where
    free_is : drop (c.live - 1) (take d (pushed c.live r free)) ≡ r ∷ drop c.live (take d free)
    free_is = let most = h.most in pushed_free d c.live r free h.some (omega (arith, most)) h.long

    freeing_in : state_in (one_less c (length more)) (lent_of (set rows r (freed generation)) store (pushed c.live r free) ready' (set owners row.buffer word) pool') ≡ freeing s r row generation more who bytes none
    unfolding state_in freeing one_less poison_with
    freeing_in = λ j. record {
      settings = s.settings;
      lengths = s.lengths;
      regions = s.regions;
      poison = s.poison;
      counts = one_less c (length more);
      rows = take-set-lt d rows r (freed generation) h.below j;
      free = free_is j;
      ready = ready_is j;
      owners = (owner_set (settings_in store).buffers row.buffer word owners h.among ∙ ap (set s.owners row.buffer) owner-is) j;
      pool = pool_is j;
    }

  -- its first piece was refused: its bytes stay
  counts_rejected : released_by oneRejected c ≡ one_less c 0
  unfolding released_by one_less
  counts_rejected = let e : c.ready ≡ c.ready + 0 = omega arith in λ j. record { live = c.live - 1; ready = e j; submissions = c.submissions }

  pub rejected_in : (b : Buffer)
      → state_in (released_by oneRejected c) (lent_of (set rows r (freed row.generation)) store (pushed c.live r free) ready (set owners row.buffer (owner_word 0 b)) pool)
      ≡ freeing s r row row.generation [] (kept_by host b) (bytes_at s row.buffer) none
  unfolding bytes_at state_in
  rejected_in b =
      let e : c.ready + 0 ≡ c.ready = omega arith in
      let same = ready_in (settings_in store) d (get_or ready 0 0) c.ready (drop 1 ready) in
      ap (λ (x : Counts). state_in x (lent_of (set rows r (freed row.generation)) store (pushed c.live r free) ready (set owners row.buffer (owner_word 0 b)) pool)) counts_rejected
      ∙ freeing_in row.generation [] ready (owner_word 0 b) (kept_by host b) (kept_host b)
      (ap (λ (n : ℕ). ready_in (settings_in store) d (get_or ready 0 0) n (drop 1 ready)) e ∙ sym (append-nil same))
      (stretch capacity row.buffer pool) pool (sym (turn_laws.filled_own capacity row.buffer pool))

  -- it is over: its completion is ready
  module _ (o : Outcome) (b : Buffer) (t : Turn) (cause : Option FirstCause) (completion-fits : CompletionFits (settings_in store) (completion_of row o b)) (cause_fits : CauseFits cause) where
    abbrev done : Completion
    done = completion_of row o b

    abbrev ready' : List ℕ
    ready' = published d c.ready done ready

    fewer : c.ready < d
    fewer = let most = h.most in let some = h.some in omega (arith, most, some)

    counts_completed : released_by oneCompleted c ≡ one_less c 1
    unfolding released_by one_less wrap64
    counts_completed =
        let small = fewer in
        let deep = h.ring.most in
        let e : (c.ready + 1) % 2 ^ 64 ≡ c.ready + 1 = mod-eq_of_lt (omega (arith, small, deep)) in
        λ j. record { live = c.live - 1; ready = e j; submissions = c.submissions }

    ready_published : ready_in (settings_in store) d (get_or ready' 0 0) (c.ready + 1) (drop 1 ready') ≡ ready_in (settings_in store) d (get_or ready 0 0) c.ready (drop 1 ready) ++ (done ∷ [])
    ready_published =
        ap (λ (k : ℕ). ready_in (settings_in store) d k (c.ready + 1) (drop 1 ready')) (queue_laws.publish_oldest d c.ready done ready)
        ∙ queue_laws.publish (settings_in store) d c.ready done ready h.ring fewer completion-fits

    -- all but the poison
    abbrev lent : Lent
    lent = lent_of (set rows r (freed (raised row.generation))) store (pushed c.live r free) ready' (set owners row.buffer (owner_word 1 b)) (turned_pool capacity row.buffer t pool)

    before_poison : state_in (released_by oneCompleted c) lent ≡ freeing s r row (raised row.generation) (done ∷ []) (kept_by table b) (turned_by t (bytes_at s row.buffer)) none
    unfolding bytes_at state_in
    before_poison =
        ap (λ (x : Counts). state_in x lent) counts_completed
        ∙ freeing_in (raised row.generation) (done ∷ []) ready' (owner_word 1 b) (kept_by table b) (kept_table b) ready_published (turned_by t (stretch capacity row.buffer pool)) (turned_pool capacity row.buffer t pool) (pool_turned t)

    pub ended_in : state_in (released_by oneCompleted c) (lent_of (set rows r (freed (raised row.generation))) (poisoned_by cause store) (pushed c.live r free) ready' (set owners row.buffer (owner_word 1 b)) (turned_pool capacity row.buffer t pool))
        ≡ freeing s r row (raised row.generation) (done ∷ []) (kept_by table b) (turned_by t (bytes_at s row.buffer)) (cause_is cause)
    unfolding freeing with_poison state_in
    ended_in =
        poison_in_lem (released_by oneCompleted c) lent cause h.words cause_fits
        ∙ ap (λ (x : State). with_poison x (poison_with (poison_in store) (cause_is cause))) before_poison
