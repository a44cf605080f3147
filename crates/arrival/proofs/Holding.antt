-- Of a sound table: what is used of the live row that a tag names.
use Rattle.std.proofs.Common.{◌≡◌, ℕ, ◌<◌, true, List, get_or, sym, ap, ◌∙◌, subst, arith}
use Rattle.model.specs.declared.Counts.{Counts}
use Rattle.model.specs.declared.Row.{Row}
use Rattle.model.specs.State.{State, freed, awaiting}
use Rattle.model.specs.Memory.{Lent, lengths_of, lengths_in, same_lengths, settings_in, state_in}
use Rattle.step.specs.Step.{row_of, row_at, names}
use Rattle.step.specs.Sound.{Sound, InTable}
use Rattle.step.proofs.Named.{named_live}
use Rattle.step.proofs.Counts.{live_set}
use Rattle.step.proofs.Buffers.{in_pool_lem}
use Rattle.step.proofs.Memory.{lengths_are}
use Rattle.ring.specs.Queue.{Ring}
use Rattle.optable.specs.Called.{lent_of}
use Rattle.memory.proofs.Found.{free_long}
use Rattle.marks.proofs.Calling.{enough}
use Rattle.arrival.proofs.Turned.{row_at_lem}
use Rattle.arrival.proofs.Settling.{Held}

-- where a row is live, some are
some_live : (s : State) → Sound s → (r : ℕ) → r < s.settings.depth → awaiting (row_at s r).awaits ≡ 1 → 0 < s.counts.live
unfolding row_at awaiting freed
some_live s i r below e =
    let all = i.rows in
    let count = live_set s.rows r (freed 0) (freed 0) (omega (arith, all, below)) in
    let live = i.live in
    omega (arith, count, live, e)

module _ (c : Counts) (rows : List Row) (store free ready owners pool : List ℕ) (i : Sound (state_in c (lent_of rows store free ready owners pool)))
    (same : same_lengths (lengths_of (lent_of rows store free ready owners pool)) store ≡ true) (t : ℕ) (row : Row) (found : row ≡ get_or rows (row_of t) (freed 0))
    (below : row_of t < (settings_in store).depth) (named : names row t ≡ true) where
  abbrev l : Lent
  l = lent_of rows store free ready owners pool

  abbrev s : State
  s = state_in c l

  -- the row lent is the table's
  pub at : row ≡ row_at s (row_of t)
  at = found ∙ row_at_lem c l (row_of t) below

  pub named_at : names (row_at s (row_of t)) t ≡ true
  named_at = subst (λ (x : Row). names x t ≡ true) at named

  below_depth : row_of t < s.settings.depth
  unfolding state_in
  below_depth = below

  pub live : awaiting row.awaits ≡ 1
  live = subst (λ (x : Row). awaiting x.awaits ≡ 1) (sym at) (named_live s i t named_at)

  pub in_table : InTable s row
  in_table = subst (InTable s) (sym at) (i.in_table (row_of t) below_depth (named_live s i t named_at))

  ring : Ring (settings_in store).depth ready
  unfolding state_in lengths_in lengths_of
  ring =
      let e = ap (λ x. x.ready) (lengths_are (lengths_of l) store same) in
      let room = i.room.ready in
      record { some = i.numbers.some_depth; most = i.numbers.most_depth; room = omega (arith, e, room) }

  pub held : Held c l (row_of t) row
  unfolding state_in
  held = record {
    below = below;
    among = in_table.buffer;
    some = some_live s i (row_of t) below_depth (named_live s i t named_at);
    most = i.most;
    long = free_long c (lent_of rows store free ready owners pool) i same;
    words = enough (lengths_of l) store same;
    ring = ring;
    fits = in_pool_lem s i row.buffer in_table.buffer pool i.pool;
  }
