-- The Rust's rows and completions of two states whose regions are the same: alike where the bytes of the buffers that they hold are.
use mathlib.Core.Path.{◌≡◌, refl, ap}
use mathlib.Core.Logic.{◌≢◌}
use mathlib.Core.Bool.{true}
use mathlib.Core.List.{List, [], ◌∷◌, ◌++◌, map, map-append}
use mathlib.Core.Option.{Option, none}
use Prim.Native.Nat.{ℕ, ◌-◌, ◌<◌}
use native.Mathlib.Omega.{arith}
use lib.ListN.{length, get_or, set}
use Rattle.iobuf.specs.TurnLaws.{Fits}
use Rattle.iobuf.proofs.Laws.{turn_laws}
use Rattle.domain.specs.declared.FirstCause.{FirstCause}
use Rattle.completion.specs.Buffers.{Buffer}
use Rattle.std.specs.declared.option.Option.TheVariants.{Some as Back, None as Lost}
use Rattle.completion.specs.declared.Completion.{Completion}
use Rattle.model.specs.declared.Awaits.{Awaits}
use Rattle.model.specs.declared.Awaits.TheVariants.{Nothing, Piece, Flush}
use Rattle.model.specs.declared.Row.{Row}
use Rattle.model.specs.State.{Owner, Owner.lost, State, freed, awaiting}
use Rattle.step.specs.Questions.{region_at}
use Rattle.step.specs.Step.{row_at, is_live, bytes_at, awaits_now, going, freeing, one_less}
use Rattle.step.specs.Sound.{holds, ready_hold, Sound}
use Rattle.step.proofs.Named.{one_live}
use Rattle.step.proofs.Counts.{back_holds_own, has_most, holds_own, holds_none}
use Rattle.step.proofs.Buffers.{in_pool_lem}
use Rattle.step.proofs.Replaced.{hold_replaced}
use Rattle.step.proofs.ProjectionHost.{sole}
use Rattle.rusttable.specs.Functions.{with_rows}
use Rattle.rusttable.specs.AsStep.{buf_of, back_of, completion_as, live_of, row_as, table_of}
use Rattle.rusttable.proofs.Lists.{map_set_alike}

module _ (s s' : State) (same : s'.regions ≡ s.regions) where
  same_live : (x : Row) (a : Awaits) → (is_live a ≡ true → bytes_at s' x.buffer ≡ bytes_at s x.buffer) → live_of s' x a ≡ live_of s x a
  unfolding live_of buf_of is_live region_at
  same_live x Nothing h = refl
  same_live x (Piece k sp) h = rw same refl
  same_live x (Flush t) h = rw (h refl) refl

  pub same_row : (x : Row) → (is_live x.awaits ≡ true → bytes_at s' x.buffer ≡ bytes_at s x.buffer) → row_as s' x ≡ row_as s x
  unfolding row_as
  same_row x h = rw (same_live x x.awaits h) refl

-- the buffers that no completion holds may change
module _ (s s' : State) (b : ℕ) (others : (k : ℕ) → k ≢ b → bytes_at s' k ≡ bytes_at s k) where
  same_back : (x : Buffer) → holds b x ≡ 0 → back_of s' x ≡ back_of s x
  unfolding back_of buf_of
  same_back (Back h) z = rw (others h.buffer (λ e. omega (arith, ap (λ (m : ℕ). holds b (Back (record { buffer = m; len = h.len }))) e, back_holds_own b h.len))) refl
  same_back Lost z = refl

  pub same_completions : (cs : List Completion) → ready_hold b cs ≡ 0 → map (completion_as s') cs ≡ map (completion_as s) cs
  unfolding completion_as ready_hold
  same_completions [] z = refl
  same_completions (c ∷ cs) z = rw (same_back c.buf (omega arith), same_completions cs (omega arith)) refl

-- ---- a live row goes on or is freed, and its buffer has other bytes

freed_none : awaiting (freed 0).awaits ≡ 0
unfolding freed awaiting
freed_none = refl

module _ (s : State) (i : Sound s) (r : ℕ) (below : r < s.settings.depth) (live : awaiting (row_at s r).awaits ≡ 1) where
  abbrev row : Row
  row = row_at s r

  -- no completion holds the row's buffer
  none_ready : ready_hold row.buffer s.ready ≡ 0
  none_ready =
      omega (arith, hold_replaced s i r below row.buffer (freed 0), holds_own row, holds_none row.buffer (freed 0) freed_none, live, i.holders row.buffer, has_most (get_or s.owners row.buffer lost))

  module _ (s' : State) (same : s'.regions ≡ s.regions) (others : (k : ℕ) → k ≢ row.buffer → bytes_at s' k ≡ bytes_at s k) where
    pub other_rows : (new : Row) → map (row_as s') (set s.rows r new) ≡ set (map (row_as s) s.rows) r (row_as s' new)
    unfolding row_at
    other_rows new =
        map_set_alike (row_as s) (row_as s') s.rows r new (freed 0)
        (λ j n. same_row s s' same (row_at s j) (λ lv. others (row_at s j).buffer (λ e. n (sole s i r j (one_live row.awaits live) lv e))))

    pub ready_kept : map (completion_as s') s.ready ≡ map (completion_as s) s.ready
    ready_kept = same_completions s s' row.buffer others s.ready none_ready

  module _ (bytes : List ℕ) (long : length bytes ≡ s.settings.capacity) where
    fits : Fits s.settings.capacity row.buffer s.pool
    fits = in_pool_lem s i row.buffer (i.in_table r below live).buffer s.pool i.pool

    module _ (a : Awaits) where
      abbrev gone : State
      gone = going s r row a bytes

      pub own_going : bytes_at gone row.buffer ≡ bytes
      unfolding bytes_at going
      own_going = turn_laws.stretch_filled s.settings.capacity row.buffer bytes s.pool fits long

      others_going : (k : ℕ) → k ≢ row.buffer → bytes_at gone k ≡ bytes_at s k
      unfolding bytes_at going
      others_going k n = turn_laws.stretch_other s.settings.capacity row.buffer k bytes s.pool fits long n

      pub table_going : table_of gone ≡ with_rows (table_of s) (set (map (row_as s) s.rows) r (row_as gone (awaits_now row a)))
      unfolding table_of going with_rows
      table_going = rw (other_rows gone refl others_going (awaits_now row a), ready_kept gone refl others_going) refl

    module _ (g : ℕ) (more : List Completion) (who : Owner) (cause : Option FirstCause) where
      abbrev left : State
      left = freeing s r row g more who bytes cause

      pub own_freeing : bytes_at left row.buffer ≡ bytes
      unfolding bytes_at freeing
      own_freeing = turn_laws.stretch_filled s.settings.capacity row.buffer bytes s.pool fits long

      others_freeing : (k : ℕ) → k ≢ row.buffer → bytes_at left k ≡ bytes_at s k
      unfolding bytes_at freeing
      others_freeing k n = turn_laws.stretch_other s.settings.capacity row.buffer k bytes s.pool fits long n

      pub table_freeing : table_of left ≡ record { rows = set (map (row_as s) s.rows) r (record { generation = g; live = none }); free = r ∷ s.free; ready = map (completion_as s) s.ready ++ map (completion_as left) more; live = s.counts.live - 1; next_seq = s.counts.submissions }
      unfolding table_of freeing one_less row_as live_of freed
      table_freeing = rw (other_rows left refl others_freeing (freed g), map-append, ready_kept left refl others_freeing) refl
