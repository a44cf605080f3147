-- What becomes of a live row, carried into the Rust's table: `release` frees the row and hands the completion back, `put` leaves it awaiting its flush or its next
-- piece, and the tables are those of `step`'s next state.
use mathlib.Core.Path.{◌≡◌, refl, sym, ◌∙◌}
use mathlib.Core.Bool.{true}
use mathlib.Core.List.{List, [], ◌∷◌, ◌++◌, map}
use mathlib.Core.Option.{Option, none, some}
use Prim.Native.Nat.{ℕ, ◌+◌, ◌-◌, ◌%◌, ◌^◌}
use lib.ListN.{length, set}
use Rattle.domain.specs.declared.FirstCause.{FirstCause}
use Rattle.completion.specs.declared.Outcome.{Outcome}
use Rattle.completion.specs.Buffers.{Buffer}
use Rattle.std.specs.declared.option.Option.TheVariants.{Some as Back, None as Lost}
use Rattle.model.specs.declared.Awaits.{Awaits}
use Rattle.model.specs.declared.Row.{Row}
use Rattle.model.specs.State.{Owner.table, State}
use Rattle.step.specs.Step.{row_at, row_of, names, raised, kept_by, completion_of, bytes_at, awaits_now, going, freeing}
use Rattle.step.specs.Sound.{Sound}
use Rattle.step.proofs.Named.{named_live, named_below}
use Rattle.step.proofs.Fates.{Own}
use Rattle.rusttable.specs.Table.{IoBuf, Live, Table}
use Rattle.rusttable.specs.Functions.{index_in, put, row_with, with_rows, release}
use Rattle.rusttable.specs.AsStep.{buf_of, back_of, outcome_of, completion_as, live_of, row_as, table_of}
use Rattle.rusttable.proofs.Frames.{own_going, table_going, own_freeing, table_freeing}
use Rattle.rusttable.proofs.Rows.{put_is, released, has_live}

-- a buffer with its bytes
unfoldable pub buf_as : Buffer → List ℕ → Option IoBuf
buf_as (Back h) bytes = some (record { number = h.buffer; len = h.len; bytes = bytes })
buf_as Lost bytes = none

module _ (s : State) (i : Sound s) (t : ℕ) (found : names (row_at s (row_of t)) t ≡ true) where
  abbrev row : Row
  row = row_at s (row_of t)

  module _ (live : Live) (e : live_of s row row.awaits ≡ some live) (bytes : List ℕ) (long : length bytes ≡ s.settings.capacity) where
    -- it ends
    module _ (tag : live.tag ≡ row.tag) (o : Outcome) (b : Buffer) (own : Own row.buffer b) (cause : Option FirstCause) where
      abbrev after : State
      after = freeing s (row_of t) row (raised row.generation) (completion_of row o b ∷ []) (kept_by table b) bytes cause

      same_back : (x : Buffer) → Own row.buffer x → buf_as x bytes ≡ back_of after x
      unfolding Own buf_as back_of buf_of
      same_back (Back h) at =
          let filled = own_freeing s i (row_of t) (named_below s i t found) (named_live s i t found) bytes long (raised row.generation) (completion_of row o b ∷ []) (kept_by table b) cause in
          rw (at, filled) refl
      same_back Lost at = refl

      pub ends_released : release (table_of s) t (buf_as b bytes) (outcome_of o) ≡ table_of after
      unfolding table_of row_as raised row_of index_in completion_as completion_of
      ends_released =
          released (table_of s) t (row_as s row) live (has_live s i t found live e) (buf_as b bytes) (outcome_of o) ∙ between
          ∙ sym (table_freeing s i (row_of t) (named_below s i t found) (named_live s i t found) bytes long (raised row.generation) (completion_of row o b ∷ []) (kept_by table b) cause)
        where
          between : ◌≡◌ {A = Table} (record { rows = set (table_of s).rows (index_in t) (record { generation = ((row_as s row).generation + 1) % 2 ^ 32; live = none }); free = index_in t ∷ (table_of s).free; ready = (table_of s).ready ++ (record { tag = live.tag; buf = buf_as b bytes; outcome = outcome_of o } ∷ []); live = (table_of s).live - 1; next_seq = (table_of s).next_seq })
              (record { rows = set (map (row_as s) s.rows) (row_of t) (record { generation = raised row.generation; live = none }); free = row_of t ∷ s.free; ready = map (completion_as s) s.ready ++ map (completion_as after) (completion_of row o b ∷ []); live = s.counts.live - 1; next_seq = s.counts.submissions })
          between = rw (tag, same_back b own) refl

    -- it goes on
    module _ (a : Awaits) (now : Live) where
      abbrev onward : State
      onward = going s (row_of t) row a bytes

      pub own_onward : bytes_at onward row.buffer ≡ bytes
      own_onward = own_going s i (row_of t) (named_below s i t found) (named_live s i t found) bytes long a

      pub onward_put : live_of onward (awaits_now row a) a ≡ some now → put (table_of s) t now ≡ table_of onward
      unfolding table_of row_as row_of index_in with_rows row_with awaits_now
      onward_put same =
          put_is (table_of s) t (row_as s row) live (has_live s i t found live e) now ∙ rw (sym same) refl
          ∙ sym (table_going s i (row_of t) (named_below s i t found) (named_live s i t found) bytes long a)
