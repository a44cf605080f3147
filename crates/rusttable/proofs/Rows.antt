-- The Rust's row under a queue tag: where a table has an operation there, what `put` and `release` make of it; and the row that a live row of `step` is.
use mathlib.Core.Path.{◌≡◌, refl, sym, ◌∙◌}
use mathlib.Core.Bool.{true}
use mathlib.Core.List.{[], ◌∷◌, ◌++◌}
use mathlib.Core.Option.{Option, none, some}
use Prim.Native.Nat.{ℕ, ◌+◌, ◌-◌, ◌%◌, ◌^◌}
use lib.Dec.{eqb}
use lib.ListN.{get_elem?, set}
use lib.Seq.{set-set}
use Rattle.layout.specs.Pick.{pick}
use Rattle.layout.proofs.Tests.{and_right}
use Rattle.model.specs.State.{State, freed}
use Rattle.step.specs.Step.{row_at, row_of, generation_of, is_live, names}
use Rattle.step.specs.Sound.{Sound}
use Rattle.step.proofs.Named.{named_below}
use Rattle.rusttable.specs.Table.{IoBuf, Outcome, Live, Row, Table}
use Rattle.rusttable.specs.Functions.{given, filtered, is_some, index_in, generation_in, is_used, row, live_at, put, row_with, with_rows, release}
use Rattle.rusttable.specs.AsStep.{live_of, row_as, table_of}
use Rattle.rusttable.proofs.Lists.{get_map, get_set}

-- a table has the operation `live` in the row that a tag names
pub record Has (t : Table) (qtag : ℕ) (r : Row) (live : Live) : Type 0 where
  pub at : get_elem? t.rows (index_in qtag) ≡ some r
  pub generation : eqb r.generation (generation_in qtag) ≡ true
  pub operation : r.live ≡ some live

module _ (t : Table) (qtag : ℕ) (r : Row) (live : Live) (h : Has t qtag r live) where
  pub row_is : row t qtag ≡ some r
  unfolding row filtered is_used is_some pick
  row_is = rw (h.at, h.generation, h.operation) refl

  pub live_is : live_at t qtag ≡ some live
  unfolding live_at given
  live_is = rw row_is h.operation

  pub put_is : (now : Live) → put t qtag now ≡ with_rows t (set t.rows (index_in qtag) (row_with r (some now)))
  unfolding put given
  put_is now = rw row_is refl

  -- the operation that was put there is there
  pub has_put : (now : Live) → Has (put t qtag now) qtag (row_with r (some now)) now
  unfolding with_rows row_with
  has_put now = rw (put_is now) (record { at = get_set t.rows (index_in qtag) _ r h.at; generation = h.generation; operation = refl })

  pub released : (buf : Option IoBuf) (outcome : Outcome)
      → release t qtag buf outcome ≡ record { rows = set t.rows (index_in qtag) (record { generation = (r.generation + 1) % 2 ^ 32; live = none }); free = index_in qtag ∷ t.free; ready = t.ready ++ (record { tag = live.tag; buf = buf; outcome = outcome } ∷ []); live = t.live - 1; next_seq = t.next_seq }
  unfolding release given
  released buf outcome = rw (row_is, h.operation) refl

-- of what is put into a row before it is put again or released only the host's tag counts
module _ (t : Table) (qtag : ℕ) (r : Row) (live now : Live) (h : Has t qtag r live) where
  pub put_twice : (later : Live) → put (put t qtag now) qtag later ≡ put t qtag later
  unfolding with_rows row_with
  put_twice later = put_is (put t qtag now) qtag (row_with r (some now)) now (has_put t qtag r live h now) later ∙ twice
    where
      twice : with_rows (put t qtag now) (set (put t qtag now).rows (index_in qtag) (row_with (row_with r (some now)) (some later))) ≡ put t qtag later
      twice = rw (put_is t qtag r live h now, put_is t qtag r live h later, set-set) refl

  pub put_released : (buf : Option IoBuf) (outcome : Outcome) → now.tag ≡ live.tag → release (put t qtag now) qtag buf outcome ≡ release t qtag buf outcome
  unfolding with_rows row_with
  put_released buf outcome e =
      released (put t qtag now) qtag (row_with r (some now)) now (has_put t qtag r live h now) buf outcome ∙ once ∙ sym (released t qtag r live h buf outcome)
    where
      once : ◌≡◌ {A = Table} (record { rows = set (put t qtag now).rows (index_in qtag) (record { generation = ((row_with r (some now)).generation + 1) % 2 ^ 32; live = none }); free = index_in qtag ∷ (put t qtag now).free; ready = (put t qtag now).ready ++ (record { tag = now.tag; buf = buf; outcome = outcome } ∷ []); live = (put t qtag now).live - 1; next_seq = (put t qtag now).next_seq })
          (record { rows = set t.rows (index_in qtag) (record { generation = (r.generation + 1) % 2 ^ 32; live = none }); free = index_in qtag ∷ t.free; ready = t.ready ++ (record { tag = live.tag; buf = buf; outcome = outcome } ∷ []); live = t.live - 1; next_seq = t.next_seq })
      once = rw (put_is t qtag r live h now, e, set-set) refl

-- ---- a live row of step's table

module _ (s : State) (i : Sound s) (t : ℕ) (found : names (row_at s (row_of t)) t ≡ true) where
  pub has_live : (live : Live) → live_of s (row_at s (row_of t)) (row_at s (row_of t)).awaits ≡ some live → Has (table_of s) t (row_as s (row_at s (row_of t))) live
  unfolding table_of row_at row_of names generation_of index_in generation_in row_as
  has_live live e = record {
    at = get_map (row_as s) s.rows (t % 2 ^ 32) (freed 0) (rw i.rows (named_below s i t found));
    generation = and_right (is_live (row_at s (row_of t)).awaits) _ found;
    operation = e;
  }
