-- A live row of `step` that awaits a piece: what is known of its range, the Rust's operation there, and that its end is concluded alike.
use mathlib.Core.Path.{◌≡◌, refl, ap}
use mathlib.Core.Bool.{Bool, true, false}
use mathlib.Core.List.{List}
use mathlib.Core.Option.{none, some}
use Prim.Native.Nat.{ℕ, ◌+◌, ◌≤◌, ◌<◌}
use native.Mathlib.Omega.{arith}
use borrow.Author.Tests.{eq-eqb, ne_eqb}
use lib.ListN.{length}
use Rattle.layout.specs.Pick.{pick}
use Rattle.regionmap.proofs.Laws.{map_laws}
use Rattle.platform.specs.declared.Answer.{Answer}
use Rattle.model.specs.declared.Kind.{Kind}
use Rattle.model.specs.declared.Kind.TheVariants.{Page, Read as Reads}
use Rattle.model.specs.declared.Split.{Split}
use Rattle.model.specs.declared.Awaits.{Awaits}
use Rattle.model.specs.declared.Awaits.TheVariants.{Piece}
use Rattle.model.specs.declared.Row.{Row}
use Rattle.model.specs.State.{State}
use Rattle.model.specs.Opening.{Plan}
use Rattle.step.specs.Questions.{byte_at, region_at}
use Rattle.step.specs.Rules.{left_of, first_of, last_of, piece_of, piece_length, buffer_as, turned_back, last_piece, range_start, range_end}
use Rattle.step.specs.Step.{row_at, row_of, names, bytes_at, awaits_now, going, plan_of}
use Rattle.step.specs.Sound.{SplitFits, InTable, Sound}
use Rattle.step.proofs.Named.{named_live, named_below}
use Rattle.step.proofs.Buffers.{bytes_length}
use Rattle.step.proofs.AloneTags.{live_in, names_live}
use Rattle.step.proofs.ProjectionSet.{row_here}
use Rattle.rusttable.specs.Table.{Live, Table}
use Rattle.rusttable.specs.Table.{Row as RustRow}
use Rattle.rusttable.specs.Functions.{with_split, conclude}
use Rattle.rusttable.specs.AsStep.{buf_of, split_of, live_of, row_as, table_of, store_of, piece_in, in_flight}
use Rattle.rusttable.proofs.Rows.{Has, has_live}
use Rattle.rusttable.proofs.Handed.{buf_as}
use Rattle.rusttable.proofs.Concluding.{result_for, is_refused, within, carried, operation_of, read_ends, write_ends}

-- the Rust's split: none of a piece that is the whole operation, else the operation's
pub split_none : (g : Plan) (k : Kind) (sp : Split) → piece_length g k sp ≡ sp.total → split_of g k sp ≡ none
unfolding split_of pick
split_none g k sp e = ap (λ (b : Bool). pick b none (some sp)) (eq-eqb (piece_length g k sp) sp.total e)

pub split_some : (g : Plan) (k : Kind) (sp : Split) → (piece_length g k sp ≡ sp.total → ⊥) → split_of g k sp ≡ some sp
unfolding split_of pick
split_some g k sp ne = ap (λ (b : Bool). pick b none (some sp)) (ne_eqb (piece_length g k sp) sp.total ne)

-- a live row that goes on awaits something else
pub row_going : (s : State) (t : ℕ) → names (row_at s (row_of t)) t ≡ true → (a : Awaits) (bytes : List ℕ) → row_at (going s (row_of t) (row_at s (row_of t)) a bytes) (row_of t) ≡ awaits_now (row_at s (row_of t)) a
unfolding going
row_going s t found a bytes =
    let row = row_at s (row_of t) in
    row_here s (going s (row_of t) row a bytes) (row_of t) row.buffer (awaits_now row a) bytes (record { settings = refl; regions = refl; rows = refl; pool = refl }) (live_in s (row_of t) (names_live row t found))

-- what the queue has of it
pub flies : (s : State) (t : ℕ) (row : Row) → row_at s (row_of t) ≡ row → (k : Kind) (sp : Split) → row.awaits ≡ Piece k sp → in_flight s t ≡ buf_of s row.buffer (piece_length (plan_of (region_at s row.handle)) k sp)
unfolding in_flight piece_in
flies s t row at k sp e = rw at (ap (λ (a : Awaits). buf_of s row.buffer (piece_in s row a)) e)

-- the piece under way, of an operation of some kind and split, in a buffer of some capacity
pub record Placed (g : Plan) (k : Kind) (sp : Split) (capacity : ℕ) : Type 0 where
  pub left : sp.done < sp.total
  pub room : sp.total ≤ capacity
  pub in_data_lem : (first_of k).0 + sp.total ≤ g.map.data_length
  pub ends : (first_of k).0 + sp.total ≡ (last_of k).0

abbrev Ranged : ℕ → ℕ → Awaits → Type 0
Ranged capacity data_length a = SplitFits a × (range_end a ≤ range_start a + capacity) × (range_end a ≤ data_length)

placed_kind : (g : Plan) (k : Kind) (sp : Split) (capacity : ℕ) → Ranged capacity g.map.data_length (Piece k sp) → Placed g k sp capacity
unfolding SplitFits range_start range_end first_of last_of
placed_kind g (Page a b) sp capacity r = record { left = r.0.1; room = omega (arith, r.0.0, r.1); in_data_lem = omega (arith, r.0.0, r.2); ends = r.0.0 }
placed_kind g (Reads a b) sp capacity r = record { left = r.0.1; room = omega (arith, r.0.0, r.1); in_data_lem = omega (arith, r.0.0, r.2); ends = r.0.0 }

module _ (s : State) (i : Sound s) (t : ℕ) (found : names (row_at s (row_of t)) t ≡ true) (k : Kind) (sp : Split) (awaits : (row_at s (row_of t)).awaits ≡ Piece k sp) where
  abbrev row : Row
  row = row_at s (row_of t)

  abbrev g : Plan
  g = plan_of (region_at s row.handle)

  abbrev bytes : List ℕ
  bytes = bytes_at s row.buffer

  pub its_place : InTable s row
  its_place = i.in_table (row_of t) (named_below s i t found) (named_live s i t found)

  pub long : length bytes ≡ s.settings.capacity
  long = bytes_length s i row.buffer its_place.buffer

  pub placed : Placed g k sp (length bytes)
  unfolding plan_of
  placed =
      let r : Ranged s.settings.capacity (region_at s row.handle).map.data_length row.awaits = (its_place.split, its_place.length, its_place.in_data_lem) in
      rw long (placed_kind g k sp s.settings.capacity (rw awaits at r))

  -- the Rust's operation
  abbrev pub its_live : Live
  its_live = with_split (operation_of row k) (split_of g k sp)

  pub there : live_of s row row.awaits ≡ some its_live
  unfolding live_of with_split
  there = rw awaits refl

  pub has : Has (table_of s) t (row_as s row) its_live
  has = has_live s i t found its_live there

  -- the piece is not empty
  pub some_bytes : 0 < piece_length g k sp
  unfolding piece_length piece_of plan_of
  some_bytes =
      let p = placed in
      (map_laws.one_piece (region_at s row.handle).map (i.each row.handle its_place.region).lawful (byte_at (first_of k).0 sp.done) (left_of sp) (omega (arith, p.left)) (omega (arith, p.left, p.in_data_lem))).some

-- ---- the end of an operation

-- a read is not refused without an error
unfoldable pub Told : Kind → Answer → Type 0
Told (Page a b) answer = Unit {0}
Told (Reads a b) answer = is_refused answer ≡ false

module _ (s : State) (n : ℕ) (row : Row) (T : Table) (t : ℕ) (r : RustRow) (sp : Split) (bytes : List ℕ) (answer : Answer) (back : Bool) where
  pub kind_ends : (k : Kind) → Has T t r (operation_of row k) → Placed (plan_of (region_at s row.handle)) k sp (length bytes) → Told k answer → within sp answer
      → conclude (record { store = store_of s n; table = T }) t (buf_as (buffer_as back row.buffer sp.total) (turned_back back sp bytes)) (result_for sp answer)
      ≡ carried s n row T t k (last_piece s.settings (plan_of (region_at s row.handle)) (region_at s row.handle).forced s.poison row k sp bytes answer back n)
  unfolding Told first_of last_of
  kind_ends (Page a b) has p told fits = write_ends s n row T t a b r has sp bytes p.ends p.left answer back
  kind_ends (Reads a b) has p told fits = read_ends s n row T t a b r has sp bytes p.room answer back told fits
