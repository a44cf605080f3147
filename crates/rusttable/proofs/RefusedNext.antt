-- `Table::refused_next` is `step`'s answer that a later piece was refused.
use mathlib.Core.Path.{◌≡◌, refl, ap, sym, ◌∙◌}
use mathlib.Core.Bool.{Bool, true, false}
use mathlib.Core.List.{List}
use mathlib.Core.Option.{Option, none, some, map}
use Prim.Native.Nat.{ℕ, ◌<◌}
use native.Mathlib.Omega.{arith}
use borrow.Author.Tests.{ltb-true, ne_eqb}
use lib.ListN.{length}
use Rattle.layout.specs.Pick.{pick}
use Rattle.layout.proofs.Tests.{not_both}
use Rattle.platform.specs.declared.Answer.TheVariants.{Refused, RefusedWith}
use Rattle.model.specs.declared.Lengths.{Lengths}
use Rattle.model.specs.declared.Kind.{Kind}
use Rattle.model.specs.declared.Kind.TheVariants.{Page, Read as Reads}
use Rattle.model.specs.declared.Split.{Split}
use Rattle.model.specs.declared.Awaits.{Awaits}
use Rattle.model.specs.declared.Awaits.TheVariants.{Nothing, Piece, Flush as AwaitsFlush}
use Rattle.model.specs.declared.Row.{Row}
use Rattle.model.specs.declared.Call.TheVariants.{Answer as Answers}
use Rattle.model.specs.State.{State}
use Rattle.model.specs.Opening.{Plan}
use Rattle.step.specs.Questions.{region_at}
use Rattle.step.specs.Rules.{first_of, last_of, range_of, read_outcome, read_length, piece_length, Input.answered as fedAnswer, Fate, buffer_as, turned_back, last_piece, above_piece, first_refused, is_whole, goes_on, piece_answered, answer_rules, rules}
use Rattle.step.specs.Step.{poison_with, row_at, row_of, names, bytes_at, plan_of, settled, fate_of, called, step}
use Rattle.step.specs.Sound.{Sound}
use Rattle.step.proofs.Fates.{fate_fits}
use Rattle.step.proofs.QuietRules.{piece_most}
use Rattle.rusttable.specs.Table.{Result.Err, IoBuf, RawError, NotWrittenCause.QueueFull, Live, Table, Finish, Finish.Finished, Submitter}
use Rattle.rusttable.specs.Table.{Row as RustRow}
use Rattle.rusttable.specs.Functions.{given, is_some, in_order, returned, put, row_with, with_split, with_table, as_read, region, release, not_written, ctx_range, refused_as, conclude, refused_next}
use Rattle.rusttable.specs.Domain.{compared}
use Rattle.rusttable.specs.AsStep.{Finishes, is_later, refusal_of, context_of, outcome_of, buf_of, split_of, row_as, table_of, store_of, submitter_of, piece_in, in_flight}
use Rattle.rusttable.proofs.Rows.{Has, live_is, has_put}
use Rattle.rusttable.proofs.Handed.{buf_as}
use Rattle.rusttable.proofs.Concluding.{result_for, is_refused, within, carried, operation_of}
use Rattle.rusttable.proofs.Carried.{last_ended, carried_put, carried_settled}
use Rattle.rusttable.proofs.Turning.{order_back}
use Rattle.rusttable.proofs.Pieces.{split_some, Placed, placed, its_live, there, has, Told, kind_ends}
use Rattle.rusttable.proofs.Within.{called_step, found_under}

-- the result that a refusal comes to
refused_result : (sp : Split) (raw : Option RawError) → refused_as sp.done raw ≡ result_for sp (refusal_of raw)
unfolding refused_as result_for refusal_of
refused_result sp none = refl
refused_result sp (some e) = refl

-- a refusal is never a count
pub refusal_not_above : (piece : ℕ) (raw : Option RawError) → above_piece piece (refusal_of raw) ≡ false
unfolding above_piece refusal_of
refusal_not_above piece none = refl
refusal_not_above piece (some e) = refl

refusal_stops : (piece : ℕ) (sp : Split) (raw : Option RawError) (back : Bool) → goes_on piece sp (refusal_of raw) back ≡ false
unfolding goes_on is_whole refusal_of
refusal_stops piece sp none back = refl
refusal_stops piece sp (some e) back = refl

refusal_within : (sp : Split) (raw : Option RawError) → within sp (refusal_of raw)
unfolding within refusal_of
refusal_within sp none = tt
refusal_within sp (some e) = tt

told_error : (k : Kind) (e : RawError) → Told k (RefusedWith e.raw e.media)
unfolding Told is_refused
told_error (Page a b) e = tt
told_error (Reads a b) e = refl

-- without an error a read is released as QueueFull, and a write is concluded
module _ (s : State) (n : ℕ) (row : Row) (T : Table) (t : ℕ) (r : RustRow) (sp : Split) (bytes : List ℕ) (back : Bool) where
  bare_ends : (k : Kind) → Has T t r (operation_of row k) → Placed (plan_of (region_at s row.handle)) k sp (length bytes)
      → (given (as_read k) (conclude (record { store = store_of s n; table = T }) t (buf_as (buffer_as back row.buffer sp.total) (turned_back back sp bytes)) (result_for sp Refused))
      λ x. (with_table (record { store = store_of s n; table = T }) (release T t (buf_as (buffer_as back row.buffer sp.total) (turned_back back sp bytes)) (Err (not_written QueueFull (ctx_range (region_at s row.handle) x.0 x.1)))), Finished))
      ≡ carried s n row T t k (last_piece s.settings (plan_of (region_at s row.handle)) (region_at s row.handle).forced s.poison row k sp bytes Refused back n)
  unfolding given as_read Told within last_piece carried read_outcome read_length outcome_of context_of not_written ctx_range range_of plan_of first_of last_of with_table poison_with store_of
  bare_ends (Page a b) h p = kind_ends s n row T t r sp bytes Refused back (Page a b) h p tt tt
  bare_ends (Reads a b) h p = refl

module _ (s : State) (i : Sound s) (n t : ℕ) (found : names (row_at s (row_of t)) t ≡ true) (k : Kind) (sp : Split) (awaits : (row_at s (row_of t)).awaits ≡ Piece k sp) (later : 0 < sp.done) (back : Bool) where
  abbrev row : Row
  row = row_at s (row_of t)

  abbrev g : Plan
  g = plan_of (region_at s row.handle)

  abbrev bytes : List ℕ
  bytes = bytes_at s row.buffer

  abbrev piece : ℕ
  piece = piece_length g k sp

  abbrev buf : IoBuf
  buf = buf_of s row.buffer piece

  abbrev last : Option RawError → Fate
  last raw = last_piece s.settings g (region_at s row.handle).forced s.poison row k sp bytes (refusal_of raw) back n

  abbrev rust : Option RawError → Submitter × Finish
  rust raw = refused_next (submitter_of s n) t (returned back buf) raw

  abbrev live : Live
  live = its_live s i t found k sp awaits

  abbrev T : Table
  T = put (table_of s) t (operation_of row k)

  same_tag : live.tag ≡ row.tag
  unfolding with_split
  same_tag = refl

  facts : Placed g k sp (length bytes)
  facts = placed s i t found k sp awaits

  several : split_of g k sp ≡ some sp
  several = let most = piece_most g k sp in split_some g k sp (λ e. omega (arith, most, later, facts.left))

  abbrev ordered : Option IoBuf
  ordered = buf_as (buffer_as back row.buffer sp.total) (turned_back back sp bytes)

  abbrev taken : Submitter
  taken = record { store = store_of s n; table = T }

  in_order_lem : map (in_order sp) (returned back buf) ≡ ordered
  unfolding buf_of
  in_order_lem = order_back row.buffer piece bytes sp facts.room back

  refused_is : (raw : Option RawError) → rust raw
      ≡ pick (is_some raw) (conclude taken t ordered (result_for sp (refusal_of raw)))
      (given (as_read k) (conclude taken t ordered (result_for sp (refusal_of raw))) λ r. (with_table taken (release T t ordered (Err (not_written QueueFull (ctx_range (region_at s row.handle) r.0 r.1)))), Finished))
  unfolding refused_next given with_split with_table submitter_of buf_of region store_of region_at
  refused_is raw =
      rw (live_is (table_of s) t (row_as s row) live (has s i t found k sp awaits), several)
      (λ j. pick (is_some raw) (conclude taken t (in_order_lem j) (refused_result sp raw j))
      (given (as_read k) (conclude taken t (in_order_lem j) (refused_result sp raw j)) λ r. (with_table taken (release T t (in_order_lem j) (Err (not_written QueueFull (ctx_range (region_at s row.handle) r.0 r.1)))), Finished)))

  has_taken : Has T t (row_with (row_as s row) (some (operation_of row k))) (operation_of row k)
  has_taken = has_put (table_of s) t (row_as s row) live (has s i t found k sp awaits) (operation_of row k)

  concluded_alike : (raw : Option RawError) → Told k (refusal_of raw) → conclude taken t ordered (result_for sp (refusal_of raw)) ≡ carried s n row T t k (last raw)
  concluded_alike raw told = kind_ends s n row T t _ sp bytes (refusal_of raw) back k has_taken facts told (refusal_within sp raw)

  -- with an error, and without
  by_error : (raw : Option RawError) → pick (is_some raw) (conclude taken t ordered (result_for sp (refusal_of raw)))
      (given (as_read k) (conclude taken t ordered (result_for sp (refusal_of raw))) λ r. (with_table taken (release T t ordered (Err (not_written QueueFull (ctx_range (region_at s row.handle) r.0 r.1)))), Finished))
      ≡ carried s n row T t k (last raw)
  unfolding is_some pick refusal_of
  by_error none = bare_ends s n row T t _ sp bytes back k has_taken facts
  by_error (some e) = concluded_alike (some e) (told_error k e)

  refused_ends : (raw : Option RawError) → rust raw ≡ carried s n row (table_of s) t k (last raw)
  refused_ends raw =
      refused_is raw ∙ by_error raw
      ∙ carried_put s n row (table_of s) t (row_as s row) live (operation_of row k) (has s i t found k sp awaits) (sym same_tag) k (last raw) (last_ended s.settings g (region_at s row.handle).forced s.poison row sp bytes (refusal_of raw) back n k)

  module _ (raw : Option RawError) where
    not_first : first_refused sp (refusal_of raw) ≡ false
    unfolding first_refused
    not_first = rw (ne_eqb sp.done 0 (λ e. omega arith)) refl

    abbrev fate : Fate
    fate = piece_answered s.settings g (region_at s row.handle).forced s.poison row k sp piece bytes (refusal_of raw) back n

    fate_is : fate ≡ last raw
    unfolding piece_answered pick
    fate_is = rw (refusal_not_above piece raw, not_first, refusal_stops piece sp raw back) refl

    fed_is : fate_of s row (fedAnswer (refusal_of raw) back n) ≡ last raw
    unfolding fate_of rules answer_rules
    fed_is =
        ap (λ (a : Awaits). answer_rules s.settings g (region_at s row.handle).forced s.poison row bytes (refusal_of raw) back n a) awaits ∙ fate_is

    refused_square : Finishes n (rust raw) (settled s t row fate)
    refused_square =
        rw (fate_is, refused_ends raw)
        (carried_settled s i n t found live (there s i t found k sp awaits) same_tag k (last raw) (rw fed_is at (fate_fits s row (fedAnswer (refusal_of raw) back n)))
        (last_ended s.settings g (region_at s row.handle).forced s.poison row sp bytes (refusal_of raw) back n k))

-- by what the row awaits
module _ (s : State) (i : Sound s) (n t : ℕ) (found : names (row_at s (row_of t)) t ≡ true) (raw : Option RawError) (back : Bool) where
  awaited : (a : Awaits) → (row_at s (row_of t)).awaits ≡ a → is_later a ≡ true
      → Finishes n (refused_next (submitter_of s n) t (returned back (buf_of s (row_at s (row_of t)).buffer (piece_in s (row_at s (row_of t)) a))) raw)
      (settled s t (row_at s (row_of t)) (answer_rules s.settings (plan_of (region_at s (row_at s (row_of t)).handle)) (region_at s (row_at s (row_of t)).handle).forced s.poison (row_at s (row_of t)) (bytes_at s (row_at s (row_of t)).buffer) (refusal_of raw) back n a))
  unfolding answer_rules piece_in is_later
  awaited Nothing e later = absurd (not_both later refl)
  awaited (Piece k sp) e later = refused_square s i n t found k sp e (ltb-true 0 sp.done later) back raw
  awaited (AwaitsFlush tk) e later = absurd (not_both later refl)

-- the square
pub refused_next_square : (s : State) (l : Lengths) (t : ℕ) (raw : Option RawError) (back : Bool) (n : ℕ) → Sound s → compared (step s l (Answers t (refusal_of raw) back n)).1 ≡ true
    → is_later (row_at s (row_of t)).awaits ≡ true
    → Finishes n (refused_next (submitter_of s n) t (returned back (in_flight s t)) raw) (step s l (Answers t (refusal_of raw) back n))
unfolding called fate_of rules in_flight
refused_next_square s l t raw back n i h later =
    let e = called_step s l (Answers t (refusal_of raw) back n) h in
    let f = found_under s t (fedAnswer (refusal_of raw) back n) (rw e at h) in
    rw (e, f.settles) (awaited s i n t f.names_row raw back (row_at s (row_of t)).awaits refl later)
