-- `Table::abort` is what `step` does where a first piece is refused: the row is free at its generation, and no completion and no poison comes of it; the buffer,
-- if it came back, has its whole length.
use mathlib.Core.Path.{◌≡◌, refl, ap, sym, ◌∙◌}
use mathlib.Core.Bool.{Bool, true, false}
use mathlib.Core.List.{List, [], ◌∷◌, map, append-nil}
use mathlib.Core.Option
use mathlib.Core.Option.{Option, none, some}
use Prim.Native.Nat.{ℕ, ◌-◌}
use native.Mathlib.Decide.{ℕ_discrete}
use native.Mathlib.Omega.{arith}
use borrow.Author.Tests.{ltb-false, eq-eqb, ne_eqb}
use lib.ListN.{length, get_elem?, set}
use Rattle.layout.specs.Pick.{pick}
use Rattle.layout.proofs.Tests.{not_both}
use Rattle.completion.specs.Buffers.{Buffer}
use Rattle.completion.specs.declared.Reply.TheVariants.{Rejected}
use Rattle.completion.specs.Numbers.{number}
use Rattle.model.specs.declared.Lengths.{Lengths}
use Rattle.model.specs.declared.Kind.{Kind}
use Rattle.model.specs.declared.Split.{Split}
use Rattle.model.specs.declared.Awaits.{Awaits}
use Rattle.model.specs.declared.Awaits.TheVariants.{Nothing, Piece, Flush as AwaitsFlush}
use Rattle.model.specs.declared.Row.{Row}
use Rattle.model.specs.declared.Call.TheVariants.{Answer as Answers}
use Rattle.model.specs.State.{Owner.host, State}
use Rattle.model.specs.Opening.{Plan}
use Rattle.step.specs.Questions.{region_at}
use Rattle.step.specs.Rules.{op_of, error_of, Fate.rejected as rejects, range_of, piece_length, Input.answered as fedAnswer, Fate, buffer_as, is_refusal, first_refused, piece_answered, answer_rules, rules}
use Rattle.step.specs.Step.{kept_by, freeing, rejection, poison_with, row_at, row_of, names, bytes_at, plan_of, settled, fate_of, called, step}
use Rattle.step.specs.Sound.{Sound}
use Rattle.step.proofs.Named.{named_live, named_below}
use Rattle.rusttable.specs.Table.{RawError, Live, Table}
use Rattle.rusttable.specs.Table.{Row as RustRow}
use Rattle.rusttable.specs.Functions.{given, returned, row_with, index_in, whole, abort}
use Rattle.rusttable.specs.Domain.{compared}
use Rattle.rusttable.specs.AsStep.{back_of, completion_as, is_later, refusal_of, buf_of, split_of, row_as, table_of, store_of}
use Rattle.rusttable.proofs.Frames.{own_freeing, table_freeing}
use Rattle.rusttable.proofs.Turning.{set_fits}
use Rattle.rusttable.proofs.Pieces.{Placed, long, placed, its_live, has}
use Rattle.rusttable.proofs.RefusedNext.{refusal_not_above}
use Rattle.rusttable.proofs.Within.{called_step, found_under}

is_refusal_lem : (raw : Option RawError) → is_refusal (refusal_of raw) ≡ true
unfolding is_refusal refusal_of
is_refusal_lem none = refl
is_refusal_lem (some e) = refl

-- a row in use is free again, at its generation
abort_at : (T : Table) (index : ℕ) (r : RustRow) (live : Live) → get_elem? T.rows index ≡ some r → r.live ≡ some live
    → abort T index ≡ record { rows = set T.rows index (row_with r none); free = index ∷ T.free; ready = T.ready; live = T.live - 1; next_seq = T.next_seq }
unfolding abort given
abort_at T index r live at e = rw (at, e) refl

module _ (s : State) (i : Sound s) (n t : ℕ) (found : names (row_at s (row_of t)) t ≡ true) (k : Kind) (sp : Split) (awaits : (row_at s (row_of t)).awaits ≡ Piece k sp) (first : sp.done ≡ 0) (raw : Option RawError) (back : Bool) where
  abbrev row : Row
  row = row_at s (row_of t)

  abbrev g : Plan
  g = plan_of (region_at s row.handle)

  abbrev bytes : List ℕ
  bytes = bytes_at s row.buffer

  abbrev piece : ℕ
  piece = piece_length g k sp

  abbrev buffer : Buffer
  buffer = buffer_as back row.buffer sp.total

  abbrev after : State
  after = freeing s (row_of t) row row.generation [] (kept_by host buffer) bytes none

  abbrev live : Live
  live = its_live s i t found k sp awaits

  facts : Placed g k sp (length bytes)
  facts = placed s i t found k sp awaits

  pub aborted : abort (table_of s) (index_in t) ≡ table_of after
  unfolding table_of row_as row_of index_in row_with
  aborted =
      let h = has s i t found k sp awaits in
      abort_at (table_of s) (index_in t) (row_as s row) live h.at h.operation ∙ rw (append-nil (map (completion_as s) s.ready)) refl
      ∙ sym (table_freeing s i (row_of t) (named_below s i t found) (named_live s i t found) bytes (long s i t found k sp awaits) row.generation [] (kept_by host buffer) none)

  pub store_kept : store_of after n ≡ store_of s n
  unfolding store_of freeing poison_with
  store_kept = refl

  -- the buffer at its whole length
  whole_is : Dec (piece ≡ sp.total) → whole (split_of g k sp) (record { number = row.buffer; len = piece; bytes = bytes }) ≡ record { number = row.buffer; len = sp.total; bytes = bytes }
  unfolding whole split_of pick given
  whole_is (yes one) = rw (eq-eqb piece sp.total one, one) refl
  whole_is (no ne) = rw (ne_eqb piece sp.total ne) (set_fits (record { number = row.buffer; len = piece; bytes = bytes }) sp.total facts.room)

  pub whole_back : (b : Bool) → Option.map (whole (split_of g k sp)) (returned b (buf_of s row.buffer piece)) ≡ back_of after (buffer_as b row.buffer sp.total)
  unfolding returned buffer_as back_of buf_of
  whole_back true =
      ap some (whole_is (ℕ_discrete piece sp.total) ∙ rw (own_freeing s i (row_of t) (named_below s i t found) (named_live s i t found) bytes (long s i t found k sp awaits) row.generation [] (kept_by host buffer) none) refl)
  whole_back false = refl

  first_refused_lem : first_refused sp (refusal_of raw) ≡ true
  unfolding first_refused
  first_refused_lem = rw (eq-eqb sp.done 0 first) (is_refusal_lem raw)

  pub fate_is : piece_answered s.settings g (region_at s row.handle).forced s.poison row k sp piece bytes (refusal_of raw) back n ≡ rejects (error_of (refusal_of raw)) buffer bytes
  unfolding piece_answered pick
  fate_is = rw (refusal_not_above piece raw, first_refused_lem) refl

  pub rejected_is : fate_of s row (fedAnswer (refusal_of raw) back n) ≡ rejects (error_of (refusal_of raw)) buffer bytes
  unfolding fate_of rules answer_rules
  rejected_is = ap (λ (a : Awaits). answer_rules s.settings g (region_at s row.handle).forced s.poison row bytes (refusal_of raw) back n a) awaits ∙ fate_is

  pub rejects_with : settled s t row (fate_of s row (fedAnswer (refusal_of raw) back n)) ≡ (after, Rejected (range_of g k) (op_of k) (error_of (refusal_of raw)) buffer)
  unfolding settled rejection
  rejects_with = rw rejected_is (ap (λ (a : Awaits). (after, rejection g a (error_of (refusal_of raw)) buffer)) awaits)

-- ---- the square, by what the row awaits

module _ (s : State) (i : Sound s) (n t : ℕ) (found : names (row_at s (row_of t)) t ≡ true) (raw : Option RawError) (back : Bool) where
  abbrev fate : Awaits → Fate
  fate a =
      answer_rules s.settings (plan_of (region_at s (row_at s (row_of t)).handle)) (region_at s (row_at s (row_of t)).handle).forced s.poison (row_at s (row_of t)) (bytes_at s (row_at s (row_of t)).buffer) (refusal_of raw) back n a

  awaited : (a : Awaits) → (row_at s (row_of t)).awaits ≡ a → compared (settled s t (row_at s (row_of t)) (fate a)).1 ≡ true → is_later a ≡ false
      → (abort (table_of s) (index_in t) ≡ table_of (settled s t (row_at s (row_of t)) (fate a)).0) × (store_of (settled s t (row_at s (row_of t)) (fate a)).0 n ≡ store_of s n)
  unfolding answer_rules settled compared number is_later
  awaited Nothing e h later = absurd (not_both h refl)
  awaited (Piece k sp) e h later =
      let first : sp.done ≡ 0 = (let le = ltb-false 0 sp.done later in omega arith) in
      rw (fate_is s i n t found k sp e first raw back) (aborted s i n t found k sp e first raw back, store_kept s i n t found k sp e first raw back)
  awaited (AwaitsFlush tk) e h later = absurd (not_both h refl)

pub abort_square : (s : State) (l : Lengths) (t : ℕ) (raw : Option RawError) (back : Bool) (n : ℕ) → Sound s → compared (step s l (Answers t (refusal_of raw) back n)).1 ≡ true
    → is_later (row_at s (row_of t)).awaits ≡ false
    → (abort (table_of s) (index_in t) ≡ table_of (step s l (Answers t (refusal_of raw) back n)).0) × (store_of (step s l (Answers t (refusal_of raw) back n)).0 n ≡ store_of s n)
unfolding called fate_of rules
abort_square s l t raw back n i h later =
    let e = called_step s l (Answers t (refusal_of raw) back n) h in
    let f = found_under s t (fedAnswer (refusal_of raw) back n) (rw e at h) in
    rw (e, f.settles) (awaited s i n t f.names_row raw back (row_at s (row_of t)).awaits refl (rw (e, f.settles) at h) later)
