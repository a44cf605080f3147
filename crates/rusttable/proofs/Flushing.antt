-- `Table::flushed` is `step`'s flush result: the row awaits its flush, so it holds its buffer and its ticket, and is released with the receipt or the failure.
use mathlib.Core.Path.{◌≡◌, refl, ap, ◌∙◌}
use mathlib.Core.Bool.{true}
use mathlib.Core.Option.{none, some}
use Prim.Native.Nat.{ℕ, ◌-◌}
use Rattle.layout.proofs.Tests.{not_both}
use Rattle.platform.specs.declared.Flushed.{Flushed as FlushResult}
use Rattle.platform.specs.declared.Flushed.TheVariants.{Need, Unknown as unsure, Poisoned as failedBy}
use Rattle.completion.specs.declared.WriteTicket.{WriteTicket}
use Rattle.std.specs.declared.option.Option.TheVariants.{Some as Back}
use Rattle.completion.specs.declared.Reply.TheVariants.{Done as isDone}
use Rattle.completion.specs.Numbers.{number}
use Rattle.model.specs.declared.Lengths.{Lengths}
use Rattle.model.specs.declared.Kind.TheVariants.{Page}
use Rattle.model.specs.declared.Awaits.{Awaits}
use Rattle.model.specs.declared.Awaits.TheVariants.{Nothing, Piece, Flush}
use Rattle.model.specs.declared.Row.{Row}
use Rattle.model.specs.declared.Call.TheVariants.{Flushed as FlushedCall}
use Rattle.model.specs.State.{State}
use Rattle.step.specs.Rules.{Input.flushed as fedFlush, Fate, flush_outcome, flush_ends, flush_rules, rules}
use Rattle.step.specs.Step.{row_at, row_of, names, bytes_at, settled, fate_of, freeing, poison_with, called, step}
use Rattle.step.specs.Sound.{Sound}
use Rattle.step.proofs.Named.{named_live, named_below}
use Rattle.step.proofs.Buffers.{bytes_length}
use Rattle.step.proofs.Fates.{Own}
use Rattle.rusttable.specs.Table.{Flushed, Live, Held, Submitter}
use Rattle.rusttable.specs.Table.{Row as RustRow}
use Rattle.rusttable.specs.Functions.{given, with_held, release, with_table, in_range, durable_receipt, flush_done, flushed}
use Rattle.rusttable.specs.Domain.{compared}
use Rattle.rusttable.specs.AsStep.{buf_of, context_of, outcome_of, live_of, row_as, store_of, submitter_of, flushed_of}
use Rattle.rusttable.proofs.Rows.{Has, live_is, put_released, has_live}
use Rattle.rusttable.proofs.Handed.{buf_as, ends_released}
use Rattle.rusttable.proofs.Within.{called_step, found_under}

-- the outcome
same_outcome : (s : State) (n : ℕ) (h : Held) (result : FlushResult) → flush_done (store_of s n) h (flushed_of result) ≡ outcome_of (flush_outcome s.settings h.ticket result)
unfolding flush_done flushed_of flush_outcome outcome_of durable_receipt in_range context_of store_of
same_outcome s n h (Need need) = refl
same_outcome s n h (unsure cause) = refl
same_outcome s n h (failedBy cause) = refl

-- a row that holds its write
flushed_at : (x : Submitter) (t : ℕ) (r : RustRow) (live : Live) → Has x.table t r live → (h : Held) → live.held ≡ some h → (outcome : Flushed)
    → flushed x t outcome ≡ with_table x (release x.table t h.buf (flush_done x.store h outcome))
unfolding flushed given with_held
flushed_at x t r live has h e outcome =
    rw (live_is x.table t r live has, e) (ap (with_table x) (put_released x.table t r live (with_held live none) has h.buf (flush_done x.store h outcome) refl))

module _ (s : State) (i : Sound s) (t : ℕ) (found : names (row_at s (row_of t)) t ≡ true) (result : FlushResult) (n : ℕ) where
  abbrev row : Row
  row = row_at s (row_of t)

  abbrev fate : Awaits → Fate
  fate a = flush_rules s.settings row (bytes_at s row.buffer) result a

  module _ (tk : WriteTicket) (e : row.awaits ≡ Flush tk) where
    abbrev held : Held
    held = record { buf = some (buf_of s row.buffer (tk.end.0 - tk.start.0)); ticket = tk }

    abbrev operation : Live
    operation = record { tag = row.tag; seq = row.seq; kind = Page tk.start tk.end; handle = row.handle; durable = row.durable; held = some held; split = none }

    there : live_of s row row.awaits ≡ some operation
    unfolding live_of
    there = rw e refl

    square : flushed (submitter_of s n) t (flushed_of result) ≡ submitter_of (settled s t row (fate (Flush tk))).0 n
    unfolding flush_rules flush_ends settled submitter_of store_of with_table buf_of buf_as freeing poison_with Own
    square =
        let below = named_below s i t found in
        let live = named_live s i t found in
        flushed_at (submitter_of s n) t (row_as s row) operation (has_live s i t found operation there) held refl (flushed_of result)
        ∙ rw (same_outcome s n held result)
        (ap (with_table (submitter_of s n))
        (ends_released s i t found operation there (bytes_at s row.buffer) (bytes_length s i row.buffer (i.in_table (row_of t) below live).buffer) refl (flush_outcome s.settings tk result) (Back (record { buffer = row.buffer; len = (tk.end.0 - tk.start.0) })) refl none))

  awaited : (a : Awaits) → row.awaits ≡ a → compared (settled s t row (fate a)).1 ≡ true
      → (flushed (submitter_of s n) t (flushed_of result) ≡ submitter_of (settled s t row (fate a)).0 n) × ((settled s t row (fate a)).1 ≡ isDone t)
  unfolding flush_rules flush_ends settled compared number
  awaited Nothing e h = absurd (not_both h refl)
  awaited (Piece k sp) e h = absurd (not_both h refl)
  awaited (Flush tk) e h = (square tk e, refl)

-- the square
pub flushed_square : (s : State) (l : Lengths) (t : ℕ) (result : FlushResult) (n : ℕ) → Sound s → compared (step s l (FlushedCall t result)).1 ≡ true
    → (flushed (submitter_of s n) t (flushed_of result) ≡ submitter_of (step s l (FlushedCall t result)).0 n) × ((step s l (FlushedCall t result)).1 ≡ isDone t)
unfolding called fate_of rules
flushed_square s l t result n i h =
    let e = called_step s l (FlushedCall t result) h in
    let f = found_under s t (fedFlush result) (rw e at h) in
    rw (e, f.settles) (awaited s i t f.names_row result n (row_at s (row_of t)).awaits refl (rw (e, f.settles) at h))
