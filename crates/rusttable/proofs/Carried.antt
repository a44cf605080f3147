-- What the rules say of an operation's end, carried into the Rust's table, is `step`'s next state, and the reply is what the Rust hands back.
use mathlib.Core.Path.{◌≡◌, refl, ap, ◌∙◌}
use mathlib.Core.Bool.{Bool, true, ◌||◌}
use mathlib.Core.List.{List}
use mathlib.Core.Option.{some}
use Prim.Native.Nat.{ℕ, ◌-◌}
use lib.ListN.{length}
use Rattle.std.specs.declared.option.Option.{Option}
use Rattle.domain.specs.declared.FirstCause.{FirstCause}
use Rattle.platform.specs.declared.Answer.{Answer}
use Rattle.model.specs.declared.Opening.{Opening}
use Rattle.model.specs.declared.Kind.{Kind}
use Rattle.model.specs.declared.Kind.TheVariants.{Page, Read as Reads}
use Rattle.model.specs.declared.Split.{Split}
use Rattle.model.specs.declared.Awaits.{Awaits}
use Rattle.model.specs.declared.Awaits.TheVariants.{Nothing, Piece, Flush as AwaitsFlush}
use Rattle.model.specs.declared.Row.{Row}
use Rattle.model.specs.State.{State}
use Rattle.model.specs.Opening.{Plan}
use Rattle.step.specs.Rules.{first_of, last_of, Fate, Fate.away, Fate.awaits, Fate.ends, Fate.rejected, ticket_of, is_written, written_as, last_piece}
use Rattle.step.specs.Step.{row_at, row_of, names, bytes_at, awaits_now, poison_with, going, freeing, asks_for, settled}
use Rattle.step.specs.Sound.{Sound}
use Rattle.step.proofs.Picked.{by_pick}
use Rattle.step.proofs.Named.{named_live, named_below}
use Rattle.step.proofs.Buffers.{bytes_length}
use Rattle.step.proofs.Fates.{Fitting, FateFits}
use Rattle.rusttable.specs.Table.{Live, Table}
use Rattle.rusttable.specs.Table.{Row as RustRow}
use Rattle.rusttable.specs.Functions.{put, with_held, with_table}
use Rattle.rusttable.specs.AsStep.{buf_of, live_of, table_of, store_of, submitter_of, finish_as, Finishes}
use Rattle.rusttable.proofs.Rows.{Has, put_twice, put_released}
use Rattle.rusttable.proofs.Handed.{buf_as, ends_released, own_onward, onward_put}
use Rattle.rusttable.proofs.Concluding.{carried_flush, carried, operation_of}

-- an operation's end: it is complete, or it is a write that awaits its flush
unfoldable pub Awaited : Kind → Awaits → Type 0
Awaited k Nothing = ⊥
Awaited k (Piece k' sp) = ⊥
Awaited k (AwaitsFlush tk) = Page tk.start tk.end ≡ k

unfoldable pub Ended : Kind → Fate → Type 0
Ended k (away f) = ⊥
Ended k (awaits a bytes) = Awaited k a
Ended k (ends ending) = Unit {0}
Ended k (rejected e b bytes) = ⊥

module _ (o : Opening) (g : Plan) (forced : Bool) (first : Option FirstCause) (r : Row) (sp : Split) (bytes : List ℕ) (answer : Answer) (back : Bool) (n : ℕ) where
  pub last_ended : (k : Kind) → Ended k (last_piece o g forced first r k sp bytes answer back n)
  unfolding last_piece written_as Ended Awaited ticket_of first_of last_of
  last_ended (Reads a b) = tt
  last_ended (Page a b) =
      by_pick (is_written sp answer back) (Ended (Page a b))
      (λ w. by_pick r.durable (Ended (Page a b)) (λ d. by_pick (o.flush || forced) (Ended (Page a b)) (λ f. refl) (λ f. tt)) (λ d. tt))
      (λ w. tt)

-- what was put into the row before does not count
module _ (s : State) (n : ℕ) (row : Row) (T : Table) (t : ℕ) (r : RustRow) (live now : Live) (has : Has T t r live) (tag : now.tag ≡ live.tag) where
  pub carried_put : (k : Kind) (f : Fate) → Ended k f → carried s n row (put T t now) t k f ≡ carried s n row T t k f
  unfolding carried carried_flush Ended Awaited with_table
  carried_put k (away f) e = absurd e
  carried_put k (awaits Nothing bytes) e = absurd e
  carried_put k (awaits (Piece k' sp) bytes) e = absurd e
  carried_put k (awaits (AwaitsFlush tk) bytes) e = rw (put_twice T t r live now has (with_held (operation_of row k) (some (record { buf = some (record { number = row.buffer; len = tk.end.0 - tk.start.0; bytes = bytes }); ticket = tk })))) refl
  carried_put k (ends ending) e = rw (put_released T t r live now has (buf_as ending.buffer ending.bytes) _ tag) refl
  carried_put k (rejected e' b bytes) e = absurd e

module _ (s : State) (i : Sound s) (n t : ℕ) (found : names (row_at s (row_of t)) t ≡ true) where
  abbrev row : Row
  row = row_at s (row_of t)

  same_length : (bytes : List ℕ) → length bytes ≡ length (bytes_at s row.buffer) → length bytes ≡ s.settings.capacity
  same_length bytes e = e ∙ bytes_length s i row.buffer (i.in_table (row_of t) (named_below s i t found) (named_live s i t found)).buffer

  module _ (live : Live) (there : live_of s row row.awaits ≡ some live) (tag : live.tag ≡ row.tag) where
    pub carried_settled : (k : Kind) (f : Fate) → FateFits s row f → Ended k f → Finishes n (carried s n row (table_of s) t k f) (settled s t row f)
    unfolding carried carried_flush settled Ended Awaited Fitting finish_as submitter_of store_of freeing going asks_for with_table with_held live_of buf_of awaits_now
    carried_settled k (away f) fits e = absurd e
    carried_settled k (awaits Nothing bytes) fits e = absurd e
    carried_settled k (awaits (Piece k' sp) bytes) fits e = absurd e
    carried_settled k (awaits (AwaitsFlush tk) bytes) fits e = record {
      state = ap (with_table (submitter_of s n)) (onward_put s i t found live there bytes (same_length bytes fits.1) (AwaitsFlush tk) _ (rw (own_onward s i t found live there bytes (same_length bytes fits.1) (AwaitsFlush tk) (operation_of row k), e) refl));
      reply = refl;
    }
    carried_settled k (ends ending) fits e = record {
      state = λ j. record { store = record { settings = s.settings; regions = s.regions; poison = poison_with s.poison ending.cause; issued = n }; table = ends_released s i t found live there ending.bytes (same_length ending.bytes fits.1) tag ending.outcome ending.buffer fits.0 ending.cause j };
      reply = refl;
    }
    carried_settled k (rejected e' b bytes) fits e = absurd e
