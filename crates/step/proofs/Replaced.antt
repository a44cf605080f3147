-- One row of a table is replaced, and with it the counts, the free stack, the completions and the owners change: the table stays sound where the change fits.
-- A row that is taken, goes on or is freed is such a change.
use mathlib.Core.Path.{◌≡◌, refl, sym, ◌∙◌}
use mathlib.Core.Logic.{◌≢◌}
use mathlib.Core.List.{List}
use Prim.Native.Nat.{ℕ, ◌+◌, ◌≤◌, ◌<◌, ◌^◌}
use native.Mathlib.Omega.{arith}
use lib.ListN.{length, get_or, set, length-set}
use Rattle.completion.specs.declared.Completion.{Completion}
use Rattle.model.specs.declared.Counts.{Counts}
use Rattle.model.specs.declared.Row.{Row}
use Rattle.model.specs.State.{Owner, Owner.lost, State, freed, awaiting, live_rows}
use Rattle.step.specs.Questions.{region_at}
use Rattle.step.specs.Step.{row_at}
use Rattle.step.specs.Sound.{row_holds, rows_hold, ready_hold, table_has, InTable, Sound}
use Rattle.step.specs.Lists.{times}
use Rattle.step.proofs.Places.{by_place}
use Rattle.step.proofs.Counts.{live_set, hold_set}
use Rattle.step.proofs.Marked.{in_another}

-- the row, and what changes with it
pub record Change : Type 0 where
  pub row : Row
  pub counts : Counts
  pub free : List ℕ
  pub ready : List Completion
  pub owners : List Owner

abbrev pub changed : State → ℕ → Change → State
changed s r c =
    record { settings = s.settings; lengths = s.lengths; regions = s.regions; poison = s.poison; counts = c.counts; rows = set s.rows r c.row; free = c.free; ready = c.ready; owners = c.owners; pool = s.pool }

-- whether the row in a place was live, and whether the new one is
abbrev was : State → ℕ → ℕ
was s r = awaiting (row_at s r).awaits

abbrev is : Change → ℕ
is c = awaiting c.row.awaits

-- what has to be so of a change of the row in place r
pub record Fits (s : State) (r : ℕ) (c : Change) : Type 0 where
  pub below : r < s.settings.depth
  pub live : c.counts.live + was s r ≡ s.counts.live + is c
  pub ready : c.counts.ready ≡ length c.ready
  pub most : c.counts.live + c.counts.ready ≤ s.settings.depth
  pub later : s.counts.submissions ≤ c.counts.submissions
  pub submissions : c.counts.submissions ≤ s.settings.lifetime
  -- the stack, at this row and at every other
  pub stack : length c.free + is c ≡ length s.free + was s r
  pub here : times r c.free + is c ≡ times r s.free + was s r
  pub other : (j : ℕ) → j ≢ r → times j c.free ≡ times j s.free
  -- each buffer's holders and owner
  pub owners : length c.owners ≡ length s.owners
  pub holders : (b : ℕ) → row_holds b c.row + ready_hold b c.ready + table_has (get_or s.owners b lost)
      ≡ row_holds b (row_at s r) + ready_hold b s.ready + table_has (get_or c.owners b lost)
  -- the new row
  pub generation : c.row.generation < 2 ^ 32
  pub in_table : is c ≡ 1 → InTable (changed s r c) c.row
  pub seq : is c ≡ 1 → (j : ℕ) → j ≢ r → j < s.settings.depth → awaiting (row_at s j).awaits ≡ 1 → c.row.seq ≢ (row_at s j).seq

module _ (s : State) (i : Sound s) (r : ℕ) (below : r < s.settings.depth) where
  in_rows : r < length s.rows
  in_rows = rw i.rows below

  pub live_replaced : (new : Row) → live_rows (set s.rows r new) + was s r ≡ live_rows s.rows + awaiting new.awaits
  unfolding row_at
  live_replaced new = live_set s.rows r new (freed 0) in_rows

  pub hold_replaced : (b : ℕ) (new : Row) → rows_hold b (set s.rows r new) + row_holds b (row_at s r) ≡ rows_hold b s.rows + row_holds b new
  unfolding row_at
  hold_replaced b new = hold_set b s.rows r new (freed 0) in_rows

module _ (s : State) (i : Sound s) (r : ℕ) (c : Change) (f : Fits s r c) where
  abbrev after : State
  after = changed s r c

  each_row : (P : ℕ → Row → Type 0) → P r c.row → ((j : ℕ) → j ≢ r → P j (row_at s j)) → (j : ℕ) → P j (row_at after j)
  unfolding row_at
  each_row = by_place s.rows r c.row (freed 0) (in_rows s i r f.below)

  live_after : c.counts.live ≡ live_rows after.rows
  live_after = omega (arith, f.live, i.live, live_replaced s i r f.below c.row)

  -- what the sequence numbers of two rows say of their places
  abbrev Told : ℕ → Row → ℕ → Row → Type 0
  Told j x m y = j < s.settings.depth → m < s.settings.depth → awaiting x.awaits ≡ 1 → awaiting y.awaits ≡ 1 → x.seq ≡ y.seq → j ≡ m

  seqs_after : (j m : ℕ) → Told j (row_at after j) m (row_at after m)
  seqs_after =
      each_row (λ j x. (m : ℕ) → Told j x m (row_at after m))
      (each_row (Told r c.row) (λ lj lm a b e. refl) (λ m n lj lm a b e. absurd (f.seq a m n lm b e)))
      (λ j n. each_row (Told j (row_at s j)) (λ lj lm a b e. absurd (f.seq b j n lj a (sym e))) (λ m n. i.seqs j m))

  pub keeps_changed : Sound after
  unfolding region_at row_at
  keeps_changed = record {
    numbers = i.numbers;
    room = i.room;
    pool = i.pool;
    pool_is = i.pool_is;
    regions = i.regions;
    each = i.each;
    apart = i.apart;
    rows = length-set s.rows r c.row ∙ i.rows;
    live = live_after;
    ready = f.ready;
    submissions = f.submissions;
    balance = omega (arith, f.stack, live_replaced s i r f.below c.row, i.balance);
    free_once = each_row (λ j x. j < s.settings.depth → times j c.free + awaiting x.awaits ≡ 1) (λ lt. f.here ∙ i.free_once r lt) (λ j n lt. omega (arith, f.other j n, i.free_once j lt));
    free_rows = λ j le. f.other j (λ e. omega (arith, f.below)) ∙ i.free_rows j le;
    most = f.most;
    generations = each_row (λ j x. j < s.settings.depth → x.generation < 2 ^ 32) (λ lt. f.generation) (λ j n. i.generations j);
    owners = f.owners ∙ i.owners;
    holders = λ b. omega (arith, f.holders b, hold_replaced s i r f.below b c.row, i.holders b);
    in_table = each_row (λ j x. j < s.settings.depth → awaiting x.awaits ≡ 1 → InTable after x) (λ lt. f.in_table) (λ j n lt a. in_another s after (row_at s j) refl (λ h. refl) f.later (i.in_table j lt a));
    seqs = seqs_after;
  }
