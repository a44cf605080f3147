-- What the host does between calls, as a line of an open table: TRACE.md's `fill`, `sum` and `rows`.
use Rattle.std.specs.Prelude.{◌≡◌, Bool, List, map, ℕ, take, drop}
use Rattle.layout.specs.Pick.{pick}
use Rattle.completion.specs.declared.Reply.TheVariants as Reply
use Rattle.model.specs.declared.{Counts.Counts, Row.Row}
use Rattle.model.specs.Memory.{settings_in, state_in}
use Rattle.optable.specs.Called.{lent_of}
use Rattle.printer.specs.Texts.{bad_text}
use Rattle.printer.specs.Rows.{sum_text, rows_text}
use Rattle.printer.specs.Replay.{replay_text}
use Rattle.hostfill.specs.Writes.{filled, sum_of, in_pool, place_in}
use Rattle.hostfill.specs.MayFill.{may_fill, Open}

-- `fill BUFFER AT LENGTH SEED`, which "is `bad`" where the host may not write
pub record FillsIn (b at n seed number : ℕ) (rows : List Row) (store owners pool pool' text : List ℕ) : Type 0 where
  pub may : Bool
  pub may_is : (c : Counts) (free ready : List ℕ) → Open c (lent_of rows store free ready owners pool)
      → may ≡ may_fill (state_in c (lent_of rows store free ready owners pool)) b at n
  pub pool_is : pool' ≡ pick may (filled (place_in (settings_in store).capacity b at) n seed pool) pool
  pub prints : text ≡ pick may (replay_text Reply.Ok) (bad_text number)

-- `sum BUFFER AT LENGTH`; "so is `sum` outside the pool"
unfoldable pub summed : ℕ → ℕ → ℕ → ℕ → List ℕ → List ℕ → List ℕ
summed b at n number store pool =
    pick (in_pool (settings_in store).buffers (settings_in store).capacity pool b at n)
    (sum_text (sum_of (take n (drop (place_in (settings_in store).capacity b at) pool)))) (bad_text number)

-- `rows`: "generations and free stack", "top of the stack first", of every open table
abbrev pub ListsIn : Counts → List Row → List ℕ → List ℕ → List ℕ → Type 0
ListsIn c rows store free text =
    (ready owners pool : List ℕ) → Open c (lent_of rows store free ready owners pool)
    → text ≡ rows_text (map (λ (r : Row). r.generation) (state_in c (lent_of rows store free ready owners pool)).rows)
    (state_in c (lent_of rows store free ready owners pool)).free
