-- Where the host may write: "Between calls the host changes only buffers it holds and, for a read, the bytes of the piece under way" (document 01);
-- "`fill` outside the pool, in a buffer that the host may not change, or outside a read's piece under way, is `bad`" (TRACE.md).
use Rattle.std.specs.Prelude.{◌≡◌, Bool, true, false, ◌&&◌, ◌||◌, List, [], ◌∷◌, ℕ, ◌+◌, ◌<◌, get_or, leb, eqb}
use Rattle.model.specs.declared.{Counts.Counts, Kind.Kind, Split.Split, Awaits.Awaits, Row.Row}
use Rattle.model.specs.State.{State, freed}
use Rattle.model.specs.Memory.{Lent, lengths_of, same_lengths, settings_in, state_in}
use Rattle.step.specs.Questions.{held_at}
use Rattle.step.specs.Sound.{Sound}
use Rattle.step.specs.Lists.{loose, plan_at}
use Rattle.optable.specs.Called.{lent_of}
use Rattle.arrival.specs.UnderWay.{PieceUnderWay}
use Rattle.hostfill.specs.Writes.{in_pool}

-- a read's piece is under way
unfoldable pub reads : Awaits → Bool
reads Awaits.Nothing = false
reads (Awaits.Piece (Kind.Page a b) s) = false
reads (Awaits.Piece (Kind.Read a b) s) = true
reads (Awaits.Flush t) = false

-- a read's piece is under way in buffer b, and its bytes are at least the first `end` of the buffer
unfoldable pub loose_row : State → ℕ → ℕ → Row → Bool
loose_row s b end r = eqb r.buffer b && (reads r.awaits && leb end (loose (plan_at s r) r.awaits))

unfoldable pub any_loose : State → ℕ → ℕ → List Row → Bool
any_loose s b end [] = false
any_loose s b end (r ∷ rs) = loose_row s b end r || any_loose s b end rs

-- the stretch lies in the pool, and the host holds the buffer or a read's piece under way covers the stretch
unfoldable pub may_fill : State → ℕ → ℕ → ℕ → Bool
may_fill s b at n = in_pool s.settings.buffers s.settings.capacity s.pool b at n && (held_at s b || any_loose s b (at + n) s.rows)

-- ---- for the code

-- a table that calls have left, in what is lent with the opening's lengths
pub record Open (c : Counts) (l : Lent) : Type 0 where
  pub lengths : same_lengths (lengths_of l) l.store ≡ true
  pub sound : Sound (state_in c l)

-- what is told of the rows, whatever stands in the other parts
abbrev pub TellsLoose : List Row → List ℕ → ℕ → ℕ → Bool → Type 0
TellsLoose rows store b end r =
    (c : Counts) (free ready owners pool : List ℕ) → Open c (lent_of rows store free ready owners pool)
    → r ≡ any_loose (state_in c (lent_of rows store free ready owners pool)) b end (state_in c (lent_of rows store free ready owners pool)).rows

-- whether a read's piece under way, found in the region's words, has at least `end` bytes
pub record CoversRead (store : List ℕ) (h : ℕ) (k : Kind) (s : Split) (end : ℕ) (r : Bool) : Type 0 where
  pub piece : ℕ
  pub under_way : PieceUnderWay store h k s piece
  pub covers : r ≡ leb end piece

unfoldable pub Covers : List ℕ → ℕ → Kind → Split → ℕ → Bool → Type 0
Covers store h (Kind.Page a b) s end r = r ≡ false
Covers store h (Kind.Read a b) s end r = CoversRead store h (Kind.Read a b) s end r

-- .. and of one of them
abbrev pub TellsRow : Row → List ℕ → ℕ → ℕ → Bool → Type 0
TellsRow row store b end r =
    (c : Counts) (rows : List Row) (free ready owners pool : List ℕ) → Open c (lent_of rows store free ready owners pool)
    → (i : ℕ) → i < (settings_in store).depth → row ≡ get_or rows i (freed 0)
    → r ≡ loose_row (state_in c (lent_of rows store free ready owners pool)) b end row

-- what is told of a stretch: only stretches of the pool may be written, and of every open table just those that the host may write
pub record TellsFill (rows : List Row) (store owners pool : List ℕ) (b at n : ℕ) (r : Bool) : Type 0 where
  pub inside : r ≡ true → in_pool (settings_in store).buffers (settings_in store).capacity pool b at n ≡ true
  pub as_may : (c : Counts) (free ready : List ℕ) → Open c (lent_of rows store free ready owners pool)
      → r ≡ may_fill (state_in c (lent_of rows store free ready owners pool)) b at n
