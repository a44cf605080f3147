-- The store's words after a mark is set or the store is poisoned, and what the calls that do so are promised to leave.
use Rattle.std.specs.Prelude.{◌≡◌, false, List, ℕ, ◌+◌, ◌*◌, ◌≤◌, ◌<◌, length, get_or, set, drop, leb, ltb}
use Rattle.layout.specs.Pick.{pick}
use Rattle.domain.specs.declared.FirstCause.{FirstCause}
use Rattle.domain.specs.Domain.{first_kept}
use Rattle.completion.specs.declared.Context.TheVariants as Context
use Rattle.completion.specs.declared.Refusal.TheVariants as Refusal
use Rattle.completion.specs.declared.Reply.TheVariants as Reply
use Rattle.model.specs.declared.{Gate.Gate, Counts.Counts, Row.Row, Call.Call}
use Rattle.model.specs.Memory.{Lent, flag, op_word, has_word, raw_word, ErrorFits, poison_in, state_in, settings_in}
use Rattle.model.specs.Memory.{POISON, CAUSE_OP, CAUSE_HAS, CAUSE_RAW, GATE}
use Rattle.model.specs.Opening.{HEAD}
use Rattle.step.specs.Step.{with_poison}
use Rattle.optable.specs.declared.touched.Touched.{Touched}
use Rattle.optable.specs.Called.{away_with, ArmTo}
use Rattle.optable.specs.declared.Frees.TheVariants as Frees

unfoldable pub gate_word : Gate → ℕ
gate_word Gate.Open = 0
gate_word Gate.Recycled = 1
gate_word Gate.Released = 2

-- a region's mark: 0 its gate, 1 read-only, 2 forced
unfoldable pub marked_in : ℕ → ℕ → ℕ → List ℕ → List ℕ
marked_in h mark word store = pick (ltb h 8) (pick (ltb mark 3) (set store (GATE + 3 * h + mark) word) store) store

-- the store poisoned with a cause, the first kept
unfoldable pub poisoned_in : FirstCause → List ℕ → List ℕ
poisoned_in c store =
    pick (leb HEAD (length store))
    (pick (flag (get_or store POISON 0)) store
    (set (set (set (set store POISON 1) CAUSE_OP (op_word c.op)) CAUSE_HAS (has_word c.raw)) CAUSE_RAW (raw_word c.raw))) store

-- a mark set: "unknown handle: 1"
pub record SetsMark (row : Row) (h mark word : ℕ) (store : List ℕ) (r : Touched) (store' : List ℕ) : Type 0 where
  pub unknown : HEAD ≤ length store → (settings_in store).regions ≤ h → (r ≡ away_with row (Refusal.ForeignPosition Context.None)) × (store' ≡ store)
  pub known : HEAD ≤ length store → h < (settings_in store).regions
      → (r ≡ record { row = row; accepts = false; frees = Frees.Nothing; reply = Reply.Ok }) × (store' ≡ marked_in h mark word store)
  pub short : length store < HEAD → store' ≡ store

-- one of these calls, of any table whose store these words are: only the store changes
abbrev pub MarksTo : Call → Row → List ℕ → Touched → List ℕ → Type 0
MarksTo call row store r store' =
    (c : Counts) (n : ℕ) (free ready owners pool : List ℕ) → ArmTo call row c n store free ready owners pool r store' free ready owners pool

-- what is lent, with other words of the store
abbrev pub with_store : Lent → List ℕ → Lent
with_store l store = record { rows = l.rows; store = store; free = l.free; ready = l.ready; owners = l.owners; pool = l.pool }

-- poison in the words is poison of the state, and nothing else changes
pub record PoisonLaws : Type 0 where
  pub poisoned : (c : Counts) (l : Lent) (cause : FirstCause) → HEAD ≤ length l.store → ErrorFits cause.raw
      → state_in c (with_store l (poisoned_in cause l.store)) ≡ with_poison (state_in c l) (first_kept (poison_in l.store) cause)
  pub beyond : (cause : FirstCause) (store : List ℕ)
      → (length (poisoned_in cause store) ≡ length store) × (drop HEAD (poisoned_in cause store) ≡ drop HEAD store)
