-- The table's whole state as one value, as document 01 names its parts.
use Rattle.std.specs.Prelude.{Bool, false, not, ◌||◌, List, [], ◌∷◌, ℕ, zero, suc, ◌+◌, ◌-◌, ◌^◌, eqb}
use Rattle.regionmap.specs.Map.{Map}
use Rattle.std.specs.declared.option.Option.{Option}
use Rattle.domain.specs.declared.FirstCause.{FirstCause}
use Rattle.completion.specs.declared.{WriteTicket.WriteTicket, DurableReceipt.DurableReceipt, Completion.Completion}
use Rattle.model.specs.declared.{Opening.Opening, Lengths.Lengths, Gate.Gate, Counts.Counts, Row.Row, Awaits.Awaits}

-- "A region has a generation (32 bits), a first card offset, up to 32 further runs (start position, card offset), a positive capacity and a
-- data length"; its gate; "a region's gate, read-only or forced mark"
pub record Region : Type 0 where
  pub id : ℕ
  pub generation : ℕ
  pub map : Map
  pub gate : Gate
  pub read_only : Bool
  pub forced : Bool

-- what stands past the list of regions
unfoldable pub no_region : Region
no_region =
    record {
      id = 0;
      generation = 0;
      map = record { first = 0; more = []; capacity = 0; data_length = 0 };
      gate = Gate.Open;
      read_only = false;
      forced = false;
    }

-- who has a buffer: the host; the table, from acceptance until the host gets it back; or nobody any more: "A buffer that did not come back is
-- never accepted again."
pub data Owner : Type 0 where
  host table lost : Owner

-- the counts at first
abbrev pub fresh : Counts
fresh = record { live = 0; ready = 0; submissions = 0 }

pub record State : Type 0 where
  -- the opening's numbers, and the lengths of what was lent
  pub settings : Opening
  pub lengths : Lengths
  -- "A handle is a region's place in the list, from 0."
  pub regions : List Region
  -- "the first cause kept"
  pub poison : Option FirstCause
  pub counts : Counts
  pub rows : List Row
  -- the free stack, its top first
  pub free : List ℕ
  -- "Completions are taken oldest first": the oldest first
  pub ready : List Completion
  -- of each buffer
  pub owners : List Owner
  -- every pool byte
  pub pool : List ℕ

-- ---- a state with another part: an update says only what changes

abbrev state_of : Opening → Lengths → List Region → Option FirstCause → Counts → List Row → List ℕ → List Completion → List Owner → List ℕ → State
state_of o l gs p c rs ns cs os bs =
    record { settings = o; lengths = l; regions = gs; poison = p; counts = c; rows = rs; free = ns; ready = cs; owners = os; pool = bs }

abbrev pub regions_as : List Region → State → State
regions_as gs s = state_of s.settings s.lengths gs s.poison s.counts s.rows s.free s.ready s.owners s.pool

abbrev pub poison_as : Option FirstCause → State → State
poison_as p s = state_of s.settings s.lengths s.regions p s.counts s.rows s.free s.ready s.owners s.pool

abbrev pub counts_as : Counts → State → State
counts_as c s = state_of s.settings s.lengths s.regions s.poison c s.rows s.free s.ready s.owners s.pool

abbrev pub rows_as : List Row → State → State
rows_as rs s = state_of s.settings s.lengths s.regions s.poison s.counts rs s.free s.ready s.owners s.pool

abbrev pub free_as : List ℕ → State → State
free_as ns s = state_of s.settings s.lengths s.regions s.poison s.counts s.rows ns s.ready s.owners s.pool

abbrev pub ready_as : List Completion → State → State
ready_as cs s = state_of s.settings s.lengths s.regions s.poison s.counts s.rows s.free cs s.owners s.pool

abbrev pub owners_as : List Owner → State → State
owners_as os s = state_of s.settings s.lengths s.regions s.poison s.counts s.rows s.free s.ready os s.pool

abbrev pub pool_as : List ℕ → State → State
pool_as bs s = state_of s.settings s.lengths s.regions s.poison s.counts s.rows s.free s.ready s.owners bs

-- ---- rows

-- a row that awaits nothing, at a generation
unfoldable pub freed : ℕ → Row
freed g = record { generation = g; tag = 0; seq = 0; handle = 0; buffer = 0; durable = false; awaits = Awaits.Nothing }

-- n numbers from k up
unfoldable pub up_from : ℕ → ℕ → List ℕ
up_from k zero = []
up_from k (suc n) = k ∷ up_from (suc k) n

-- a row is live if it awaits a piece or a flush
unfoldable pub awaiting : Awaits → ℕ
awaiting Awaits.Nothing = 0
awaiting (Awaits.Piece k s) = 1
awaiting (Awaits.Flush t) = 1

unfoldable pub live_rows : List Row → ℕ
live_rows [] = 0
live_rows (r ∷ rs) = awaiting r.awaits + live_rows rs

-- ---- a receipt

-- "a receipt with the result's need, synced unless that is 0 or 2^64 − 1"; "A receipt takes its range from the ticket; untorn and prefix are false."
unfoldable pub receipt_made : Opening → WriteTicket → ℕ → DurableReceipt
receipt_made o t n =
    record {
      volume = t.volume;
      region = t.region;
      generation = t.generation;
      class = o.class;
      label = o.label;
      start = t.start;
      through = t.end;
      untorn = false;
      need = n;
      prefix = false;
      synced = not (eqb n 0 || eqb n (2 ^ 64 - 1));
      epoch = t.epoch;
    }
