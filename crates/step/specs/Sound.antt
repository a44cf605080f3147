-- What holds of every table that calls after an opening have left. Stated once; kept by every call (Laws). Values are promised of such tables (D-17).
use Rattle.std.specs.Prelude.{◌≡◌, List, [], ◌∷◌, ℕ, ◌+◌, ◌*◌, ◌≤◌, ◌<◌, ◌^◌, length, get_or, eqb}
use Rattle.layout.specs.Pick.{pick}
use Rattle.regionmap.specs.Map.{place}
use Rattle.regionmap.specs.Laws.{Lawful}
use Rattle.completion.specs.declared.Completion.{Completion}
use Rattle.completion.specs.Buffers.{Buffer}
use Rattle.std.specs.declared.option.Option.TheVariants.{Some as Back, None as Lost}
use Rattle.model.specs.declared.{Opening.Opening, Awaits.Awaits, Row.Row}
use Rattle.model.specs.declared.Kind.TheVariants as Kind
use Rattle.model.specs.State.{Region, Owner, Owner.host, Owner.table, Owner.lost, State, awaiting, live_rows}
use Rattle.model.specs.Meaning.{Numbers, Room}
use Rattle.step.specs.Questions.{region_at}
use Rattle.step.specs.Rules.{range_start, range_end}
use Rattle.step.specs.Step.{row_at}
use Rattle.step.specs.Lists.{times}

-- ---- counts

-- how many live rows hold the buffer b
unfoldable pub row_holds : ℕ → Row → ℕ
row_holds b r = pick (eqb r.buffer b) (awaiting r.awaits) 0

unfoldable pub rows_hold : ℕ → List Row → ℕ
rows_hold b [] = 0
rows_hold b (r ∷ rs) = row_holds b r + rows_hold b rs

-- how many completions hold it
unfoldable pub holds : ℕ → Buffer → ℕ
holds b (Back h) = pick (eqb h.buffer b) 1 0
holds b Lost = 0

unfoldable pub ready_hold : ℕ → List Completion → ℕ
ready_hold b [] = 0
ready_hold b (c ∷ cs) = holds b c.buf + ready_hold b cs

-- one if the table has it
unfoldable pub table_has : Owner → ℕ
table_has host = 0
table_has table = 1
table_has lost = 0

-- ---- the operation in a row

-- a piece under way: the range's length is the total, and bytes are left
unfoldable pub SplitFits : Awaits → Type 0
SplitFits Awaits.Nothing = Unit {0}
SplitFits (Awaits.Piece (Kind.Page a b) s) = (a.0 + s.total ≡ b.0) × (s.done < s.total)
SplitFits (Awaits.Piece (Kind.Read a b) s) = (a.0 + s.total ≡ b.0) × (s.done < s.total)
SplitFits (Awaits.Flush t) = Unit {0}

-- the ticket of a flush is its region's
unfoldable pub TicketFits : Opening → Region → Awaits → Type 0
TicketFits o g Awaits.Nothing = Unit {0}
TicketFits o g (Awaits.Piece k s) = Unit {0}
TicketFits o g (Awaits.Flush t) = (t.volume ≡ o.volume) × (t.region ≡ g.id) × (t.generation ≡ g.generation) × (t.epoch ≡ o.epoch)

-- a live row's range lies in its region's data and fits its buffer, which is in the pool
pub record InTable (s : State) (r : Row) : Type 0 where
  pub region : r.handle < s.settings.regions
  pub buffer : r.buffer < s.settings.buffers
  pub some : range_start r.awaits < range_end r.awaits
  pub in_data_lem : range_end r.awaits ≤ (region_at s r.handle).map.data_length
  pub length : range_end r.awaits ≤ range_start r.awaits + s.settings.capacity
  pub split : SplitFits r.awaits
  pub ticket : TicketFits s.settings (region_at s r.handle) r.awaits
  -- its sequence number is below the next
  pub before : r.seq < s.counts.submissions

-- what is used of a region as the opening admitted it
pub record SoundRegion (o : Opening) (g : Region) : Type 0 where
  pub generation : g.generation < 2 ^ 32
  pub runs : length g.map.more ≤ 32
  pub lawful : Lawful g.map
  pub on_card_lem : (p : ℕ) → p < g.map.capacity → place g.map p < o.card

pub record Sound (s : State) : Type 0 where
  -- the opening's
  pub numbers : Numbers s.settings
  pub room : Room s.settings s.lengths
  pub pool : length s.pool ≡ s.lengths.pool
  pub pool_is : s.lengths.pool ≡ s.settings.buffers * s.settings.capacity
  pub regions : length s.regions ≡ s.settings.regions
  pub each : (h : ℕ) → h < s.settings.regions → SoundRegion s.settings (region_at s h)
  -- no two positions share a card byte, of one region or of two
  pub apart : (h k p q : ℕ) → h < s.settings.regions → k < s.settings.regions → p < (region_at s h).map.capacity → q < (region_at s k).map.capacity
      → place (region_at s h).map p ≡ place (region_at s k).map q → (h ≡ k) × (p ≡ q)
  -- the counts
  pub rows : length s.rows ≡ s.settings.depth
  pub live : s.counts.live ≡ live_rows s.rows
  pub ready : s.counts.ready ≡ length s.ready
  pub submissions : s.counts.submissions ≤ s.settings.lifetime
  -- "free plus live rows equal the depth after every call"
  pub balance : length s.free + live_rows s.rows ≡ s.settings.depth
  -- the free stack names each free row once, and nothing else
  pub free_once : (r : ℕ) → r < s.settings.depth → times r s.free + awaiting (row_at s r).awaits ≡ 1
  pub free_rows : (r : ℕ) → s.settings.depth ≤ r → times r s.free ≡ 0
  -- live + ready at most the depth
  pub most : s.counts.live + s.counts.ready ≤ s.settings.depth
  -- generations have 32 bits
  pub generations : (r : ℕ) → r < s.settings.depth → (row_at s r).generation < 2 ^ 32
  -- no two live rows or completions hold one buffer, and none holds one that the host holds: of a buffer that the table has there is one holder, of
  -- another none
  pub owners : length s.owners ≡ s.settings.buffers
  pub holders : (b : ℕ) → rows_hold b s.rows + ready_hold b s.ready ≡ table_has (get_or s.owners b lost)
  -- each live row's operation
  pub in_table : (r : ℕ) → r < s.settings.depth → awaiting (row_at s r).awaits ≡ 1 → InTable s (row_at s r)
  -- no two live rows have one sequence number
  pub seqs : (r k : ℕ) → r < s.settings.depth → k < s.settings.depth → awaiting (row_at s r).awaits ≡ 1 → awaiting (row_at s k).awaits ≡ 1
      → (row_at s r).seq ≡ (row_at s k).seq → r ≡ k
