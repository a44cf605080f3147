-- What an admitted opening leaves: the state of the memory is the one that document 01 says, every map is lawful and lies in its words, no two
-- positions of the table share a card byte, and the pieces of any range act like one transfer. Proved in proofs/Laws.antt (opening-laws); the
-- crates above use these laws instead of the definitions' text.
use Rattle.std.specs.Prelude.{◌≡◌, ◌≢◌, true, List, [], ℕ, ◌+◌, ◌-◌, ◌*◌, ◌^◌, ◌≤◌, ◌<◌, length, get_or, take, drop}
use Rattle.regionmap.specs.Map.{Map, place}
use Rattle.regionmap.specs.Words.{map_in}
use Rattle.regionmap.specs.Found.{wrap64, HoldsMap}
use Rattle.regionmap.specs.Laws.{Lawful}
use Rattle.posix.specs.Transfer.{CardAndPool, Operation, wrote, read_in, whole, OneWrite, OneRead}
use Rattle.completion.specs.declared.Completion.{Completion}
use Rattle.model.specs.declared.{Opening.Opening, Lengths.Lengths}
use Rattle.model.specs.State.{fresh}
use Rattle.model.specs.Opening.{opened, plan_in, plans_in, opens, Plan, all_true, region_rules, REGION}
use Rattle.model.specs.Memory.{Lent, lengths_of, same_lengths, state_in, completion_in, completion_words, CompletionFits, store_opened, opened_lent}
use Rattle.model.specs.Memory.{MAP, MAP_WORDS}
use Rattle.model.specs.Meaning.{Numbers, Room}

-- the map at place h of a list of plans
abbrev pub map_of : List Plan → ℕ → Map
map_of ps h = (get_or ps h (plan_in [])).map

-- what holds of a list of plans that keeps the rules, and of their maps, on a card of so many bytes
pub record PlanMaps (card : ℕ) (ps : List Plan) : Type 0 where
  pub generation : (h : ℕ) → h < length ps → (get_or ps h (plan_in [])).generation < 2 ^ 32
  pub runs : (h : ℕ) → h < length ps → length (map_of ps h).more ≤ 32
  pub lawful : (h : ℕ) → h < length ps → Lawful (map_of ps h)
  -- no two positions of one region share a card byte, nor do positions of two regions
  pub apart : (h p q : ℕ) → h < length ps → p < (map_of ps h).capacity → q < (map_of ps h).capacity → p ≢ q → place (map_of ps h) p ≢ place (map_of ps h) q
  pub apart_regions : (h k p q : ℕ) → h < length ps → k < length ps → h ≢ k → p < (map_of ps h).capacity → q < (map_of ps k).capacity
      → place (map_of ps h) p ≢ place (map_of ps k) q
  -- every card offset is on the card, and is itself in 64 bits
  pub on_card_lem : (h p : ℕ) → h < length ps → p < (map_of ps h).capacity → place (map_of ps h) p < card
  pub fits : (h p : ℕ) → h < length ps → p < (map_of ps h).capacity → wrap64 (place (map_of ps h) p) ≡ place (map_of ps h) p

-- the map of the region at handle h of an opening, and what holds of all its maps
abbrev pub map_at : Opening → List ℕ → ℕ → Map
map_at o plan h = map_of (plans_in o.regions plan) h

abbrev pub OpenedMaps : Opening → List ℕ → Type 0
OpenedMaps o plan = PlanMaps o.card (plans_in o.regions plan)

-- the words of region h's map in the store of an opened table
abbrev pub map_words_at : List ℕ → ℕ → List ℕ
map_words_at store h = take MAP_WORDS (drop (MAP + REGION * h) store)

-- the operation of a range of region h in buffer b, over an opened table's pool
abbrev pub operation_at : Opening → List ℕ → ℕ → ℕ → ℕ → ℕ → Operation
operation_at o plan h b start total = record { map = map_at o plan h; capacity = o.capacity; buffer = b; start = start; total = total }

-- what a submission's questions will ask of such an operation
pub record Asked (o : Opening) (plan : List ℕ) (h b start total : ℕ) : Type 0 where
  pub region : h < o.regions
  pub buffer : b < o.buffers
  pub length : total ≤ o.capacity
  pub in_data : start + total ≤ (map_at o plan h).data_length

-- the laws of an admitted opening
pub record OpeningLaws : Type 0 where
  pub numbers : (o : Opening) (plan : List ℕ) (l : Lengths) → opens o plan l ≡ true → Numbers o
  pub room : (o : Opening) (plan : List ℕ) (l : Lengths) → opens o plan l ≡ true → Room o l
  -- "At first ..": the state in what is lent is the one that document 01 says
  pub state : (o : Opening) (plan : List ℕ) (l : Lent) → opens o plan (lengths_of l) ≡ true
      → state_in fresh (opened_lent o plan l) ≡ opened o (plans_in o.regions plan) (lengths_of l) l.pool
  -- the maps of any list of plans that keeps the rules on regions, on a card that keeps its own
  pub plans : (o : Opening) (ps : List Plan) → all_true (region_rules o ps) ≡ true → o.card ≤ 2 ^ 63 - 1 → PlanMaps o.card ps
  -- so those of an opening, of which there are as many as it says
  pub maps : (o : Opening) (plan : List ℕ) (l : Lengths) → opens o plan l ≡ true → OpenedMaps o plan
  pub regions : (o : Opening) (plan : List ℕ) → length (plans_in o.regions plan) ≡ o.regions
  -- the words of each region hold its map
  pub held : (o : Opening) (plan store : List ℕ) (l : Lengths) → opens o plan l ≡ true → (h : ℕ) → h < o.regions
      → HoldsMap (map_words_at (store_opened o plan l store) h) × (map_in (map_words_at (store_opened o plan l store) h) ≡ map_at o plan h)
  -- the lengths that a later call is asked for are those of the opening
  pub lengths : (o : Opening) (plan store : List ℕ) (l later : Lengths) → opens o plan l ≡ true
      → (same_lengths later (store_opened o plan l store) ≡ true → later ≡ l) × (later ≡ l → same_lengths later (store_opened o plan l store) ≡ true)
  -- "act together like one transfer of every byte to or from its mapped card offset, and touch no other byte", of any range of any region
  pub write : (o : Opening) (plan : List ℕ) (l : Lengths) → opens o plan l ≡ true → (h b start total : ℕ) → Asked o plan h b start total
      → (s : CardAndPool) → length s.pool ≡ l.pool
      → OneWrite (operation_at o plan h b start total) s (whole wrote (operation_at o plan h b start total) s)
  pub read : (o : Opening) (plan : List ℕ) (l : Lengths) → opens o plan l ≡ true → (h b start total : ℕ) → Asked o plan h b start total
      → (s : CardAndPool) → length s.pool ≡ l.pool
      → OneRead (operation_at o plan h b start total) s (whole read_in (operation_at o plan h b start total) s)

-- A completion's words are 16, and one that lies in words is read back from them. Proved in proofs/Completions.antt (completion-laws).
pub record CompletionLaws : Type 0 where
  pub long : (c : Completion) → length (completion_words c) ≡ 16
  pub held : (o : Opening) (c : Completion) → CompletionFits o c → completion_in o (completion_words c) ≡ c
