-- Document 01, "Opening": each rule is one definition, with its sentence, in the paper's order; an opening is admitted if all hold. "No: 13."
use Rattle.std.specs.Prelude.{Bool, true, false, ◌&&◌, ◌||◌, not, List, [], ◌∷◌, ◌++◌, map, ℕ, zero, suc, ◌+◌, ◌-◌, ◌*◌, ◌^◌, length, get_or, take, drop, replicate, leb, ltb, eqb}
use Rattle.layout.specs.Block.{is_block, on_block}
use Rattle.regionmap.specs.Map.{Run, Map, ascends, Extent, extents, all_apart, all_within}
use Rattle.regionmap.specs.Words.{map_in}
use Rattle.std.specs.declared.option.Option.{Option}
use Rattle.model.specs.declared.{Opening.Opening, Lengths.Lengths}
use Rattle.model.specs.declared.Gate.TheVariants as Gate
use Rattle.model.specs.State.{Region, State, Owner.host, fresh, freed, up_from}

-- a region as the opening is given it
pub record Plan : Type 0 where
  pub id : ℕ
  pub generation : ℕ
  pub map : Map

-- it lies in the words that the host hands over, as many a region as in the store: id, generation, map
abbrev pub REGION : ℕ
REGION = 70

unfoldable pub plan_in : List ℕ → Plan
plan_in ws = record { id = get_or ws 0 0; generation = get_or ws 1 0; map = map_in (drop 2 ws) }

unfoldable pub plans_in : ℕ → List ℕ → List Plan
plans_in zero ws = []
plans_in (suc n) ws = plan_in (take REGION ws) ∷ plans_in n (drop REGION ws)

abbrev pub between : ℕ → ℕ → ℕ → Bool
between lo hi x = leb lo x && leb x hi

-- "Depth is 1 to 4,096"
abbrev pub depth_rule : Opening → Bool
depth_rule o = between 1 4096 o.depth

-- "Block is a power of two, 512 to 65,536."
abbrev pub block_rule : Opening → Bool
block_rule o = is_block o.block

-- "Pool: 1 to 4,096 buffers"
abbrev pub buffers_rule : Opening → Bool
buffers_rule o = between 1 4096 o.buffers

-- "capacity a positive multiple of the block, at most 65,536"
abbrev pub capacity_rule : Opening → Bool
capacity_rule o = between 1 65536 o.capacity && on_block o.block o.capacity

-- "the pool holds exactly count × capacity bytes"
abbrev pub pool_rule : Opening → Lengths → Bool
pool_rule o l = eqb l.pool (o.buffers * o.capacity)

-- "Lifetime, added by design: 1 to 2^62 submissions."
abbrev pub lifetime_rule : Opening → Bool
lifetime_rule o = between 1 (2 ^ 62) o.lifetime

-- "There are 1 to 8 regions"
abbrev pub regions_rule : Opening → Bool
regions_rule o = between 1 8 o.regions

-- "with distinct ids"
unfoldable pub among : ℕ → List ℕ → Bool
among x [] = false
among x (y ∷ ys) = eqb x y || among x ys

unfoldable pub distinct : List ℕ → Bool
distinct [] = true
distinct (x ∷ xs) = not (among x xs) && distinct xs

unfoldable pub ids_rule : List Plan → Bool
ids_rule ps = distinct (map (λ p. p.id) ps)

-- "A region has a generation (32 bits)"
abbrev pub generation_rule : Plan → Bool
generation_rule p = ltb p.generation (2 ^ 32)

-- "up to 32 further runs"
abbrev pub runs_rule : Map → Bool
runs_rule m = leb (length m.more) 32

-- "a positive capacity and a data length of at most the capacity"
abbrev pub sizes_rule : Map → Bool
sizes_rule m = ltb 0 m.capacity && leb m.data_length m.capacity

-- "Starts strictly ascend, above 0 and below the capacity."
abbrev pub starts_rule : Map → Bool
starts_rule m = ascends 0 m.more m.capacity

-- "Positions, card offsets and lengths here are multiples of the block."
unfoldable pub runs_on_block : ℕ → List Run → Bool
runs_on_block b [] = true
runs_on_block b (r ∷ rs) = on_block b r.start && (on_block b r.offset && runs_on_block b rs)

unfoldable pub blocks_rule : ℕ → Map → Bool
blocks_rule b m = on_block b m.first && (on_block b m.capacity && (on_block b m.data_length && runs_on_block b m.more))

unfoldable pub map_rule : ℕ → Map → Bool
map_rule b m = runs_rule m && (sizes_rule m && (starts_rule m && blocks_rule b m))

unfoldable pub region_rule : ℕ → Plan → Bool
region_rule b p = generation_rule p && map_rule b p.map

unfoldable pub each_region : ℕ → List Plan → Bool
each_region b [] = true
each_region b (p ∷ ps) = region_rule b p && each_region b ps

-- the card bytes of all runs, up to the capacities
unfoldable pub all_extents : List Plan → List Extent
all_extents [] = []
all_extents (p ∷ ps) = extents p.map ++ all_extents ps

-- "No two runs share a card byte"
unfoldable pub apart_rule : List Plan → Bool
apart_rule ps = all_apart (all_extents ps)

-- "and all lie within the card's size"
unfoldable pub within_rule : Opening → List Plan → Bool
within_rule o ps = all_within o.card (all_extents ps)

-- the card's size is "at most 2^63 − 1"
abbrev pub card_rule : Opening → Bool
card_rule o = leb o.card (2 ^ 63 - 1)

-- How long the row memory has to be is ours to choose (README, D-2): a record for each row; the settings, the regions' marks and the regions in the
-- store's words; a word of the free stack for each row; one word and sixteen for each row of the completions; a word for each buffer's owner.
abbrev pub HEAD : ℕ
HEAD = 48

abbrev pub store_words : ℕ → ℕ
store_words n = HEAD + REGION * n

abbrev pub ready_words : ℕ → ℕ
ready_words d = 1 + 16 * d

-- "and the row memory long enough"
abbrev pub memory_rule : Opening → Lengths → Bool
memory_rule o l =
    leb o.depth l.rows && (leb (store_words o.regions) l.store
    && (leb o.depth l.free && (leb (ready_words o.depth) l.ready && leb o.buffers l.owners)))

unfoldable pub all_true : List Bool → Bool
all_true [] = true
all_true (x ∷ xs) = x && all_true xs

-- the rules on the opening's own numbers
unfoldable pub number_rules : Opening → List Bool
number_rules o =
    depth_rule o
    ∷ block_rule o
    ∷ buffers_rule o
    ∷ capacity_rule o
    ∷ lifetime_rule o
    ∷ regions_rule o
    ∷ card_rule o
    ∷ []

-- the rules on what is lent, and that the plan lists as many regions as the opening says
unfoldable pub length_rules : Opening → Bool → Lengths → List Bool
length_rules o listed l = pool_rule o l ∷ memory_rule o l ∷ listed ∷ []

-- the rules on the regions
unfoldable pub region_rules : Opening → List Plan → List Bool
region_rules o ps = each_region o.block ps ∷ ids_rule ps ∷ within_rule o ps ∷ apart_rule ps ∷ []

-- "Is all this so, and the row memory long enough? No: 13."
unfoldable pub admits : Opening → Bool → List Plan → Lengths → Bool
admits o listed ps l = all_true (number_rules o) && (all_true (length_rules o listed l) && all_true (region_rules o ps))

-- the plan lists as many regions as the opening says
unfoldable pub listed : Opening → List ℕ → Bool
listed o ws = leb (REGION * o.regions) (length ws)

-- all rules of an opening hold
unfoldable pub opens : Opening → List ℕ → Lengths → Bool
opens o plan l = admits o (listed o plan) (plans_in o.regions plan) l

-- "At first gates are open, no region is read-only or forced"
unfoldable pub at_first : Plan → Region
at_first p = record { id = p.id; generation = p.generation; map = p.map; gate = Gate.Open; read_only = false; forced = false }

-- ".. nothing is poisoned and the host holds every buffer." "At first row 0 is on top, then 1". Generations and the sequence number start at 0.
unfoldable pub opened : Opening → List Plan → Lengths → List ℕ → State
opened o ps l pool =
    record {
      settings = o;
      lengths = l;
      regions = map at_first ps;
      poison = Option.None;
      counts = fresh;
      rows = replicate o.depth (freed 0);
      free = up_from 0 o.depth;
      ready = [];
      owners = replicate o.buffers host;
      pool = pool;
    }
