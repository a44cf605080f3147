-- How the table lies in what the host lends: the row memory, which is the rows, the store's words, the free stack, the completions and the buffers'
-- owners; and the pool (D-1). Only these definitions and the code know the places.
--
-- store    0 block, 1 depth, 2 lifetime, 3 card, 4 buffers, 5 capacity, 6 read-only, 7 flush policy, 8 volume, 9 class, 10 label, 11 epoch,
--          12 regions; 13 to 18 the lengths of rows, store, free, ready, owners and pool; 19 to 22 poison: whether, operation, whether an error,
--          error; 23 unused; 24 + 3 h region h's gate, read-only and forced marks; 48 + 70 h region h: id, generation, map (Words of regionmap)
-- free     the free rows, top first, from place `live` up to the depth
-- ready    0 the place of the oldest completion; 1 + 16 i the completion at place i of a ring of depth places
-- owners   of each buffer: 0 the host, 1 the table, 2 lost
use Rattle.std.specs.Prelude.{◌≡◌, Bool, true, false, not, ◌&&◌, List, [], ◌∷◌, ◌++◌, map, ℕ, zero, suc, ◌*◌, ◌<◌, ◌%◌, ◌^◌, length, get_or, take, drop, replicate, leb, eqb}
use Rattle.layout.specs.Pick.{pick}
use Rattle.regionmap.specs.Words.{position_of}
use Rattle.domain.specs.declared.{Op.Op, FirstCause.FirstCause}
use Rattle.std.specs.declared.option.Option.{Option}
use Rattle.completion.specs.declared.{WriteTicket.WriteTicket, Range.Range, Outcome.Outcome, Completion.Completion}
use Rattle.completion.specs.Buffers.{Buffer}
use Rattle.std.specs.declared.option.Option.TheVariants.{Some as Back, None as Lost}
use Rattle.model.specs.declared.{Opening.Opening, Lengths.Lengths, Gate.Gate, Counts.Counts, Row.Row}
use Rattle.model.specs.State.{Region, Owner, Owner.host, Owner.table, Owner.lost, State, freed, up_from, receipt_made}
use Rattle.model.specs.Opening.{opens, plan_in, HEAD, REGION}

-- what the host lends
pub record Lent : Type 0 where
  pub rows : List Row
  pub store : List ℕ
  pub free : List ℕ
  pub ready : List ℕ
  pub owners : List ℕ
  pub pool : List ℕ

unfoldable pub lengths_of : Lent → Lengths
lengths_of l =
    record {
      rows = length l.rows;
      store = length l.store;
      free = length l.free;
      ready = length l.ready;
      owners = length l.owners;
      pool = length l.pool;
    }

-- ---- a table in what is lent

-- The places that other definitions name too, as the code does (memory): whether the store is poisoned, its first cause's operation, whether that
-- has an error, the error; region 0's gate, with its two marks behind it; region 0's map, and a map's words.
abbrev pub POISON : ℕ
POISON = 19

abbrev pub CAUSE_OP : ℕ
CAUSE_OP = 20

abbrev pub CAUSE_HAS : ℕ
CAUSE_HAS = 21

abbrev pub CAUSE_RAW : ℕ
CAUSE_RAW = 22

abbrev pub GATE : ℕ
GATE = 24

abbrev pub MAP : ℕ
MAP = 50

abbrev pub MAP_WORDS : ℕ
MAP_WORDS = 68

-- a flag in a word
unfoldable pub flag : ℕ → Bool
flag n = not (eqb n 0)

unfoldable pub settings_in : List ℕ → Opening
settings_in s =
    record {
      block = get_or s 0 0;
      depth = get_or s 1 0;
      lifetime = get_or s 2 0;
      card = get_or s 3 0;
      buffers = get_or s 4 0;
      capacity = get_or s 5 0;
      read_only = flag (get_or s 6 0);
      flush = flag (get_or s 7 0);
      volume = get_or s 8 0;
      class = get_or s 9 0;
      label = get_or s 10 0;
      epoch = get_or s 11 0;
      regions = get_or s 12 0;
    }

unfoldable pub lengths_in : List ℕ → Lengths
lengths_in s = record { rows = get_or s 13 0; store = get_or s 14 0; free = get_or s 15 0; ready = get_or s 16 0; owners = get_or s 17 0; pool = get_or s 18 0 }

-- "A later call with another length of row memory or pool gets 13 first": the lengths are those that the opening was given, as the store's own words
-- 13 to 18 have them. So where a host lends another part of memory as the store it has changed row memory, and no values are promised. Fewer words
-- than the head's 48 are another length, whatever they are.
unfoldable pub same_lengths : Lengths → List ℕ → Bool
same_lengths l s =
    leb HEAD (length s) && (eqb l.rows (get_or s 13 0) &&
    (eqb l.store (get_or s 14 0) && (eqb l.free (get_or s 15 0)
    && (eqb l.ready (get_or s 16 0) && (eqb l.owners (get_or s 17 0) && eqb l.pool (get_or s 18 0))))))

unfoldable pub op_in : ℕ → Op
op_in n = pick (eqb n 0) Op.None (pick (eqb n 1) Op.Read (pick (eqb n 2) Op.Write Op.Flush))

-- an OS error, of two words: whether there is one, and the error, whose low 32 bits count
unfoldable pub error_in : ℕ → ℕ → Option ℕ
error_in has n = pick (flag has) (Option.Some (n % 2 ^ 32)) Option.None

unfoldable pub cause_in : ℕ → ℕ → ℕ → FirstCause
cause_in op has n = record { op = op_in op; raw = error_in has n }

unfoldable pub poison_in : List ℕ → Option FirstCause
poison_in s =
    pick (flag (get_or s POISON 0)) (Option.Some (cause_in (get_or s CAUSE_OP 0) (get_or s CAUSE_HAS 0) (get_or s CAUSE_RAW 0))) Option.None

unfoldable pub gate_in : ℕ → Gate
gate_in n = pick (eqb n 0) Gate.Open (pick (eqb n 1) Gate.Recycled Gate.Released)

-- a region, of its marks and its own words
unfoldable pub region_in : List ℕ → List ℕ → Region
region_in marks ws =
    record {
      id = (plan_in ws).id;
      generation = (plan_in ws).generation;
      map = (plan_in ws).map;
      gate = gate_in (get_or marks 0 0);
      read_only = flag (get_or marks 1 0);
      forced = flag (get_or marks 2 0);
    }

unfoldable pub regions_in : ℕ → List ℕ → List ℕ → List Region
regions_in zero marks ws = []
regions_in (suc n) marks ws = region_in (take 3 marks) (take REGION ws) ∷ regions_in n (drop 3 marks) (drop REGION ws)

unfoldable pub owner_in : ℕ → Owner
owner_in n = pick (eqb n 0) host (pick (eqb n 1) table lost)

-- a completion, of the settings and its own 16 words: 0 the host's tag, 1 the outcome (1 written, 2 written with receipt, 3 read, 4 unknown,
-- 5 interrupted, 6 media, 7 Io, 8 queue full, 9 poisoned), 2 the region's id, 3 start, 4 end, 5 the ticket's need, 6 the receipt's need or the
-- read's length, 7 the operation, 8 whether an error, 9 the error, 10 whether the buffer is back, 11 the buffer, 12 its length, 13 the region's
-- generation; 14 and 15 unused
unfoldable pub range_in : List ℕ → Range
range_in c = record { region = get_or c 2 0; start = position_of (get_or c 3 0); end = position_of (get_or c 4 0) }

unfoldable pub ticket_in : Opening → List ℕ → WriteTicket
ticket_in o c =
    record {
      volume = o.volume;
      region = get_or c 2 0;
      generation = get_or c 13 0 % 2 ^ 32;
      start = position_of (get_or c 3 0);
      end = position_of (get_or c 4 0);
      need = get_or c 5 0;
      epoch = o.epoch;
    }

unfoldable pub outcome_in : Opening → List ℕ → Outcome
outcome_in o c =
    pick (eqb (get_or c 1 0) 1) (Outcome.Written (ticket_in o c))
    (pick (eqb (get_or c 1 0) 2) (Outcome.Receipt (ticket_in o c) (receipt_made o (ticket_in o c) (get_or c 6 0)))
    (pick (eqb (get_or c 1 0) 3) (Outcome.Read (get_or c 6 0))
    (pick (eqb (get_or c 1 0) 4) (Outcome.Unknown (range_in c) (cause_in (get_or c 7 0) (get_or c 8 0) (get_or c 9 0)))
    (pick (eqb (get_or c 1 0) 5) (Outcome.Interrupted (range_in c))
    (pick (eqb (get_or c 1 0) 6) (Outcome.Corruption (range_in c))
    (pick (eqb (get_or c 1 0) 7) (Outcome.Io (range_in c) (op_in (get_or c 7 0)) (get_or c 9 0 % 2 ^ 32))
    (pick (eqb (get_or c 1 0) 8) (Outcome.QueueFull (range_in c)) (Outcome.Poisoned (cause_in (get_or c 7 0) (get_or c 8 0) (get_or c 9 0))))))))))

-- a buffer, of three words
unfoldable pub buffer_in : ℕ → ℕ → ℕ → Buffer
buffer_in back b n = pick (flag back) (Back (record { buffer = b; len = n })) Lost

unfoldable pub completion_in : Opening → List ℕ → Completion
completion_in o c = record { tag = get_or c 0 0; outcome = outcome_in o c; buf = buffer_in (get_or c 10 0) (get_or c 11 0) (get_or c 12 0) }

-- n completions of a ring of d places, from place i on
unfoldable pub ready_in : Opening → ℕ → ℕ → ℕ → List ℕ → List Completion
ready_in o d i zero ws = []
ready_in o d i (suc n) ws = completion_in o (take 16 (drop (16 * (i % d)) ws)) ∷ ready_in o d (suc i) n ws

-- the state of a table with these counts in what is lent
unfoldable pub state_in : Counts → Lent → State
state_in c l =
    let o = settings_in l.store in
    record {
      settings = o;
      lengths = lengths_in l.store;
      regions = regions_in o.regions (drop GATE l.store) (drop HEAD l.store);
      poison = poison_in l.store;
      counts = c;
      rows = take o.depth l.rows;
      free = drop c.live (take o.depth l.free);
      ready = ready_in o o.depth (get_or l.ready 0 0) c.ready (drop 1 l.ready);
      owners = map owner_in (take o.buffers l.owners);
      pool = l.pool;
    }

-- ---- a completion as words

unfoldable pub op_word : Op → ℕ
op_word Op.None = 0
op_word Op.Read = 1
op_word Op.Write = 2
op_word Op.Flush = 3

unfoldable pub has_word : Option ℕ → ℕ
has_word Option.None = 0
has_word (Option.Some n) = 1

unfoldable pub raw_word : Option ℕ → ℕ
raw_word Option.None = 0
raw_word (Option.Some n) = n

-- words 1 to 9: the outcome, the region's id, start, end, the ticket's need, the receipt's need or the read's length, and a cause; what a case has
-- no use for is 0
unfoldable pub outcome_words : Outcome → List ℕ
outcome_words (Outcome.Written t) = 1 ∷ t.region ∷ t.start.0 ∷ t.end.0 ∷ t.need ∷ 0 ∷ 0 ∷ 0 ∷ 0 ∷ []
outcome_words (Outcome.Receipt t d) = 2 ∷ t.region ∷ t.start.0 ∷ t.end.0 ∷ t.need ∷ d.need ∷ 0 ∷ 0 ∷ 0 ∷ []
outcome_words (Outcome.Read n) = 3 ∷ 0 ∷ 0 ∷ 0 ∷ 0 ∷ n ∷ 0 ∷ 0 ∷ 0 ∷ []
outcome_words (Outcome.Unknown r e) = 4 ∷ r.region ∷ r.start.0 ∷ r.end.0 ∷ 0 ∷ 0 ∷ op_word e.op ∷ has_word e.raw ∷ raw_word e.raw ∷ []
outcome_words (Outcome.Interrupted r) = 5 ∷ r.region ∷ r.start.0 ∷ r.end.0 ∷ 0 ∷ 0 ∷ 0 ∷ 0 ∷ 0 ∷ []
outcome_words (Outcome.Corruption r) = 6 ∷ r.region ∷ r.start.0 ∷ r.end.0 ∷ 0 ∷ 0 ∷ 0 ∷ 0 ∷ 0 ∷ []
outcome_words (Outcome.Io r op n) = 7 ∷ r.region ∷ r.start.0 ∷ r.end.0 ∷ 0 ∷ 0 ∷ op_word op ∷ 1 ∷ n ∷ []
outcome_words (Outcome.QueueFull r) = 8 ∷ r.region ∷ r.start.0 ∷ r.end.0 ∷ 0 ∷ 0 ∷ 0 ∷ 0 ∷ 0 ∷ []
outcome_words (Outcome.Poisoned e) = 9 ∷ 0 ∷ 0 ∷ 0 ∷ 0 ∷ 0 ∷ op_word e.op ∷ has_word e.raw ∷ raw_word e.raw ∷ []

-- words 10 to 12
unfoldable pub buffer_words : Buffer → List ℕ
buffer_words (Back h) = 1 ∷ h.buffer ∷ h.len ∷ []
buffer_words Lost = 0 ∷ 0 ∷ 0 ∷ []

-- word 13
unfoldable pub generation_word : Outcome → ℕ
generation_word (Outcome.Written t) = t.generation
generation_word (Outcome.Receipt t d) = t.generation
generation_word (Outcome.Read n) = 0
generation_word (Outcome.Unknown r e) = 0
generation_word (Outcome.Interrupted r) = 0
generation_word (Outcome.Corruption r) = 0
generation_word (Outcome.Io r op n) = 0
generation_word (Outcome.QueueFull r) = 0
generation_word (Outcome.Poisoned e) = 0

unfoldable pub completion_words : Completion → List ℕ
completion_words c = c.tag ∷ (outcome_words c.outcome ++ (buffer_words c.buf ++ (generation_word c.outcome ∷ 0 ∷ 0 ∷ [])))

-- What makes a completion lie in words: an OS error has 32 bits, a ticket is the opening's and its generation has 32 bits, and a receipt is the one
-- for its ticket.
unfoldable pub ErrorFits : Option ℕ → Type 0
ErrorFits Option.None = Unit {0}
ErrorFits (Option.Some n) = n < 2 ^ 32

pub record TicketOf (o : Opening) (t : WriteTicket) : Type 0 where
  pub volume : t.volume ≡ o.volume
  pub epoch : t.epoch ≡ o.epoch
  pub generation : t.generation < 2 ^ 32

unfoldable pub OutcomeFits : Opening → Outcome → Type 0
OutcomeFits o (Outcome.Written t) = TicketOf o t
OutcomeFits o (Outcome.Receipt t d) = TicketOf o t × (d ≡ receipt_made o t d.need)
OutcomeFits o (Outcome.Read n) = Unit {0}
OutcomeFits o (Outcome.Unknown r e) = ErrorFits e.raw
OutcomeFits o (Outcome.Interrupted r) = Unit {0}
OutcomeFits o (Outcome.Corruption r) = Unit {0}
OutcomeFits o (Outcome.Io r op n) = n < 2 ^ 32
OutcomeFits o (Outcome.QueueFull r) = Unit {0}
OutcomeFits o (Outcome.Poisoned e) = ErrorFits e.raw

pub record CompletionFits (o : Opening) (c : Completion) : Type 0 where
  pub outcome : OutcomeFits o c.outcome

-- ---- what an opening writes

-- a flag as a word
abbrev pub word01 : Bool → ℕ
word01 true = 1
word01 false = 0

-- the settings, the lengths, no poison and open gates
unfoldable pub store_head : Opening → Lengths → List ℕ
store_head o l =
    o.block
    ∷ o.depth
    ∷ o.lifetime
    ∷ o.card
    ∷ o.buffers
    ∷ o.capacity
    ∷ word01 o.read_only
    ∷ word01 o.flush
    ∷ o.volume
    ∷ o.class
    ∷ o.label
    ∷ o.epoch
    ∷ o.regions
    ∷ l.rows
    ∷ l.store
    ∷ l.free
    ∷ l.ready
    ∷ l.owners
    ∷ l.pool
    ∷ replicate 29 0

-- xs at the front of ys, whose other elements stay
unfoldable pub over : {A : Type 0} → List A → List A → List A
over xs ys = xs ++ drop (length xs) ys

-- What each part holds once an opening is admitted: what the table needs is written at its front, and nothing else.
unfoldable pub rows_opened : ℕ → List Row → List Row
rows_opened depth rows = over (replicate depth (freed 0)) rows

unfoldable pub store_opened : Opening → List ℕ → Lengths → List ℕ → List ℕ
store_opened o plan l store = over (store_head o l ++ take (REGION * o.regions) plan) store

unfoldable pub free_opened : ℕ → List ℕ → List ℕ
free_opened depth free = over (up_from 0 depth) free

unfoldable pub ready_opened : List ℕ → List ℕ
ready_opened ready = over (0 ∷ []) ready

unfoldable pub owners_opened : ℕ → List ℕ → List ℕ
owners_opened buffers owners = over (replicate buffers 0) owners

unfoldable pub opened_lent : Opening → List ℕ → Lent → Lent
opened_lent o plan l =
    record {
      rows = rows_opened o.depth l.rows;
      store = store_opened o plan (lengths_of l) l.store;
      free = free_opened o.depth l.free;
      ready = ready_opened l.ready;
      owners = owners_opened o.buffers l.owners;
      pool = l.pool;
    }

-- where a rule is broken nothing lent is changed
unfoldable pub lent_after : Opening → List ℕ → Lent → Lent
lent_after o plan l = pick (opens o plan (lengths_of l)) (opened_lent o plan l) l
