-- Demand 2 for one range: "the pieces of an accepted page operation, each taken whole with its buffer back and no other operation writing its
-- bytes meanwhile, act together like one transfer of every byte to or from its mapped card offset, and touch no other byte."
-- Here nothing at all happens to card or pool between the pieces; what other calls do meanwhile comes with the calls.
-- The pieces are the map's, transferred one after another by pread and pwrite; between two of them the operation's bytes turn as document 01
-- says. Nothing is supposed of the block.
use Rattle.std.specs.Prelude.{◌≡◌, List, [], ◌∷◌, ◌++◌, ℕ, zero, suc, ◌+◌, ◌-◌, ◌*◌, ◌≤◌, ◌<◌, length, take, drop, get_or}
use Rattle.regionmap.specs.Map.{Map, Piece, pieces, place}
use Rattle.regionmap.specs.Laws.{Lawful}
use Rattle.iobuf.specs.Turn.{stretch, with_stretch, turned_in}
use Rattle.posix.specs.Posix.{Card, pread, pwrite}

-- the card's bytes and the pool's
pub record CardAndPool : Type 0 where
  pub card : Card
  pub pool : List ℕ

-- a page operation: its region's map, the pool's buffer capacity, its buffer, and its range
pub record Operation : Type 0 where
  pub map : Map
  pub capacity : ℕ
  pub buffer : ℕ
  pub start : ℕ
  pub total : ℕ

-- the bytes of the operation's buffer
abbrev pub buffer_in : Operation → List ℕ → List ℕ
buffer_in o pool = stretch o.capacity o.buffer pool

-- a write's piece taken whole: "Its bytes are the first count bytes of the buffer."
unfoldable pub wrote : Operation → Piece → CardAndPool → CardAndPool
wrote o x s = record { card = pwrite s.card (place o.map x.position) (take x.count (buffer_in o s.pool)); pool = s.pool }

-- a read's piece taken whole: the card's bytes come to the front of the buffer
unfoldable pub read_in : Operation → Piece → CardAndPool → CardAndPool
read_in o x s =
    let front = pread s.card (place o.map x.position) x.count in
    record { card = s.card; pool = with_stretch o.capacity o.buffer (front ++ drop x.count (buffer_in o s.pool)) s.pool }

-- the pool after a piece with done bytes before it. Bytes left: "the operation's bytes at the front of the buffer turn left by the piece".
-- None left: the buffer "is turned back to its first arrangement", by total − done
unfoldable pub turn_after : Operation → ℕ → Piece → List Piece → List ℕ → List ℕ
turn_after o done x [] pool = turned_in o.capacity o.buffer o.total (o.total - done) pool
turn_after o done x (y ∷ ys) pool = turned_in o.capacity o.buffer o.total x.count pool

-- pieces transferred one after another, done bytes before the first of them
unfoldable pub transferred : (Operation → Piece → CardAndPool → CardAndPool) → Operation → ℕ → List Piece → CardAndPool → CardAndPool
transferred f o done [] s = s
transferred f o done (x ∷ xs) s = transferred f o (done + x.count) xs (record { card = (f o x s).card; pool = turn_after o done x xs (f o x s).pool })

-- all pieces of the operation
unfoldable pub whole : (Operation → Piece → CardAndPool → CardAndPool) → Operation → CardAndPool → CardAndPool
whole f o s = transferred f o 0 (pieces o.map o.start o.total) s

-- what a submission's questions and the opening make sure of
pub record Accepted (o : Operation) (pool : List ℕ) : Type 0 where
  pub lawful : Lawful o.map
  pub in_data : o.start + o.total ≤ o.map.data_length
  pub in_buffer : o.total ≤ o.capacity
  pub in_pool : o.buffer * o.capacity + o.capacity ≤ length pool

-- no two positions of the range have one card offset
abbrev pub Distinct : Operation → Type 0
Distinct o = (i j : ℕ) → i < o.total → j < o.total → place o.map (o.start + i) ≡ place o.map (o.start + j) → i ≡ j

-- one transfer of every byte to its mapped card offset, and no other byte of the card or of the pool
pub record OneWrite (o : Operation) (before after : CardAndPool) : Type 0 where
  pub arrived : (i : ℕ) → i < o.total → after.card (place o.map (o.start + i)) ≡ get_or (buffer_in o before.pool) i 0
  pub others : (x : ℕ) → ((i : ℕ) → i < o.total → place o.map (o.start + i) ≡ x → ⊥) → after.card x ≡ before.card x
  pub pool : after.pool ≡ before.pool

-- the card's bytes at the offsets of n positions from p on
unfoldable pub gathered : Card → Map → ℕ → ℕ → List ℕ
gathered card m p zero = []
gathered card m p (suc n) = card (place m p) ∷ gathered card m (suc p) n

-- one transfer of every byte from its mapped card offset, and no other byte of the pool or of the card
pub record OneRead (o : Operation) (before after : CardAndPool) : Type 0 where
  pub card : (x : ℕ) → after.card x ≡ before.card x
  pub pool : after.pool
      ≡ with_stretch o.capacity o.buffer (gathered before.card o.map o.start o.total ++ drop o.total
      (buffer_in o before.pool)) before.pool

pub record Transfers : Type 0 where
  pub write : (o : Operation) (s : CardAndPool) → Accepted o s.pool → Distinct o → OneWrite o s (whole wrote o s)
  pub read : (o : Operation) (s : CardAndPool) → Accepted o s.pool → OneRead o s (whole read_in o s)
