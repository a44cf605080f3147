-- `start`: "`start` opens the table and prints `ok`, or `no 13` where the opening breaks a rule .. An opening that keeps all rules but is larger than
-- the program's own memory (at least depth 64 and a pool of 1 MiB must fit) prints `limit`".
use Rattle.std.specs.Prelude.{◌≡◌, Bool, true, ◌&&◌, List, ℕ, ◌*◌, length, take, leb}
use Rattle.layout.specs.Pick.{pick}
use Rattle.model.specs.declared.{Opening.Opening, Lengths.Lengths, Row.Row}
use Rattle.model.specs.Opening.{store_words, ready_words, opens}
use Rattle.model.specs.Memory.{Lent, lengths_of, lent_after}
use Rattle.session.specs.declared.start.Started.{Started}

-- a row memory just as long as the opening needs, and a pool of "exactly count × capacity bytes": with these only the opening's own rules are asked
unfoldable pub lengths_for : Opening → Lengths
lengths_for o = record {
  rows = o.depth;
  store = store_words o.regions;
  free = o.depth;
  ready = ready_words o.depth;
  owners = o.buffers;
  pool = o.buffers * o.capacity;
}

-- "An opening that keeps all rules"
unfoldable pub keeps : Opening → List ℕ → Bool
keeps o plan = opens o plan (lengths_for o)

-- "the program's own memory"; of the pool's bytes the first buffers × capacity are lent, or all where there are fewer
unfoldable pub lent_for : Opening → Lent → Lent
lent_for o l =
    record {
      rows = l.rows;
      store = l.store;
      free = l.free;
      ready = l.ready;
      owners = l.owners;
      pool = take (o.buffers * o.capacity) l.pool;
    }

-- whether the table opens there
unfoldable pub opens_in : Opening → List ℕ → Lent → Bool
opens_in o plan l = opens o plan (lengths_of (lent_for o l))

-- "opens the table and prints `ok`", "keeps all rules but is larger", "breaks a rule"
unfoldable pub started_as : Opening → List ℕ → Lent → Started
started_as o plan l = pick (opens_in o plan l) Started.Table (pick (keeps o plan) Started.TooLarge Started.Refused)

pub record StartsTo (o : Opening) (plan : List ℕ) (l : Lent) (r : Started) (rows : List Row) (store free ready owners : List ℕ) : Type 0 where
  pub started : r ≡ started_as o plan l
  pub rows_are : rows ≡ (lent_after o plan (lent_for o l)).rows
  pub store_is : store ≡ (lent_after o plan (lent_for o l)).store
  pub free_is : free ≡ (lent_after o plan (lent_for o l)).free
  pub ready_is : ready ≡ (lent_after o plan (lent_for o l)).ready
  pub owners_are : owners ≡ (lent_after o plan (lent_for o l)).owners

-- "the program's own memory (at least depth 64 and a pool of 1 MiB must fit)"
pub record Memory (l : Lent) : Type 0 where
  pub rows : length l.rows ≡ 64
  pub store : length l.store ≡ 608
  pub free : length l.free ≡ 64
  pub ready : length l.ready ≡ 1025
  pub owners : length l.owners ≡ 4096
  pub pool : length l.pool ≡ 1048576

pub record StartLaws : Type 0 where
  -- what breaks a rule does not open
  pub kept : (o : Opening) (plan : List ℕ) (l : Lent) → opens_in o plan l ≡ true → keeps o plan ≡ true
  -- what keeps all rules opens just where its depth is at most 64 and its pool at most 1 MiB
  pub fits : (o : Opening) (plan : List ℕ) (l : Lent) → Memory l → keeps o plan ≡ true
      → opens_in o plan l ≡ (leb o.depth 64 && leb (o.buffers * o.capacity) 1048576)
