-- regionmap.rs on values: where a region's data lies on the card, in the Rust's order of tests and statements and under its names. A map is the
-- crate regionmap's value of one, read as the Rust's fields: `first`, `capacity`, `len` the data length, `count` how many runs follow the first. The
-- chunks of `slots` are only where a run is stored, so run j after the first is the j-th of the list `more`; nobody extends a map here, so each load
-- gives the same. What `locate` and `run_left` assert is left out and holds of every piece (AsStep, Asserts). `run` asserts that a published run has
-- its slot: it is asked for runs below the count only (MapAsRust, turn-asks and before-asks), and that these have their slots is what the list
-- stands for. Numbers here do not wrap, as the Rust's u64 would: of a piece the sums stay below 2^64, as its positions are within the data and its
-- bytes "within the card's size, at most 2^63 − 1" (Asserts).
use Rattle.std.specs.Prelude.{◌≡◌, false, ℕ, zero, suc, ◌+◌, ◌-◌, ◌/◌, ◌≤◌, ◌<◌, min, length, get_or, leb, ltb, eqb}
use Rattle.layout.specs.Pick.{pick}
use Rattle.regionmap.specs.Map.{Map, map_run, map_run_end, map_run_left, place}
use Rattle.regionmap.specs.Laws.{Lawful}
use Rattle.step.specs.Questions.{region_at}
use Rattle.step.specs.Run.{Start, opened_by}

-- `RegionMap::run`: "Run `j` after the first (published: below the count the caller loaded): its region offset and file offset."
-- `map_or((0, 0), ..)` past them.
unfoldable pub run : Map → ℕ → ℕ × ℕ
run m j = let s = get_or m.more j (record { start = 0; offset = 0 }) in (s.start, s.offset)

-- the loop of `RegionMap::run_of`, `while lo < hi`, in so many turns at most: lo and hi behind it
unfoldable pub searched : ℕ → Map → ℕ → ℕ → ℕ → ℕ × ℕ
searched zero m pos lo hi = (lo, hi)
searched (suc turns) m pos lo hi =
    let mid = lo + (hi - lo) / 2 in
    pick (ltb lo hi) (pick (leb (run m mid).0 pos) (searched turns m pos (mid + 1) hi) (searched turns m pos lo mid)) (lo, hi)

-- `RegionMap::run_of`: "The run holding region offset `pos` among the first `count` runs after the first: its region offset, file offset and end."
-- In its loop "The first run after the first starting past `pos`." is found; each turn takes a run from those that are left, so `count` turns end it
-- (MapAsRust, loop-ends).
unfoldable pub run_of : Map → ℕ → ℕ → ℕ × ℕ × ℕ
run_of m pos count =
    let lo = (searched count m pos 0 count).0 in
    let found = pick (eqb lo 0) (0, m.first) (run m (lo - 1)) in
    let end = pick (ltb lo count) (run m lo).0 m.capacity in
    (found.0, found.1, end)

-- `RegionMap::locate`: "The file offset of `[pos, pos + len)`"
unfoldable pub locate : Map → ℕ → ℕ → ℕ
locate m pos len =
    let count = length m.more in
    let found = run_of m pos count in
    pick (eqb count 0) (m.first + pos) (found.1 + (pos - found.0))

-- `RegionMap::run_end`: "Where the run holding region offset `pos` ends (a region offset), at most the data's length"
unfoldable pub run_end : Map → ℕ → ℕ
run_end m pos =
    let «data» = m.data_length in
    let count = length m.more in
    pick (eqb count 0) «data» (min (run_of m pos count).2 «data»)

-- `RegionMap::run_left`: "The bytes from region offset `pos` to the end of its run (at most the data's length)"
unfoldable pub run_left : Map → ℕ → ℕ
run_left m pos = run_end m pos - pos

-- ---- the claim

-- of every lawful map, as those of an opening are (opened) and stay (step's Sound, each), and every position: what the Rust finds is what document
-- 01's map has. Proved in proofs/RegionMap.antt (map-as-rust).
pub record MapAsRust : Type 0 where
  pub opened : (x : Start) (h : ℕ) → h < x.opening.regions → Lawful (region_at (opened_by x) h).map
  pub run_of_lem : (m : Map) → Lawful m → (pos : ℕ) → run_of m pos (length m.more) ≡ ((map_run m pos).start, (map_run m pos).offset, (map_run m pos).end)
  pub run_end_lem : (m : Map) → Lawful m → (pos : ℕ) → run_end m pos ≡ map_run_end m pos
  pub run_left_lem : (m : Map) → Lawful m → (pos : ℕ) → run_left m pos ≡ map_run_left m pos
  pub locate_is : (m : Map) → Lawful m → (pos len : ℕ) → locate m pos len ≡ place m pos
  -- the loop is over: not `lo < hi`
  pub loop_ends : (m : Map) (pos : ℕ) → let z = searched (length m.more) m pos 0 (length m.more) in ltb z.0 z.1 ≡ false
  -- `run` is asked for runs below the count only: in the next turn after any number of turns, and behind the loop for the run before `lo`. That at
  -- `lo` is asked for where `lo < count`.
  pub turn_asks : (m : Map) (pos turns : ℕ) → let z = searched turns m pos 0 (length m.more) in z.0 < z.1
      → z.0 + (z.1 - z.0) / 2 < length m.more
  pub before_asks : (m : Map) (pos : ℕ) → let lo = (searched (length m.more) m pos 0 (length m.more)).0 in 0 < lo → lo - 1 < length m.more
  -- `pos - start` is no difference below 0
  pub begins : (m : Map) (pos : ℕ) → (run_of m pos (length m.more)).0 ≤ pos
