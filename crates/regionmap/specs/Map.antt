-- Document 01, "The map":
-- "The run of a position starts at the last start not above it, the first run at 0. It ends at the next start or the capacity, cut to
-- the data length. Offset = the run's card offset + position − start. A piece is the smaller of the run's rest and the bytes left."
-- A position counts in a region and an offset on the card: here both are numbers; the code has a type for each (src/lib.rt).
use Rattle.std.specs.Prelude.{ℕ, zero, suc, ◌+◌, ◌-◌, min, Bool, true, ◌&&◌, ◌||◌, List, [], ◌∷◌, map, nat_le, nat_lt}
use Rattle.layout.specs.Pick.{pick}

-- a run: the position that it starts at, and its card offset
pub record Run : Type 0 where
  pub start : ℕ
  pub offset : ℕ

-- "a first card offset, up to 32 further runs (start position, card offset), a positive capacity and a data length"
pub record Map : Type 0 where
  pub first : ℕ
  pub more : List Run
  pub capacity : ℕ
  pub data_length : ℕ

-- a run with the position that it ends before
pub record Span : Type 0 where
  pub start : ℕ
  pub offset : ℕ
  pub end : ℕ

abbrev pub span : Run → ℕ → Span
span r e = record { start = r.start; offset = r.offset; end = e }

-- the first run: "the first run at 0"
abbrev pub first_run : Map → Run
first_run m = record { start = 0; offset = m.first }

-- the run of p among r and the runs behind it: the last whose start is not above p. Starts ascend, so it is the one before the first
-- whose start is above p. "It ends at the next start or the capacity"
unfoldable pub span_from : Run → List Run → ℕ → ℕ → Span
span_from r [] cap p = span r cap
span_from r (x ∷ xs) cap p = pick (nat_le x.start p) (span_from x xs cap p) (span r x.start)

-- "The run of a position"
unfoldable pub map_run : Map → ℕ → Span
map_run m p = span_from (first_run m) m.more m.capacity p

-- where the run of a position ends: "at the next start or the capacity, cut to the data length"
unfoldable pub map_run_end : Map → ℕ → ℕ
map_run_end m p = min (map_run m p).end m.data_length

-- how far a piece may run from a position: "the run's rest"
unfoldable pub map_run_left : Map → ℕ → ℕ
map_run_left m p = map_run_end m p - p

-- "Offset = the run's card offset + position − start"
unfoldable pub place : Map → ℕ → ℕ
place m p = (map_run m p).offset + (p - (map_run m p).start)

-- "A piece is the smaller of the run's rest and the bytes left."
unfoldable pub piece_size : Map → ℕ → ℕ → ℕ
piece_size m p left = min (map_run_left m p) left

-- a piece: its first position, and its count of bytes
pub record Piece : Type 0 where
  pub position : ℕ
  pub count : ℕ

-- the pieces of the bytes left from p on, in order; at most as many as the first argument says
unfoldable pub pieces_up_to : ℕ → Map → ℕ → ℕ → List Piece
pieces_up_to zero m p left = []
pieces_up_to (suc k) m p zero = []
pieces_up_to (suc k) m p (suc l) =
    record { position = p; count = piece_size m p (suc l) } ∷ pieces_up_to k m (p + piece_size m p (suc l)) (suc l - piece_size m p (suc l))

-- the pieces of the range of n bytes at p: each takes a byte at least (Laws), so there are at most n
unfoldable pub pieces : Map → ℕ → ℕ → List Piece
pieces m p n = pieces_up_to n m p n

-- "Starts strictly ascend, above 0 and below the capacity": above lo and below cap
unfoldable pub ascends : ℕ → List Run → ℕ → Bool
ascends lo [] cap = true
ascends lo (x ∷ xs) cap = nat_lt lo x.start && (nat_lt x.start cap && ascends x.start xs cap)

-- all runs of a map, each with its end
unfoldable pub spans_from : Run → List Run → ℕ → List Span
spans_from r [] cap = span r cap ∷ []
spans_from r (x ∷ xs) cap = span r x.start ∷ spans_from x xs cap

unfoldable pub spans : Map → List Span
spans m = spans_from (first_run m) m.more m.capacity

-- where a run lies on the card: its offset there, and how many bytes it has
pub record Extent : Type 0 where
  pub offset : ℕ
  pub size : ℕ

unfoldable pub extent : Span → Extent
extent s = record { offset = s.offset; size = s.end - s.start }

unfoldable pub extents : Map → List Extent
extents m = map extent (spans m)

-- two extents share no card byte: one ends where the other begins or before
unfoldable pub apart : Extent → Extent → Bool
apart a b = nat_le (a.offset + a.size) b.offset || nat_le (b.offset + b.size) a.offset

unfoldable pub apart_from : Extent → List Extent → Bool
apart_from x [] = true
apart_from x (y ∷ ys) = apart x y && apart_from x ys

-- "No two runs share a card byte": each is apart from all behind it
unfoldable pub all_apart : List Extent → Bool
all_apart [] = true
all_apart (x ∷ xs) = apart_from x xs && all_apart xs

-- "and all lie within the card's size"
unfoldable pub all_within : ℕ → List Extent → Bool
all_within size [] = true
all_within size (x ∷ xs) = nat_le (x.offset + x.size) size && all_within size xs
