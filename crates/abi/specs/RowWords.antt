-- "`Box<[Row]>`: first flat lent numbers": rows as words, for a host that cannot lend records.
-- "a row says what it awaits, nothing, a piece or a flush". A row lies in 16 words; one of generation 0 that awaits nothing is 16 zeros.
--
-- 0 generation, 1 the host's tag, 2 sequence number, 3 region handle, 4 buffer, 5 durable, 6 what it awaits: 0 nothing, 1 a write's piece, 2 a
-- read's piece, 3 a flush; 7 start and 8 end of the operation; of a piece 9 the whole length and 10 the bytes done; of a flush 9 volume, 10 region,
-- 11 the region's generation, 12 need, 13 epoch. What a case has no use for is 0, and so are 14 and 15.
use Rattle.std.specs.Prelude.{◌≡◌, ◌⊎◌, List, [], ◌∷◌, ℕ, zero, suc, ◌+◌, ◌*◌, ◌/◌, ◌%◌, ◌^◌, ◌≤◌, ◌<◌, length, get_or, take, drop, set, replicate, eqb, ltb}
use Rattle.layout.specs.Pick.{pick}
use Rattle.regionmap.specs.Words.{position_of}
use Rattle.completion.specs.declared.WriteTicket.{WriteTicket}
use Rattle.model.specs.declared.{Awaits.Awaits, Split.Split, Row.Row}
use Rattle.model.specs.declared.Kind.TheVariants as Kind
use Rattle.model.specs.State.{freed}
use Rattle.model.specs.Memory.{flag, word01, over}
use Rattle.ring.specs.Queue.{placed}

-- ---- the row in words

unfoldable pub split_in : List ℕ → Split
split_in w = record { total = get_or w 9 0; done = get_or w 10 0 }

unfoldable pub ticket_in : List ℕ → WriteTicket
ticket_in w =
    record {
      volume = get_or w 9 0;
      region = get_or w 10 0;
      generation = get_or w 11 0 % 2 ^ 32;
      start = position_of (get_or w 7 0);
      end = position_of (get_or w 8 0);
      need = get_or w 12 0;
      epoch = get_or w 13 0;
    }

unfoldable pub awaits_in : List ℕ → Awaits
awaits_in w =
    pick (eqb (get_or w 6 0) 0) Awaits.Nothing
    (pick (eqb (get_or w 6 0) 1) (Awaits.Piece (Kind.Page (position_of (get_or w 7 0)) (position_of (get_or w 8 0))) (split_in w))
    (pick (eqb (get_or w 6 0) 2) (Awaits.Piece (Kind.Read (position_of (get_or w 7 0)) (position_of (get_or w 8 0))) (split_in w))
    (Awaits.Flush (ticket_in w))))

unfoldable pub row_in : List ℕ → Row
row_in w =
    record {
      generation = get_or w 0 0 % 2 ^ 32;
      tag = get_or w 1 0;
      seq = get_or w 2 0;
      handle = get_or w 3 0;
      buffer = get_or w 4 0;
      durable = flag (get_or w 5 0);
      awaits = awaits_in w;
    }

-- ---- the words of a row

-- words 6 to 15
unfoldable pub awaits_words : Awaits → List ℕ
awaits_words Awaits.Nothing = 0 ∷ 0 ∷ 0 ∷ 0 ∷ 0 ∷ 0 ∷ 0 ∷ 0 ∷ 0 ∷ 0 ∷ []
awaits_words (Awaits.Piece (Kind.Page a b) s) = 1 ∷ a.0 ∷ b.0 ∷ s.total ∷ s.done ∷ 0 ∷ 0 ∷ 0 ∷ 0 ∷ 0 ∷ []
awaits_words (Awaits.Piece (Kind.Read a b) s) = 2 ∷ a.0 ∷ b.0 ∷ s.total ∷ s.done ∷ 0 ∷ 0 ∷ 0 ∷ 0 ∷ 0 ∷ []
awaits_words (Awaits.Flush t) = 3 ∷ t.start.0 ∷ t.end.0 ∷ t.volume ∷ t.region ∷ t.generation ∷ t.need ∷ t.epoch ∷ 0 ∷ 0 ∷ []

unfoldable pub words_of : Row → List ℕ
words_of r = r.generation ∷ r.tag ∷ r.seq ∷ r.handle ∷ r.buffer ∷ word01 r.durable ∷ awaits_words r.awaits

-- a row lies in words: its generations have 32 bits
unfoldable pub AwaitsFits : Awaits → Type 0
AwaitsFits Awaits.Nothing = Unit {0}
AwaitsFits (Awaits.Piece k s) = Unit {0}
AwaitsFits (Awaits.Flush t) = t.generation < 2 ^ 32

pub record RowFits (r : Row) : Type 0 where
  pub generation : r.generation < 2 ^ 32
  pub awaits : AwaitsFits r.awaits

-- ---- rows in words: as many as there are whole ones

unfoldable pub rows_from : ℕ → List ℕ → List Row
rows_from zero ws = []
rows_from (suc n) ws = row_in (take 16 ws) ∷ rows_from n (drop 16 ws)

unfoldable pub rows_in : List ℕ → List Row
rows_in ws = rows_from (length ws / 16) ws

-- the words with a row put at a place; as they were where there is no such place
unfoldable pub row_put : ℕ → Row → List ℕ → List ℕ
row_put at r ws = pick (ltb at (length ws / 16)) (placed (16 * at) (words_of r) ws) ws

-- the words with the first n rows freed, at generation 0
unfoldable pub rows_cleared : ℕ → List ℕ → List ℕ
rows_cleared n ws = over (replicate (16 * n) 0) ws

-- Proved in proofs/Laws.antt (row-laws).
pub record RowLaws : Type 0 where
  pub long : (r : Row) → length (words_of r) ≡ 16
  -- the row of a row's words is the row
  pub held : (r : Row) → RowFits r → row_in (words_of r) ≡ r
  pub zeros : words_of (freed 0) ≡ replicate 16 0
  pub count : (ws : List ℕ) → length (rows_in ws) ≡ length ws / 16
  -- a row that is put is the row at its place, the other rows stay, and so does every word of theirs and behind the last
  pub put : (at : ℕ) (r : Row) (ws : List ℕ) → RowFits r → rows_in (row_put at r ws) ≡ set (rows_in ws) at r
  pub put_long : (at : ℕ) (r : Row) (ws : List ℕ) → length (row_put at r ws) ≡ length ws
  pub put_others : (at : ℕ) (r : Row) (ws : List ℕ) (i : ℕ) → (i < 16 * at) ⊎ (16 * at + 16 ≤ i) → get_or (row_put at r ws) i 0 ≡ get_or ws i 0
  pub cleared : (n : ℕ) (ws : List ℕ) → n ≤ length ws / 16 → rows_in (rows_cleared n ws) ≡ over (replicate n (freed 0)) (rows_in ws)
