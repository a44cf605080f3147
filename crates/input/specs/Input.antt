-- The input, cut into lines: "lines end in LF, the last one's end may be missing"; a line's "number in the file, from 1". What `read` gives is
-- promised by no one.
use Rattle.std.specs.Prelude.{◌≡◌, ℕ, ◌+◌, ◌%◌, ◌^◌, ◌<◌, ◌≤◌, Bool, true, false, cond, ◌&&◌, List, [], ◌∷◌, ◌++◌, length, take, drop, ◌==◌, nat_lt}
use Rattle.fields.specs.Trace.{Kept}
use Rattle.input.specs.declared.Input.{Input}

-- of some bytes, those before the first LF; all, where there is none
unfoldable pub up_to : List ℕ → List ℕ
up_to [] = []
up_to (b ∷ bs) = cond (b == 10) [] (b ∷ up_to bs)

-- whether an LF is among them
unfoldable pub has_end : List ℕ → Bool
has_end [] = false
has_end (b ∷ bs) = cond (b == 10) true (has_end bs)

-- those behind the first LF
unfoldable pub behind : List ℕ → List ℕ
behind [] = []
behind (b ∷ bs) = cond (b == 10) bs (behind bs)

-- how many they are up to the line's end, the LF with them
unfoldable pub past : List ℕ → ℕ
past bs = cond (has_end bs) (length (up_to bs) + 1) (length (up_to bs))

-- the line goes on in the bytes that are left: up to the first LF, which makes it whole, or through all of them
pub record Scanned (i r : Input) (line line' left : List ℕ) : Type 0 where
  pub kept : (bytes : List ℕ) → Kept i.reader line bytes → Kept r.reader line' (bytes ++ up_to left)
  pub whole : r.whole ≡ has_end left
  pub at : r.at ≡ i.at + past left
  pub number : r.number ≡ i.number
  pub got : r.got ≡ i.got
  pub ended : r.ended ≡ false

-- a line that was whole is left behind, and the next one has no byte yet
pub record Fresh (i r : Input) : Type 0 where
  pub after : i.whole ≡ true → (r.number ≡ (i.number + 1) % 2 ^ 64) × ((line : List ℕ) → Kept r.reader line [])
  pub on : i.whole ≡ false → (r.number ≡ i.number) × (r.reader ≡ i.reader)
  pub whole : r.whole ≡ false
  pub at : r.at ≡ i.at
  pub got : r.got ≡ i.got

-- more was read, of which nothing is promised; where it is nothing the input has ended, and what there is of a line is the last one: "the last one's
-- end may be missing"
pub record Read (i r : Input) (line line' chunk' : List ℕ) : Type 0 where
  pub kept : (bytes : List ℕ) → Kept i.reader line bytes → Kept r.reader line' bytes × (r.whole ≡ (r.ended && nat_lt 0 (length bytes)))
  pub ended : r.ended ≡ (r.got == 0)
  pub at : r.at ≡ 0
  pub got : r.got ≤ length chunk'
  pub number : r.number ≡ i.number

-- one step: the bytes read last are scanned where some are left, and more are read where none is
pub record Next (i r : Input) (line line' chunk chunk' : List ℕ) : Type 0 where
  pub from : Input
  pub fresh : Fresh i from
  pub left : i.at < i.got → Scanned from r line line' (drop i.at (take i.got chunk)) × (chunk' ≡ chunk)
  pub more : i.got ≤ i.at → Read from r line line' chunk'

-- before the first byte: no line was left behind, and the first has the number 1
pub record Begun (r : Input) : Type 0 where
  pub kept : (line : List ℕ) → Kept r.reader line []
  pub number : r.number ≡ 1
  pub whole : r.whole ≡ false
  pub none : r.got ≤ r.at
  pub ended : r.ended ≡ false

-- a turn of a program that answers lines: a step in the input, and the line answered if that made it whole. `leaves` is what a line of given bytes
-- and number leaves.
pub record Turned {S : Type 0} (leaves : List ℕ → ℕ → S → S → Type 0) (i r : Input) (line line' chunk chunk' : List ℕ) (s s' : S) : Type 0 where
  pub next : Next i r line line' chunk chunk'
  pub whole : r.whole ≡ true → (bytes : List ℕ) → Kept r.reader line' bytes → leaves bytes r.number s s'
  pub part : r.whole ≡ false → s' ≡ s

-- ---- the lines of an input, of which the first has come as far as `line`

unfoldable pub last_of : List ℕ → List (List ℕ)
last_of [] = []
last_of (b ∷ bs) = (b ∷ bs) ∷ []

unfoldable pub lines_from : List ℕ → List ℕ → List (List ℕ)
lines_from line [] = last_of line
lines_from line (b ∷ bs) = cond (b == 10) (line ∷ lines_from [] bs) (lines_from (line ++ (b ∷ [])) bs)

-- the bytes read last of which none has been passed yet
unfoldable pub unread : Input → List ℕ → List ℕ
unread i chunk = drop i.at (take i.got chunk)

-- the line as far as it has come: one that was whole is left behind
unfoldable pub ComeTo : Input → List ℕ → List ℕ → Type 0
ComeTo i line bytes = (i.whole ≡ true → bytes ≡ []) × (i.whole ≡ false → Kept i.reader line bytes)

-- the line goes on by what was left, up to its LF: one that this made whole is the first of the lines left, and the others follow; else the lines
-- left are the same
pub record Stepped (r : Input) (line' bytes left left' rest : List ℕ) : Type 0 where
  pub kept : Kept r.reader line' (bytes ++ up_to left)
  pub whole : r.whole ≡ true → lines_from bytes (left ++ rest) ≡ (bytes ++ up_to left) ∷ lines_from [] (left' ++ rest)
  pub part : r.whole ≡ false → lines_from bytes (left ++ rest) ≡ lines_from (bytes ++ up_to left) (left' ++ rest)

-- However the reads part the input, and whatever follows (`rest`): each step makes the first of the lines that are left whole, or leaves the same
-- lines. Proved in proofs/Laws.antt (input-laws).
pub record InputLaws : Type 0 where
  -- a step in the bytes read last
  pub steps : (i r : Input) (line line' chunk chunk' : List ℕ) → Next i r line line' chunk chunk' → i.at < i.got
      → (bytes rest : List ℕ) → ComeTo i line bytes → Stepped r line' bytes (unread i chunk) (unread r chunk') rest
  -- a step that reads passes no byte: what was read is next, and where it is nothing, a line that has come to any byte is the last
  pub reads : (i r : Input) (line line' chunk chunk' : List ℕ) → Next i r line line' chunk chunk' → i.got ≤ i.at
      → (bytes : List ℕ) → ComeTo i line bytes
      → Kept r.reader line' bytes ×
      ((r.whole ≡ (r.ended && nat_lt 0 (length bytes))) × ((unread r chunk' ≡ take r.got chunk') × (lines_from bytes [] ≡ last_of bytes)))
