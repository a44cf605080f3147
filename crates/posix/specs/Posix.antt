-- POSIX.1-2017, pread: "shall be equivalent to read(), except that it shall read from a given position in the file"; read: "shall attempt to
-- read nbyte bytes from the file". pwrite: "shall be equivalent to write(), except that it writes into a given position"; write: "shall
-- attempt to write nbyte bytes from the buffer pointed to by buf to the file". "After a write() to a regular file has successfully
-- returned: any successful read() from each byte position in the file that was modified by that write shall return the data specified by
-- the write() for that position until such byte positions are again modified."
-- The card is the byte at each offset (D-9). Its size never changes and every transfer of an opened table lies within it, so a transfer taken
-- whole meets no end of file.
use Rattle.std.specs.Prelude.{◌≡◌, Bool, ◌&&◌, List, [], ◌∷◌, ℕ, zero, suc, ◌+◌, ◌-◌, ◌<◌, length, get_or, leb, ltb}
use Rattle.layout.specs.Pick.{pick}

abbrev pub Card : Type 0
Card = ℕ → ℕ

-- the bytes that a transfer of count bytes at an offset reads
unfoldable pub pread : Card → ℕ → ℕ → List ℕ
pread card offset zero = []
pread card offset (suc count) = card offset ∷ pread card (suc offset) count

-- x is one of the count offsets from offset on
unfoldable pub within : ℕ → ℕ → ℕ → Bool
within offset count x = leb offset x && ltb x (offset + count)

-- the card after a transfer that writes bytes at an offset: it replaces the bytes there, and no others
unfoldable pub pwrite : Card → ℕ → List ℕ → Card
pwrite card offset bytes x = pick (within offset (length bytes) x) (get_or bytes (x - offset) 0) (card x)

-- what is used of the two
pub record TransferLaws : Type 0 where
  pub count : (card : Card) (offset count : ℕ) → length (pread card offset count) ≡ count
  pub reads : (card : Card) (offset count i : ℕ) → i < count → get_or (pread card offset count) i 0 ≡ card (offset + i)
  -- which bytes a transfer replaces, and that it changes no others
  pub replaces : (card : Card) (offset : ℕ) (bytes : List ℕ) (i : ℕ) → i < length bytes → pwrite card offset bytes (offset + i) ≡ get_or bytes i 0
  pub others : (card : Card) (offset : ℕ) (bytes : List ℕ) (x : ℕ) → ((i : ℕ) → i < length bytes → offset + i ≡ x → ⊥)
      → pwrite card offset bytes x ≡ card x
  -- "any successful read() from each byte position in the file that was modified by that write shall return the data specified by the write()"
  pub given_back_lem : (card : Card) (offset : ℕ) (bytes : List ℕ) → pread (pwrite card offset bytes) offset (length bytes) ≡ bytes
