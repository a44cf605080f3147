-- A line as it is kept and read: "a line of more than 4,096 bytes prints `bad`".
use Rattle.std.specs.Prelude.{◌≡◌, List, ℕ, min, length, take, get_or, leb, ltb, eqb}
use Rattle.layout.specs.Pick.{pick}
use Rattle.fields.specs.declared.{reader.Reader.Reader, reader.Front.Front}

-- what a reader keeps of the bytes so far: the first 4,096, and whether there were more
pub record Kept (r : Reader) (line bytes : List ℕ) : Type 0 where
  pub count : r.kept ≡ min 4096 (length bytes)
  pub longer : r.long ≡ ltb 4096 (length bytes)
  pub same : take r.kept line ≡ take 4096 bytes

-- what a line is read as, by what its bytes say: "a line of more than 4,096 bytes prints `bad`", and one that starts with `#` is passed over,
-- "however long"
unfoldable pub line_read : {A : Type 0} → (List ℕ → A) → A → A → List ℕ → A
line_read says comment bad bytes = pick (leb (length bytes) 4096) (says bytes) (pick (eqb (get_or bytes 0 0) 35) comment bad)

-- which of them it is
unfoldable pub front_of : List ℕ → Front
front_of bytes = line_read (λ text. Front.Text (length text)) Front.Comment Front.Bad bytes
