-- A line as it is written into a buffer that is lent.
use Rattle.std.specs.Prelude.{◌≡◌, List, ℕ, length, take}
use Rattle.printer.specs.declared.bytes.Line.{Line}

-- what is written
abbrev pub said : Line → List ℕ
said l = take l.len l.out.now

-- the buffer is the one that was lent, as long as it was
abbrev pub SameLine : Line → Line → Type 0
SameLine l l' = (l'.out.ghost_name ≡ l.out.ghost_name) × (length l'.out.now ≡ length l.out.now)
