-- `rows`: "generations and free stack", "top of the stack first".
use Rattle.std.specs.Prelude.{List, map, ℕ, take, drop}
use Rattle.model.specs.declared.Row.{Row}
use Rattle.printer.specs.Rows.{rows_text}

-- the generation of a row
abbrev pub generation_of : Row → ℕ
generation_of r = r.generation

-- of a table of this depth, with so many live rows
unfoldable pub listed_text : ℕ → ℕ → List Row → List ℕ → List ℕ
listed_text depth live rows free = rows_text (map generation_of (take depth rows)) (drop live (take depth free))
