-- A word by the codes of its characters, so that the words of TRACE.md are read as they are written.
use Rattle.std.specs.Prelude.{ℕ, List, [], ◌∷◌}
use Prim.Native.Char.{code}
use Prim.Native.String.{String, [] as none, ◌∷◌ as ◌then◌}

abbrev pub codes : String → List ℕ
codes none = []
codes (c then s) = code c ∷ codes s
