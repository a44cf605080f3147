-- For the code: the lengths of what is lent, and what is lent as a lookup finds it.
use Rattle.std.specs.Prelude.{List, ℕ, length}
use Rattle.std.specs.declared.option.Option.{Option}
use Rattle.layout.specs.Pick.{pick}
use Rattle.model.specs.declared.Lengths.{Lengths}
use Rattle.model.specs.Memory.{same_lengths, settings_in}

-- with so many rows, and a pool of so many bytes
abbrev pub lengths_with : ℕ → List ℕ → List ℕ → List ℕ → List ℕ → ℕ → Lengths
lengths_with rows store free ready owners pool =
    record { rows = rows; store = length store; free = length free; ready = length ready; owners = length owners; pool = pool }

-- the depth of the table where the lengths are the opening's
abbrev pub fit_of : Lengths → List ℕ → Option ℕ
fit_of l s = pick (same_lengths l s) (Option.Some (settings_in s).depth) Option.None
