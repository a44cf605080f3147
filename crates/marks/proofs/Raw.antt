-- The raw error of a cause that the code has is a u32.
use mathlib.Core.List.{List}
use Prim.Native.Nat.{ℕ}
use mir.Val.{Val}
use denote.Laws.{Is}
use denote.Struct.Declared as struct
use Rattle.std.specs.declared.option.Option.{Option}
use Rattle.std.specs.declared.option.Option.TheVariants.{None, Some}
use Rattle.domain.specs.declared.Op.{Op}
use Rattle.domain.specs.declared.FirstCause.{FirstCause}
use Rattle.domain.specs.contracts.FirstCause as first
use Rattle.model.specs.Memory.{ErrorFits}

error_fits : (op : Op) (e : Option ℕ) (vs : List Val) → Is (struct.row first.the_type) (record { op = op; raw = e }) vs → ErrorFits e
unfolding ErrorFits
error_fits op None vs p = tt
error_fits op (Some n) vs p = p.1.1.1.0.1.1.1.1.0.1

pub cause_fits : (c : FirstCause) (vs : List Val) → Is (struct.row first.the_type) c vs → ErrorFits c.raw
cause_fits c vs p = error_fits c.op c.raw vs p
