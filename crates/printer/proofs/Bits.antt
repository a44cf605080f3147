-- A flag that is set counts one.
use mathlib.Core.Path.{◌≡◌}
use mathlib.Core.Bool.{Bool, true}
use Rattle.layout.specs.Pick.{pick}
use Rattle.printer.specs.Parts.{bit}

pub bit_set : {b : Bool} → b ≡ true → bit b ≡ 1
unfolding bit pick
bit_set t = rw t
