-- `fields::field_start` meets its contract: the k-th field of the line is the field that is still `left` spaces away of what stands from i on.
use Rattle.std.proofs.Common.{◌≡◌, drop}
use Rattle.fields.specs.Fields.{field}
use Rattle.fields.proofs.field_start.Given as goal

abbrev pub invariant-loop-i : goal.invariant-loop-i
invariant-loop-i l = field l.k l.text ≡ field l.left (drop l.i l.text)
