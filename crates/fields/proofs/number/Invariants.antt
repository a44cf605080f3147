-- `fields::number` meets its contract: the bytes before the index are digits and n is their value, so the number is what the bytes from there on
-- spell behind n.
use Rattle.std.proofs.Common.{◌≡◌, ◌<◌, ◌^◌, drop}
use Rattle.fields.specs.Fields.{number_in}
use Rattle.fields.proofs.Numbers.{number_behind}
use Rattle.fields.proofs.number.Given as goal

abbrev pub invariant-loop-c : goal.invariant-loop-c
invariant-loop-c l = record { fits : l.n < 2 ^ 64; number : number_in l.text ≡ number_behind l.n (drop l.c-index l.text) }
