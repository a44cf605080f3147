-- `values::raw_in` meets its contract: each way out knows whether there is a number below 2^32.
use mathlib.Core.Path.{◌≡◌, sym, ◌∙◌}
use mathlib.Core.Bool.{true}
use mathlib.Core.List.{List}
use Prim.Native.Nat.{ℕ, ◌^◌, ◌<◌}
use Rattle.fields.specs.Fields.{field, is_number, num}
use native.Mathlib.Omega.{arith}
use borrow.Author.Tests.{ltb-true}
use Rattle.layout.proofs.Tests.{and_right}
use Rattle.parser.specs.Values.{is_raw}
use Rattle.parser.proofs.values.raw_in.Goals as goal

below : (k : ℕ) (cs : List ℕ) → is_raw k cs ≡ true → num k cs < 2 ^ 32
unfolding is_raw
below k cs t = ltb-true (num k cs) (2 ^ 32) (and_right (is_number (field k cs)) _ t)

pub overflow_cast-result : goal.overflow_cast-result
overflow_cast-result c = omega (arith, c.value_in.ensures, below c.args.k c.args.text.now (sym c.is_raw.ensures ∙ c.if-not-is_raw.false))
