-- What a refusal tells besides its number: a context or a cause, as values.
use Rattle.completion.specs.Numbers.{Values, cause, context_values}
use Rattle.completion.specs.declared.refusals.Told.{Told}

unfoldable pub told_values : Told → Values
told_values (Told.Context c) = context_values c
told_values (Told.Cause f) = cause f
