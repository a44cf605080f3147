-- What optrun prints of a taking: "of a taking `took TAG` with" its outcome.
use Rattle.std.specs.Prelude.{false, List, [], ◌∷◌, ◌++◌, ℕ}
use Rattle.completion.specs.declared.Completion.{Completion}
use Rattle.printer.specs.Spaced.{spaced}
use Rattle.printer.specs.Parts.{took_word}
use Rattle.printer.specs.Outcomes.{outcome_text}

unfoldable pub short_took : Completion → List ℕ
short_took c = took_word ++ spaced c.tag ++ outcome_text false c.outcome ++ (10 ∷ [])
