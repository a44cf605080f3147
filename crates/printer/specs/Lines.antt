-- What replay prints of a taking: TRACE.md's section "Replies".
use Rattle.std.specs.Prelude.{true, List, [], ◌∷◌, ◌++◌, ℕ}
use Rattle.completion.specs.declared.Completion.{Completion}
use Rattle.printer.specs.Spaced.{spaced}
use Rattle.printer.specs.Parts.{took_word}
use Rattle.printer.specs.Tickets.{buffer_text}
use Rattle.printer.specs.Outcomes.{outcome_text}

-- `took TAG OUTCOME`, "then ` buffer B LENGTH` or ` lost`"
unfoldable pub took_text : Completion → List ℕ
took_text c = took_word ++ spaced c.tag ++ outcome_text true c.outcome ++ buffer_text c.buf ++ (10 ∷ [])
