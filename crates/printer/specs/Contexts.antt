-- What replay prints of what a refusal tells besides its number: TRACE.md's section "Replies".
use Rattle.std.specs.Prelude.{List, [], ◌∷◌, ◌++◌, ℕ}
use Rattle.completion.specs.Numbers.{Values, nothing, region, range, cause}
use Rattle.fields.specs.Codes.{codes}
use Rattle.printer.specs.Parts.{fields_of, cause_text}

-- ` region`, ` cause`
abbrev pub region_word : List ℕ
region_word = codes " region"

abbrev pub cause_word : List ℕ
cause_word = codes " cause"

-- "then the context, where there is one: ` region ID`, ` region ID START END`, ` cause OP ERR`"
unfoldable pub context_text : Values → List ℕ
context_text nothing = []
context_text (region id) = fields_of region_word (id ∷ [])
context_text (range id start end) = fields_of region_word (id ∷ start.0 ∷ end.0 ∷ [])
context_text (cause c) = cause_word ++ cause_text c
