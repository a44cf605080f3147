-- What replay prints of a refusal: `no N`, "then the context, where there is one".
use Rattle.std.specs.Prelude.{List, [], ◌∷◌, ◌++◌, ℕ}
use Rattle.completion.specs.declared.Refusal.{Refusal}
use Rattle.completion.specs.Numbers.{number, values}
use Rattle.printer.specs.Spaced.{spaced}
use Rattle.printer.specs.Texts.{no_word}
use Rattle.printer.specs.Contexts.{context_text}

unfoldable pub no_text : Refusal → List ℕ
no_text f = no_word ++ spaced (number f) ++ context_text (values f) ++ (10 ∷ [])
