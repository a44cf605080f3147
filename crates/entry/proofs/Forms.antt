-- What is asked for in numbers is what the form that they name asks for.
use mathlib.Core.Path.{◌≡◌, sym, subst}
use mathlib.Core.Option.{Option}
use mathlib.Core.List.{List}
use Prim.Native.Nat.{ℕ}
use Rattle.model.specs.declared.Call.{Call}
use Rattle.entry.specs.Entry.{Parts, AnswersOut}

pub by_form : {F : Type 0} (asks : F → Option Call) (named form : F) → named ≡ form → (call : Option Call) → asks named ≡ call → (p p' : Parts) (out : List ℕ) → AnswersOut call p p' out → AnswersOut (asks form) p p' out
by_form asks named form e call is p p' out o =
    subst (λ f. AnswersOut (asks f) p p' out) e (subst (λ x. AnswersOut x p p' out) (sym is) o)
