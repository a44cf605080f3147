-- How each kind of line is answered: by what the line asks for, the definition computes.
use mathlib.Core.Path.{◌≡◌, refl, sym, subst}
use mathlib.Core.List.{List, []}
use Prim.Native.Nat.{ℕ}
use Rattle.model.specs.declared.Counts.{Counts}
use Rattle.model.specs.declared.Call.{Call}
use Rattle.model.specs.Memory.{Lent}
use Rattle.parser.specs.declared.requests.Asks.{Asks}
use Rattle.parser.specs.declared.requests.Asks.TheVariants.{Nothing, Call as calls, Other}
use Rattle.printer.specs.Texts.{bad_text}
use Rattle.runner.specs.Runner.{Ran, Answers}

module _ (asks : Asks) (n : ℕ) (c : Counts) (l : Lent) where
  pub passed_over : asks ≡ Nothing → Answers asks n c l c l []
  unfolding Answers
  passed_over e = subst (λ (x : Asks). Answers x n c l c l []) (sym e) (record { counts = refl; lent = refl; prints = refl })

  pub is_bad : asks ≡ Other → (text : List ℕ) → text ≡ bad_text n → Answers asks n c l c l text
  unfolding Answers
  is_bad e text p = subst (λ (x : Asks). Answers x n c l c l text) (sym e) (record { counts = refl; lent = refl; prints = p })

  pub is_call : (call : Call) → asks ≡ calls call → (c' : Counts) (l' : Lent) (text : List ℕ) → Ran call c l c' l' text → Answers asks n c l c' l' text
  unfolding Answers
  is_call call e c' l' text r = subst (λ (x : Asks). Answers x n c l c' l' text) (sym e) r
