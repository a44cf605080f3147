-- What a line asks for: the definition computes.
use mathlib.Core.Path.{◌≡◌, refl, sym, subst}
use mathlib.Core.Bool.{Bool}
use mathlib.Core.List.{List, []}
use Prim.Native.Nat.{ℕ}
use lib.ListN.{take}
use Rattle.model.specs.declared.Counts.{Counts}
use Rattle.model.specs.declared.Row.{Row}
use Rattle.platform.specs.declared.Answer as Answered
use Rattle.model.specs.declared.Call.{Call}
use Rattle.model.specs.declared.Call.TheVariants.{Write, ReadPage, Answer, Flushed, Take, SetGate, SetReadOnly, SetForced, ReportPoison}
use Rattle.optable.specs.Called.{lent_of}
use Rattle.parser.specs.declared.requests.Asks.{Asks}
use Rattle.parser.specs.declared.requests.Asks.TheVariants.{Nothing, Call as calls, Other}
use Rattle.printer.specs.Texts.{bad_text}
use Rattle.session.specs.Asking.{Held, held_of, given_by, Ran, Asked}

-- of the calls only an answer gives a flush count
pub none_given : (c : Call) (n : ℕ) → ((t : ℕ) (a : Answered.Answer) (back : Bool) (flushes : ℕ) → c ≡ Answer t a back flushes → ⊥) → n ≡ given_by c n
unfolding given_by
none_given (Write q) n w = refl
none_given (ReadPage q) n w = refl
none_given (Answer t a back flushes) n w = absurd (w t a back flushes refl)
none_given (Flushed t f) n w = refl
none_given Take n w = refl
none_given (SetGate h g) n w = refl
none_given (SetReadOnly h b) n w = refl
none_given (SetForced h b) n w = refl
none_given (ReportPoison e) n w = refl

-- nothing is asked for, a call, or what no call is
module _ (number : ℕ) (h : Held) (asks : Asks) where
  pub nothing_asked : asks ≡ Nothing → Asked asks number h h []
  unfolding Asked
  nothing_asked e = subst (λ (x : Asks). Asked x number h h []) (sym e) (record { held = refl; prints = refl })

  pub other_asked : asks ≡ Other → (text : List ℕ) → text ≡ bad_text number → Asked asks number h h text
  unfolding Asked
  other_asked e text p = subst (λ (x : Asks). Asked x number h h text) (sym e) (record { held = refl; prints = p })

  pub call_asked : (c : Call) → asks ≡ calls c → (h' : Held) (text : List ℕ) → Ran c h h' text → Asked asks number h h' text
  unfolding Asked
  call_asked c e h' text r = subst (λ (x : Asks). Asked x number h h' text) (sym e) r
