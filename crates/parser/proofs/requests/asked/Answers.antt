-- `requests::asked` meets its contract, case by case.
use mathlib.Core.Path.{◌≡◌, refl, sym, ap, ◌∙◌}
use mathlib.Core.Bool.{Bool}
use Prim.Native.Nat.{ℕ}
use Rattle.model.specs.declared.Call as calls
use Rattle.parser.specs.declared.forms.Said.{Said}
use Rattle.parser.specs.declared.forms.Said.TheVariants.{Comment, Call as callSaid, Own, Count, Look, Len, Fill, Sum, Rows, Bad}
use Rattle.parser.specs.declared.requests.Named.{Named}
use Rattle.parser.specs.declared.requests.Asks.TheVariants.{Call, Other}
use Rattle.parser.specs.Asks.{submission_of, asks_of}
use Rattle.parser.proofs.requests.asked.Goals as goal

-- what the case that the match found asks for, the line asks for
as_said : (n : Named) (flushes : ℕ) {said found : Said} → said ≡ found → asks_of found n flushes ≡ asks_of said n flushes
as_said n flushes e = sym (ap (λ (x : Said). asks_of x n flushes) e)

-- what no call is
no_call : (said : Said) (n : Named) (flushes : ℕ) → (said ≡ Comment → ⊥) → ((c : calls.Call) → said ≡ callSaid c → ⊥)
    → ((w : Bool) (b p l : ℕ) (d : Bool) (t : ℕ) → said ≡ Own w b p l d t → ⊥) → ((t n : ℕ) → said ≡ Count t n → ⊥)
    → Other ≡ asks_of said n flushes
unfolding asks_of
no_call Comment n flushes comment call own count = absurd (comment refl)
no_call (callSaid c) n flushes comment call own count = absurd (call c refl)
no_call (Own w b p l d t) n flushes comment call own count = absurd (own w b p l d t refl)
no_call (Count t k) n flushes comment call own count = absurd (count t k refl)
no_call (Look x) n flushes comment call own count = refl
no_call Len n flushes comment call own count = refl
no_call (Fill b at length seed) n flushes comment call own count = refl
no_call (Sum b at length) n flushes comment call own count = refl
no_call Rows n flushes comment call own count = refl
no_call Bad n flushes comment call own count = refl

pub returns-in-Comment : goal.returns-in-Comment
unfolding asks_of
returns-in-Comment c = let a = c.args in as_said a.named a.flushes c.in-Comment.is

pub returns-in-Call : goal.returns-in-Call
unfolding asks_of
returns-in-Call c = let a = c.args in as_said a.named a.flushes c.in-Call.is

pub returns-in-Own : goal.returns-in-Own
unfolding asks_of
returns-in-Own c =
    let a = c.args in
    ap Call (c.submission.ensures ∙ ap (submission_of _) c.request.ensures) ∙ as_said a.named a.flushes c.in-Own.is

pub returns-in-Count : goal.returns-in-Count
unfolding asks_of
returns-in-Count c = let a = c.args in as_said a.named a.flushes c.in-Count.is

pub returns-in_default : goal.returns-in_default
returns-in_default c = let a = c.args in let d = c.in_default in no_call a.said a.named a.flushes d.not-Comment d.not-Call d.not-Own d.not-Count
