-- `touched::place` meets its contract, case by case.
use Rattle.std.proofs.Common.{Bool, ◌≡◌, ℕ, List, sym, refl, ap, ◌∙◌}
use Rattle.model.specs.declared.Call.{Call}
use Rattle.model.specs.declared.Request.{Request}
use Rattle.platform.specs.declared.Answer
use Rattle.platform.specs.declared.Flushed
use Rattle.model.specs.declared.Counts.{Counts}
use Rattle.optable.specs.Called.{place_of}
use Rattle.optable.proofs.touched.place.Goals as goal

-- the place of the case that the match found is that of the call
as-told : (c : Counts) (free : List ℕ) {call found : Call} → call ≡ found → place_of found c free ≡ place_of call c free
as-told c free e = sym (ap (λ (x : Call). place_of x c free) e)

-- none of the calls behind the first four touches a row
untouched : (call : Call) (c : Counts) (free : List ℕ) → ((q : Request) → call ≡ Call.Write q → ⊥) → ((q : Request) → call ≡ Call.ReadPage q → ⊥)
    → ((t : ℕ) → (x : Answer.Answer) → (back : Bool) → (n : ℕ) → call ≡ Call.Answer t x back n → ⊥)
    → ((t : ℕ) → (x : Flushed.Flushed) → call ≡ Call.Flushed t x → ⊥) → 0 ≡ place_of call c free
unfolding place_of
untouched (Call.Write q) c free w r a f = absurd (w q refl)
untouched (Call.ReadPage q) c free w r a f = absurd (r q refl)
untouched (Call.Answer t answer back flushes) c free w r a f = absurd (a t answer back flushes refl)
untouched (Call.Flushed t result) c free w r a f = absurd (f t result refl)
untouched Call.Take c free w r a f = refl
untouched (Call.SetGate h x) c free w r a f = refl
untouched (Call.SetReadOnly h x) c free w r a f = refl
untouched (Call.SetForced h x) c free w r a f = refl
untouched (Call.ReportPoison cause) c free w r a f = refl

pub returns-in-Write : goal.returns-in-Write
unfolding place_of
returns-in-Write c =
    let a = c.args in
    c.top.ensures ∙ as-told a.counts a.free.now c.in-Write.is

pub returns-in-ReadPage : goal.returns-in-ReadPage
unfolding place_of
returns-in-ReadPage c =
    let a = c.args in
    c.top-in-ReadPage.ensures ∙ as-told a.counts a.free.now c.in-ReadPage.is

pub returns-in-Answer : goal.returns-in-Answer
unfolding place_of
returns-in-Answer c =
    let a = c.args in
    c.row_of.ensures ∙ as-told a.counts a.free.now c.in-Answer.is

pub returns-in-Flushed : goal.returns-in-Flushed
unfolding place_of
returns-in-Flushed c =
    let a = c.args in
    c.row_of-in-Flushed.ensures ∙ as-told a.counts a.free.now c.in-Flushed.is

pub returns-in_default : goal.returns-in_default
returns-in_default c =
    let d = c.in_default in
    untouched c.args.call c.args.counts c.args.free.now d.not-Write d.not-ReadPage d.not-Answer d.not-Flushed
