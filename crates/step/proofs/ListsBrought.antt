-- An event that brings an answer or a flush result to the operation under a queue tag: what it does to the table and to the operations alone.
use mathlib.Core.Path.{◌≡◌, refl, ap, ◌∙◌, subst₂}
use mathlib.Core.Bool.{Bool, true, false}
use mathlib.Core.Option.{none, some}
use mathlib.Core.List.{List}
use Prim.Native.Nat.{ℕ}
use borrow.Author.Tests.{eqb-true, eq-eqb}
use lib.Dec.{eqb}
use Rattle.layout.specs.Pick.{pick}
use Rattle.completion.specs.declared.Refusal.TheVariants.{Unfit}
use Rattle.completion.specs.declared.Reply.{Reply}
use Rattle.completion.specs.declared.Reply.TheVariants.{No as turnedAway}
use Rattle.model.specs.declared.Lengths.{Lengths}
use Rattle.model.specs.declared.Call.{Call}
use Rattle.model.specs.declared.Call.TheVariants.{Write, ReadPage, Answer, Flushed, Take, SetGate, SetReadOnly, SetForced, ReportPoison}
use Rattle.model.specs.declared.Lookup.{Lookup}
use Rattle.model.specs.State.{State}
use Rattle.step.specs.Rules.{Input, Input.answered, Input.flushed}
use Rattle.step.specs.Step.{under_tag, called, eq_lengths, step}
use Rattle.step.specs.Run.{Made, Made.calls, Made.looks, done, Start}
use Rattle.step.specs.Lists.{brought_by, brought, tag_in}
use Rattle.step.specs.Alone.{Alones, feeds, heard_call, heard}
use Rattle.step.specs.Demand3.{listed_call, is_listed}
use Rattle.step.proofs.AloneTags.{clash}

-- a value that a test let through
pub let_through : {A : Type 0} (b : Bool) (y i : A) → pick b (some y) none ≡ some i → (b ≡ true) × (y ≡ i)
unfolding pick
let_through true y i e = (refl, cc)
let_through false y i e = clash (cc)

pub record Brings (m : Made) (t : ℕ) (i : Input) : Type 0 where
  pub tag : tag_in m ≡ t
  pub under : (u : ℕ) → brought u m ≡ pick (eqb t u) (some i) none
  pub called_is : (s : State) (l : Lengths) → done s l m ≡ pick (eq_lengths l s.lengths) (under_tag s t i) (s, turnedAway Unfit)
  pub heard_is : (x : Start) (a : Alones) (pool : List ℕ) (reply : Reply) → heard x.opening x.lengths a pool m reply ≡ feeds x.opening x.lengths a pool t i (a.ops t)

of_answer : (t : ℕ) (c : Call) (i : Input) → tag_in (calls c) ≡ t → ((u : ℕ) → brought_by u c ≡ pick (eqb t u) (some i) none) → ((s : State) → called s c ≡ under_tag s t i)
    → ((x : Start) (a : Alones) (pool : List ℕ) (reply : Reply) → heard_call x.opening x.lengths a pool c reply ≡ feeds x.opening x.lengths a pool t i (a.ops t))
    → (u : ℕ) (j : Input) → pick (eqb t u) (some i) none ≡ some j → Brings (calls c) u j
unfolding done step heard brought
of_answer t c i tag under call hear u j e =
    let z = let_through (eqb t u) i j e in
    subst₂ (Brings (calls c)) (eqb-true t u z.0) z.1
    (record { tag = tag; under = under; called_is = λ s l. ap (λ (y : State × Reply). pick (eq_lengths l s.lengths) y (s, turnedAway Unfit)) (call s); heard_is = hear })

pub brings : (m : Made) (t : ℕ) (i : Input) → brought t m ≡ some i → Brings m t i
unfolding brought brought_by tag_in called heard_call
brings (calls (Write q)) t i e = clash (cc)
brings (calls (ReadPage q)) t i e = clash (cc)
brings (calls (Answer u y back flushes)) t i e = of_answer u (Answer u y back flushes) (answered y back flushes) refl (λ v. refl) (λ s. refl) (λ x a pool reply. refl) t i e
brings (calls (Flushed u result)) t i e = of_answer u (Flushed u result) (flushed result) refl (λ v. refl) (λ s. refl) (λ x a pool reply. refl) t i e
brings (calls Take) t i e = clash (cc)
brings (calls (SetGate h y)) t i e = clash (cc)
brings (calls (SetReadOnly h y)) t i e = clash (cc)
brings (calls (SetForced h y)) t i e = clash (cc)
brings (calls (ReportPoison cause)) t i e = clash (cc)
brings (looks y) t i e = clash (cc)

-- the input comes to the operation under its tag
pub brought_there : (m : Made) (t : ℕ) (i : Input) → Brings m t i → brought t m ≡ some i
unfolding pick
brought_there m t i b = b.under t ∙ ap (λ (c : Bool). pick c (some i) none) (eq-eqb t t refl)

-- ---- what demand 3's lists may hold: "answers, flush results, takings and lookups"

pub data Listed (m : Made) : Type 0 where
  brings_to_lem : (t : ℕ) (i : Input) → Brings m t i → Listed m
  takes : m ≡ calls Take → Listed m
  looks_up : (y : Lookup) → m ≡ looks y → Listed m

pub listed_is : (m : Made) → is_listed m ≡ true → Listed m
unfolding is_listed listed_call brought brought_by pick
listed_is (calls (Write q)) e = clash (cc)
listed_is (calls (ReadPage q)) e = clash (cc)
listed_is (calls (Answer t y back flushes)) e = brings_to_lem t (answered y back flushes) (brings (calls (Answer t y back flushes)) t (answered y back flushes) (rw (eq-eqb t t refl)))
listed_is (calls (Flushed t result)) e = brings_to_lem t (flushed result) (brings (calls (Flushed t result)) t (flushed result) (rw (eq-eqb t t refl)))
listed_is (calls Take) e = takes refl
listed_is (calls (SetGate h y)) e = clash (cc)
listed_is (calls (SetReadOnly h y)) e = clash (cc)
listed_is (calls (SetForced h y)) e = clash (cc)
listed_is (calls (ReportPoison cause)) e = clash (cc)
listed_is (looks y) e = looks_up y refl
