-- A submission with the queue's verdict on its first piece: by the event behind it, which in the domain of the comparison refuses just that piece, or none.
use mathlib.Core.Path.{◌≡◌, refl, sym, ap, ◌∙◌, subst}
use mathlib.Core.Bool.{Bool, true, false}
use mathlib.Core.List.{List, [], ◌∷◌}
use mathlib.Core.Option.{Option, none, some}
use Prim.Native.Nat.{ℕ}
use borrow.Author.Tests.{eqb-true}
use Rattle.layout.specs.Pick.{pick}
use Rattle.layout.proofs.Tests.{not_both}
use Rattle.regionmap.specs.declared.Offset.{Offset}
use Rattle.platform.specs.declared.Answer.{Answer}
use Rattle.platform.specs.declared.Answer.TheVariants.{Count, Error as Failed, Refused, RefusedWith}
use Rattle.completion.specs.declared.Reply.{Reply}
use Rattle.completion.specs.declared.Reply.TheVariants.{Piece as piece, No as turnedAway, Rejected, Done, Flush as flushAsked, Took, None as noneReady, Ok as isOk, Writes, Mark}
use Rattle.completion.specs.declared.Refusal.TheVariants.{Unfit}
use Rattle.completion.specs.Numbers.{number}
use Rattle.model.specs.declared.Lengths.{Lengths}
use Rattle.model.specs.declared.Call.{Call}
use Rattle.model.specs.declared.Call.TheVariants.{Write, ReadPage, Answer as Answers, Flushed as FlushedCall, Take, SetGate, SetReadOnly, SetForced, ReportPoison}
use Rattle.model.specs.State.{State}
use Rattle.step.specs.Rules.{is_refusal}
use Rattle.step.specs.Step.{eq_lengths, called, step}
use Rattle.step.specs.Run.{Made, Made.calls, Made.looks, Event, leave, done, next, reply_to}
use Rattle.step.proofs.AloneTags.{clash}
use Rattle.step.proofs.Histories.{done_stays}
use Rattle.step.specs.Alone.{tag_given}
use Rattle.step.specs.Lists.{HostMay}
use Rattle.rusttable.specs.Table.{Result, Result.Ok, Result.Err, IoBuf, RawError, RawResult, Submitter, Submitted, Submitted.Taken, Submitted.Refused as QueueRefuses, Issued}
use Rattle.rusttable.specs.Functions.{is_some, returned}
use Rattle.rusttable.specs.Domain.{compared, is_tag, at_once, InDomain}
use Rattle.rusttable.specs.AsStep.{in_flight, answer_of, refusal_of, Submits}
use Rattle.rusttable.specs.Histories.{as_rust, refusal, refused_by, verdict_as, verdict, comes_to, MadeIn, HistoryIn}
use Rattle.rusttable.proofs.Within.{called_step}

-- ---- what is read back

pub answer_is : (a : Answer) (result : RawResult) → as_rust a ≡ Ok result → a ≡ answer_of result
unfolding as_rust answer_of
answer_is (Count n) (Ok m) q = cc
answer_is (Count n) (Err e) q = clash (cc)
answer_is (Failed x media) (Ok m) q = clash (cc)
answer_is (Failed x media) (Err e) q = let z : record { raw = x; media = media } ≡ e = cc in (λ j. Failed (z j).raw (z j).media)
answer_is Refused result q = clash (cc)
answer_is (RefusedWith x media) result q = clash (cc)

pub refusal_is : (a : Answer) (raw : Option RawError) → as_rust a ≡ Err raw → a ≡ refusal_of raw
unfolding as_rust refusal_of
refusal_is (Count n) raw q = clash (cc)
refusal_is (Failed x media) raw q = clash (cc)
refusal_is Refused none q = refl
refusal_is Refused (some e) q = clash (cc)
refusal_is (RefusedWith x media) none q = clash (cc)
refusal_is (RefusedWith x media) (some e) q = let z : record { raw = x; media = media } ≡ e = cc in (λ j. RefusedWith (z j).raw (z j).media)

-- an event that refuses a piece, where the host left a state
pub record Refuses (s : State) (m : Made) (raw : Option RawError) (buf : Option IoBuf) : Type 0 where
  pub t : ℕ
  pub back : Bool
  pub flushes : ℕ
  pub is : m ≡ calls (Answers t (refusal_of raw) back flushes)
  pub gives : returned back (in_flight s t) ≡ buf

refuses : (s : State) (m : Made) (raw : Option RawError) (buf : Option IoBuf) → refused_by s m ≡ some (raw, buf) → Refuses s m raw buf
unfolding refused_by refusal
refuses s (calls (Write q)) raw buf e = clash (cc)
refuses s (calls (ReadPage q)) raw buf e = clash (cc)
refuses s (calls (Answers t a back flushes)) raw buf e = by_answer (as_rust a) refl e
  where
    by_answer : (r : Result RawResult (Option RawError)) → as_rust a ≡ r → refusal s t back r ≡ some (raw, buf) → Refuses s (calls (Answers t a back flushes)) raw buf
    by_answer (Ok result) q z = clash (cc)
    by_answer (Err found) q z =
        let both : ◌≡◌ {A = Option RawError × Option IoBuf} (found, returned back (in_flight s t)) (raw, buf) = cc in
        record {
          t = t;
          back = back;
          flushes = flushes;
          is = (λ j. calls (Answers t ((refusal_is a found q ∙ ap (λ (y : Option RawError × Option IoBuf). refusal_of y.0) both) j) back flushes));
          gives = ap (λ (y : Option RawError × Option IoBuf). y.1) both;
        }
refuses s (calls (FlushedCall t result)) raw buf e = clash (cc)
refuses s (calls Take) raw buf e = clash (cc)
refuses s (calls (SetGate h x)) raw buf e = clash (cc)
refuses s (calls (SetReadOnly h x)) raw buf e = clash (cc)
refuses s (calls (SetForced h x)) raw buf e = clash (cc)
refuses s (calls (ReportPoison cause)) raw buf e = clash (cc)
refuses s (looks x) raw buf e = clash (cc)

-- a refusal in the domain is of the piece that the reply before issued
pub tag_issued : (before : Option ℕ) (t : ℕ) (raw : Option RawError) (back : Bool) (flushes : ℕ) → at_once before (Answers t (refusal_of raw) back flushes) ≡ true → before ≡ some t
unfolding at_once is_refusal refusal_of is_tag pick
tag_issued none t none back flushes e = absurd (not_both e refl)
tag_issued none t (some x) back flushes e = absurd (not_both e refl)
tag_issued (some u) t none back flushes e = ap some (eqb-true u t e)
tag_issued (some u) t (some x) back flushes e = ap some (eqb-true u t e)

record IsPiece (x : Reply) (t : ℕ) : Type 0 where
  offset : Offset
  count : ℕ
  b : ℕ
  is : x ≡ piece t offset count b

is_piece : (x : Reply) (t : ℕ) → tag_given x ≡ some t → IsPiece x t
unfolding tag_given
is_piece (piece u offset count b) t e = let same : u ≡ t = cc in record { offset = offset; count = count; b = b; is = ap (λ (v : ℕ). piece v offset count b) same }
is_piece (turnedAway f) t e = clash (cc)
is_piece (Rejected range op raw buf) t e = clash (cc)
is_piece (Done u) t e = clash (cc)
is_piece (flushAsked u need) t e = clash (cc)
is_piece (Took c) t e = clash (cc)
is_piece noneReady t e = clash (cc)
is_piece isOk t e = clash (cc)
is_piece (Writes x) t e = clash (cc)
is_piece (Mark n) t e = clash (cc)

-- a call in the domain lends the opening's lengths
lent : (s : State) (l : Lengths) (c : Call) → compared (step s l c).1 ≡ true → eq_lengths l s.lengths ≡ true
unfolding step compared number pick
lent s l c = by_lengths (eq_lengths l s.lengths) refl
  where
    by_lengths : (b : Bool) → eq_lengths l s.lengths ≡ b → compared (pick b (called s c) (s, turnedAway Unfit)).1 ≡ true → b ≡ true
    by_lengths true q h = refl
    by_lengths false q h = absurd (not_both h refl)

-- ---- the verdict

module _ (s : State) (l : Lengths) (c : Call) (d : compared (step s l c).1 ≡ true) (w : Bool) (buf : IoBuf) (issued : ℕ) (rust : Submitted → Submitter × Issued) (taken : Submits issued w buf (rust Taken) (step s l c))
    (refused : (t : ℕ) (offset : Offset) (count b : ℕ) → (step s l c).1 ≡ piece t offset count b → (pool : List ℕ) → HostMay (step s l c).0 pool → (raw : Option RawError) (back : Bool) (flushes : ℕ)
    → InDomain (some t) (leave (step s l c).0 pool) l (Answers t (refusal_of raw) back flushes)
    → Submits issued w buf (rust (QueueRefuses raw (returned back (in_flight (leave (step s l c).0 pool) t)))) (step (leave (step s l c).0 pool) l (Answers t (refusal_of raw) back flushes))) where
  abbrev to : State
  to = (step s l c).0

  module _ (pool : List ℕ) (may : HostMay to pool) where
    abbrev left : State
    left = leave to pool

    -- the refusal lends the same lengths
    same_lent : (l₂ : Lengths) (x : Call) → compared (step left l₂ x).1 ≡ true → step left l x ≡ step left l₂ x
    unfolding step pick done leave
    same_lent l₂ x h =
        let same : eq_lengths l to.lengths ≡ true = ap (λ (k : Lengths). eq_lengths l k) (done_stays s l (calls c)).lengths ∙ lent s l c d in
        ap (λ (b : Bool). pick b (called left x) (left, turnedAway Unfit)) same ∙ sym (called_step left l₂ x h)

    refused_by_lem : (t : ℕ) (raw : Option RawError) (back : Bool) (flushes : ℕ) (l₂ : Lengths) → InDomain (tag_given (step s l c).1) left l₂ (Answers t (refusal_of raw) back flushes)
        → Submits issued w buf (rust (QueueRefuses raw (returned back (in_flight left t)))) (step left l₂ (Answers t (refusal_of raw) back flushes))
    refused_by_lem t raw back flushes l₂ h =
        let x = Answers t (refusal_of raw) back flushes in
        let q = tag_issued (tag_given (step s l c).1) t raw back flushes h.refusal in
        let p = is_piece (step s l c).1 t q in
        let same = same_lent l₂ x h.numbers in
        let in_it : InDomain (some t) left l x =
        record { numbers = ap (λ (z : State × Reply). compared z.1) same ∙ h.numbers; handle = h.handle; refusal = subst (λ (o : Option ℕ). at_once o x ≡ true) q h.refusal; maps = h.maps; blocks = h.blocks } in
        subst (Submits issued w buf (rust (QueueRefuses raw (returned back (in_flight left t))))) same (refused t p.offset p.count p.b p.is pool may raw back flushes in_it)

  pub submitted : (es : List Event) → HistoryIn (tag_given (step s l c).1) to es → Submits issued w buf (rust (verdict to es)) (comes_to (step s l c) es)
  unfolding verdict comes_to HistoryIn verdict_as is_some pick next reply_to done MadeIn
  submitted [] h = taken
  submitted (e ∷ es) h = by_refusal (refused_by (leave to e.leaves) e.made) refl
    where
      by_refusal : (v : Option (Option RawError × Option IoBuf)) → refused_by (leave to e.leaves) e.made ≡ v → Submits issued w buf (rust (verdict_as v)) (pick (is_some v) (next to e, reply_to to e) (step s l c))
      by_refusal none q = taken
      by_refusal (some v) q =
          let at = leave to e.leaves in
          let z = refuses at e.made v.0 v.1 q in
          subst (λ (b : Option IoBuf). Submits issued w buf (rust (QueueRefuses v.0 b)) (next to e, reply_to to e)) z.gives
          (subst (Submits issued w buf (rust (QueueRefuses v.0 (returned z.back (in_flight at z.t))))) (λ j. done at e.lengths (sym z.is j))
          (refused_by_lem e.leaves h.0 z.t v.0 z.back z.flushes e.lengths (subst (λ (m : Made). MadeIn (tag_given (step s l c).1) at e.lengths m) z.is h.1)))
