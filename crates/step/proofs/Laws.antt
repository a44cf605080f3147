-- The laws of every step. Each call keeps a sound table: of a submission that is not turned away every question was answered yes, and its state is the
-- accepted one (Accepted); an answer or a flush result settles its row (Settled), a taking gives a buffer back (TakenOut), and of a setting or a report
-- soundness does not speak (Marked). The pieces issued are the map's, by induction on their number.
use mathlib.Core.Path.{◌≡◌, refl, ap}
use mathlib.Core.Bool.{Bool, false}
use mathlib.Core.List.{map}
use Prim.Native.Nat.{ℕ, zero, suc, ◌+◌, ◌-◌}
use native.Mathlib.Nat.{add-zero, sub-zero}
use native.Mathlib.Omega.{arith}
use borrow.Author.Tests.{lt-ltb, le-ltb}
use lib.Dec.{ltb}
use lib.ListN.{set}
use lib.Seq.{map-set_same}
use Rattle.layout.specs.Pick.{pick}
use Rattle.regionmap.specs.Map.{Map, piece_size, pieces_up_to, pieces}
use Rattle.domain.specs.Domain.{first_kept}
use Rattle.completion.specs.declared.Refusal.TheVariants.{Unfit}
use Rattle.completion.specs.declared.Reply.{Reply}
use Rattle.completion.specs.declared.Reply.TheVariants.{No as turnedAway}
use Rattle.model.specs.declared.Lengths.{Lengths}
use Rattle.model.specs.declared.Kind.{Kind}
use Rattle.model.specs.declared.Kind.TheVariants.{Page, Read}
use Rattle.model.specs.declared.Split.{Split}
use Rattle.model.specs.declared.Request.{Request}
use Rattle.std.specs.declared.result.Result.TheVariants.{Ok, Err}
use Rattle.model.specs.declared.Call.{Call}
use Rattle.model.specs.declared.Call.TheVariants.{Write, ReadPage, Answer, Flushed, Take, SetGate, SetReadOnly, SetForced, ReportPoison}
use Rattle.model.specs.declared.Lookup.{Lookup}
use Rattle.model.specs.State.{Region, no_region, State}
use Rattle.model.specs.Opening.{opened}
use Rattle.step.specs.Questions.{byte_at, region_at, Asked}
use Rattle.step.specs.Rules.{left_of, piece_of, Input.answered, Input.flushed, range_start, range_end}
use Rattle.step.specs.Step.{start_of, end_of, begun, verdict_of, write_verdict, read_verdict, submitted, plan_of, with_regions, with_poison, marked, with_gate, with_read_only, with_forced}
use Rattle.step.specs.Step.{looked_up, eq_lengths, called, step, look}
use Rattle.step.specs.Sound.{SplitFits, Sound}
use Rattle.step.specs.Laws.{on_card, stepped, issued_up_to, StepLaws}
use Rattle.step.proofs.Picked.{by_pick}
use Rattle.step.proofs.Numbers.{write_numbers_lem, read_numbers_lem}
use Rattle.step.proofs.Histories.{leaves, histories}
use Rattle.step.proofs.Transfers.{one_write, one_read}
use Rattle.step.proofs.Answers.{Passed, write_passed, read_passed}
use Rattle.step.proofs.Marked.{keeps_besides}
use Rattle.step.proofs.Accepted.{Covers, keeps_accepted}
use Rattle.step.proofs.Settled.{keeps_under}
use Rattle.step.proofs.TakenOut.{keeps_taken}
use Rattle.step.proofs.Away.{turned_away}
use Rattle.step.proofs.Opened.{opened_sound}
use Rattle.step.proofs.Poisoned.{first_kept_lem}

-- ---- a sound table stays sound

-- a submission of a kind that says its range, by the questions' answer
keeps_submitted : (s : State) (q : Request) (k : Kind) → Sound s → (a : Asked) → (a ≡ Ok tt → Passed s q) → (Passed s q → Covers k q) → Sound (submitted s q (verdict_of a s k q)).0
unfolding submitted verdict_of
keeps_submitted s q k i (Err f) passes covers = i
keeps_submitted s q k i (Ok _) passes covers = keeps_accepted s i q (passes refl) k (covers (passes refl))

-- a setting, of a region that is otherwise as it was
keeps_marked : (s : State) (h : ℕ) (g : Region) → Sound s → plan_of g ≡ plan_of (region_at s h) → Sound (marked s h g).0
unfolding marked with_regions region_at
keeps_marked s h g i e =
    by_pick (ltb h s.settings.regions) (λ (z : State × Reply). Sound z.0)
    (λ known. keeps_besides s (set s.regions h g) s.poison s.pool i (map-set_same plan_of s.regions h g no_region e) refl)
    (λ unknown. i)

keeps_called : (s : State) (c : Call) → Sound s → Sound (called s c).0
unfolding called write_verdict read_verdict range_start range_end SplitFits with_poison with_gate with_read_only with_forced plan_of
keeps_called s (Write q) i = keeps_submitted s q (Page (start_of q) (end_of q)) i _ (write_passed s q) (λ p. record { start = refl; end = refl; split = (refl, p.some) })
keeps_called s (ReadPage q) i = keeps_submitted s q (Read (start_of q) (end_of q)) i _ (read_passed s q) (λ p. record { start = refl; end = refl; split = (refl, p.some) })
keeps_called s (Answer t a back flushes) i = keeps_under s i t (answered a back flushes)
keeps_called s (Flushed t result) i = keeps_under s i t (flushed result)
keeps_called s Take i = keeps_taken s i s.ready refl
keeps_called s (SetGate h x) i = keeps_marked s h (with_gate (region_at s h) x) i refl
keeps_called s (SetReadOnly h x) i = keeps_marked s h (with_read_only (region_at s h) x) i refl
keeps_called s (SetForced h x) i = keeps_marked s h (with_forced (region_at s h) x) i refl
keeps_called s (ReportPoison cause) i = keeps_besides s s.regions (first_kept s.poison cause) s.pool i refl refl

pub keeps : (s : State) (l : Lengths) (c : Call) → Sound s → Sound (step s l c).0
unfolding step
keeps s l c i = by_pick (eq_lengths l s.lengths) (λ (z : State × Reply). Sound z.0) (λ same. keeps_called s c i) (λ other. i)

-- ---- the pieces

issued_from : (n : ℕ) (m : Map) (start : ℕ) (s : Split) → issued_up_to n m start s ≡ map (on_card m) (pieces_up_to n m (byte_at start s.done) (left_of s))
unfolding issued_up_to pieces_up_to piece_of pick
issued_from zero m start s = refl
issued_from (suc n) m start s = by_left (left_of s) refl (issued_from n m start (stepped m start s))
  where
    by_left : (left : ℕ) → left_of s ≡ left → issued_up_to n m start (stepped m start s) ≡ map (on_card m) (pieces_up_to n m (start + (stepped m start s).done) (s.total - (stepped m start s).done))
        → issued_up_to (suc n) m start s ≡ map (on_card m) (pieces_up_to (suc n) m (byte_at start s.done) left)
    by_left zero e behind = rw (le-ltb s.done s.total (omega arith))
    by_left (suc left) e behind =
        let count = piece_size m (byte_at start s.done) (left_of s) in
        let next : start + (s.done + count) ≡ byte_at start s.done + count = omega arith in
        let less : s.total - (s.done + count) ≡ left_of s - count = omega arith in
        rw (lt-ltb s.done s.total (omega arith), behind, next, less, e)

another_length : (s : State) (l : Lengths) (c : Call) → eq_lengths l s.lengths ≡ false → (step s l c).1 ≡ turnedAway Unfit
unfolding step pick
another_length s l c e = ap (λ (t : Bool). (pick t (called s c) (s, turnedAway Unfit)).1) e

another_length_looked : (s : State) (l : Lengths) (x : Lookup) → eq_lengths l s.lengths ≡ false → look s l x ≡ turnedAway Unfit
unfolding look pick
another_length_looked s l x e = ap (λ (t : Bool). pick t (looked_up s x) (turnedAway Unfit)) e

pub step_laws : StepLaws
unfolding pieces opened
step_laws = record {
  opening = opened_sound;
  keeps = keeps;
  leaves = leaves;
  history = λ o plan l pool ok e es p. histories keeps _ (opened_sound o plan l pool ok e) l.pool refl es p;
  turned_away = turned_away;
  another_length = another_length;
  another_length_looked = another_length_looked;
  first_kept_lem = λ s l c first is. first_kept_lem s first is l c;
  write_numbers_lem = write_numbers_lem;
  read_numbers_lem = read_numbers_lem;
  issued = λ m start total. rw (add-zero, sub-zero) at (issued_from total m start (begun total));
  write = λ s q i e x len. one_write s q i (write_passed s q e) x len;
  read = λ s q i e x len. one_read s q i (read_passed s q e) x len;
}
