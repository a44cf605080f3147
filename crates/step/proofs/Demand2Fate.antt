-- What the rules make of a piece that is taken whole with its buffer back: with bytes left the next piece; after the last one a read's whole count, a
-- completed write or its flush, with the buffer turned back.
use mathlib.Core.Path.{◌≡◌, refl, sym, ap}
use mathlib.Core.Bool.{Bool, true, false, ◌||◌}
use mathlib.Core.Option.{none}
use mathlib.Core.List.{List}
use Prim.Native.Nat.{ℕ, ◌+◌, ◌≤◌, ◌<◌}
use native.Mathlib.Omega.{arith}
use borrow.Author.Tests.{eqb-true, eq-eqb, ltb-false, le-ltb}
use lib.Dec.{eqb}
use Rattle.layout.specs.Pick.{pick}
use Rattle.layout.proofs.Tests.{not_both, and_right, and_both}
use Rattle.iobuf.specs.Turn.{turned}
use Rattle.std.specs.declared.option.Option.{Option}
use Rattle.domain.specs.declared.FirstCause.{FirstCause}
use Rattle.platform.specs.declared.Answer.{Answer}
use Rattle.platform.specs.declared.Answer.TheVariants.{Count, Error, Refused, RefusedWith}
use Rattle.completion.specs.declared.Outcome.{Outcome}
use Rattle.completion.specs.declared.Outcome.TheVariants.{Written, Read as readTo}
use Rattle.std.specs.declared.option.Option.TheVariants.{Some as Back}
use Rattle.model.specs.declared.Opening.{Opening}
use Rattle.model.specs.declared.Kind.{Kind}
use Rattle.model.specs.declared.Kind.TheVariants.{Page, Read}
use Rattle.model.specs.declared.Split.{Split}
use Rattle.model.specs.declared.Awaits.TheVariants.{Piece, Flush}
use Rattle.model.specs.declared.Row.{Row}
use Rattle.model.specs.Opening.{Plan}
use Rattle.step.specs.Rules.{left_of, piece_length, Fate, Fate.awaits, Fate.ends, buffer_as, turned_back, is_written, read_outcome, read_length, ticket_of, written_as, last_piece, above_piece, first_refused, is_refusal, is_whole, goes_on, split_after, piece_answered}
use Rattle.step.specs.Demand2.{durably_to, written_to}
use Rattle.step.proofs.Picked.{by_pick}
use Rattle.step.proofs.Fates.{goes_on_left}
use Rattle.step.proofs.QuietRules.{piece_most}

-- a write's kind
unfoldable pub pages : Kind → Bool
pages (Page a b) = true
pages (Read a b) = false

-- what a write comes to whose last piece was taken whole, and no flush is asked for
pub record EndsAs (o : Opening) (g : Plan) (forced : Bool) (first : Option FirstCause) (flushes : ℕ) (r : Row) (k : Kind) (x : Outcome) : Type 0 where
  pub outcome : x ≡ written_to o first r.durable (ticket_of o g k flushes) none
  pub policy : r.durable ≡ true → o.flush || forced ≡ false

module _ (o : Opening) (g : Plan) (forced : Bool) (first : Option FirstCause) (flushes : ℕ) (r : Row) (k : Kind) (sp : Split) (n : ℕ) (bytes : List ℕ) (f : Fate) where
  pub data Whole : Type 0 where
    next_piece : sp.done + n < sp.total → f ≡ awaits (Piece k (split_after n sp)) (turned sp.total n bytes) → Whole
    its_flush : pages k ≡ true → r.durable ≡ true → sp.done + n ≡ sp.total → f ≡ awaits (Flush (ticket_of o g k flushes)) (turned sp.total (left_of sp) bytes) → Whole
    completes : sp.done + n ≡ sp.total → (x : Outcome) → (pages k ≡ false → x ≡ readTo sp.total) → (pages k ≡ true → EndsAs o g forced first flushes r k x) → f ≡ ends (record { outcome = x; buffer = Back (record { buffer = r.buffer; len = sp.total }); bytes = turned sp.total (left_of sp) bytes; cause = none }) → Whole

whole_count : (n : ℕ) (x : Answer) → is_whole n x ≡ true → x ≡ Count n
unfolding is_whole
whole_count n (Count m) e = ap Count (eqb-true m n e)
whole_count n (Error e media) w = absurd (not_both w refl)
whole_count n Refused w = absurd (not_both w refl)
whole_count n (RefusedWith e media) w = absurd (not_both w refl)

module _ (o : Opening) (g : Plan) (forced : Bool) (first : Option FirstCause) (r : Row) (sp : Split) (bytes : List ℕ) where
  -- the last piece
  last_whole : (k : Kind) (n flushed : ℕ) → sp.done + n ≡ sp.total → Whole o g forced first flushed r k sp n bytes (last_piece o g forced first r k sp bytes (Count n) true flushed)
  unfolding last_piece read_outcome read_length buffer_as turned_back is_written written_as durably_to written_to pages pick
  last_whole (Read a b) n flushed e = completes e (readTo (sp.done + n)) (λ z. ap readTo e) (λ z. absurd (not_both z refl)) (ap (λ (l : ℕ). ends (record { outcome = readTo (sp.done + n); buffer = Back (record { buffer = r.buffer; len = l }); bytes = turned sp.total (left_of sp) bytes; cause = none })) e)
  last_whole (Page a b) n flushed e =
      let t = ticket_of o g (Page a b) flushed in
      by_pick _ (Whole o g forced first flushed r (Page a b) sp n bytes)
      (λ w. by_pick r.durable (Whole o g forced first flushed r (Page a b) sp n bytes)
      (λ d. by_pick (o.flush || forced) (Whole o g forced first flushed r (Page a b) sp n bytes) (λ z. its_flush refl d e refl)
      (λ z. completes e _ (λ y. absurd (not_both refl y)) (λ y. record { outcome = ap (λ (b : Bool). pick b (durably_to o first t none) (Written t)) (sym d); policy = λ x. z }) refl))
      (λ d. completes e _ (λ y. absurd (not_both refl y)) (λ y. record { outcome = ap (λ (b : Bool). pick b (durably_to o first t none) (Written t)) (sym d); policy = λ x. absurd (not_both x d) }) refl))
      (λ w. absurd (not_both (and_both _ true (eq-eqb (sp.done + n) sp.total e) refl) w))

  count_whole : (k : Kind) (flushed : ℕ) → sp.done < sp.total → Whole o g forced first flushed r k sp (piece_length g k sp) bytes (piece_answered o g forced first r k sp (piece_length g k sp) bytes (Count (piece_length g k sp)) true flushed)
  unfolding piece_answered above_piece first_refused is_refusal goes_on is_whole
  count_whole k flushed left =
      let n = piece_length g k sp in
      by_pick _ (Whole o g forced first flushed r k sp n bytes) (λ above. absurd (not_both above (le-ltb n n (omega arith))))
      (λ above. by_pick _ (Whole o g forced first flushed r k sp n bytes) (λ refused. absurd (not_both (and_right (eqb sp.done 0) false refused) refl))
      (λ refused. by_pick (goes_on n sp (Count n) true) (Whole o g forced first flushed r k sp n bytes) (λ on. next_piece (goes_on_left n sp (Count n) true on) refl)
      (λ on. last_whole k n flushed (let most = piece_most g k sp in let all : sp.total ≤ sp.done + n = ltb-false (sp.done + n) sp.total (rw (eq-eqb n n refl) at on) in omega (arith, most, all, left)))))

  pub answer_whole : (k : Kind) (x : Answer) (back : Bool) (flushed : ℕ) → sp.done < sp.total → is_whole (piece_length g k sp) x ≡ true → back ≡ true
      → Whole o g forced first flushed r k sp (piece_length g k sp) bytes (piece_answered o g forced first r k sp (piece_length g k sp) bytes x back flushed)
  answer_whole k x back flushed left whole here = rw (whole_count _ x whole, here) (count_whole k flushed left)
