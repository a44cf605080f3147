-- Under demand 3's suppositions, a write's pieces taken whole with their buffer back and no first piece refused, the rules reject no operation, and none gives
-- a cause for poison.
use mathlib.Core.Path.{◌≡◌, refl, ap}
use mathlib.Core.Bool.{Bool, true, false}
use mathlib.Core.Option.{none}
use mathlib.Core.List.{List}
use Prim.Native.Nat.{ℕ, ◌+◌, ◌≤◌, ◌<◌}
use native.Mathlib.Omega.{arith}
use borrow.Author.Tests.{eqb-true, eq-eqb, ltb-false}
use lib.Dec.{eqb}
use Rattle.layout.proofs.Tests.{not_both, and_left, and_right, and_both}
use Rattle.regionmap.specs.declared.Position.{Position}
use Rattle.regionmap.specs.Map.{piece_size}
use Rattle.std.specs.declared.option.Option.{Option}
use Rattle.domain.specs.declared.FirstCause.{FirstCause}
use Rattle.platform.specs.declared.Answer.{Answer}
use Rattle.platform.specs.declared.Answer.TheVariants.{Count, Error, Refused, RefusedWith}
use Rattle.platform.specs.declared.Flushed.{Flushed}
use Rattle.completion.specs.declared.WriteTicket.{WriteTicket}
use Rattle.completion.specs.Buffers.{Buffer}
use Rattle.model.specs.declared.Opening.{Opening}
use Rattle.model.specs.declared.Kind.{Kind}
use Rattle.model.specs.declared.Kind.TheVariants.{Page, Read}
use Rattle.model.specs.declared.Split.{Split}
use Rattle.model.specs.declared.Awaits.{Awaits}
use Rattle.model.specs.declared.Awaits.TheVariants.{Nothing, Piece, Flush}
use Rattle.model.specs.declared.Row.{Row}
use Rattle.model.specs.State.{State}
use Rattle.model.specs.Opening.{Plan}
use Rattle.step.specs.Rules.{left_of, piece_of, piece_length, Input, Input.answered, Input.flushed, Fate, Fate.away, Fate.awaits, Fate.ends, Fate.rejected, is_written, written_as, last_piece, is_refusal, first_refused, is_whole, goes_on, piece_answered, flush_ends, answer_rules, flush_rules, rules}
use Rattle.step.specs.Sound.{SplitFits}
use Rattle.step.specs.Lists.{plan_at}
use Rattle.step.specs.Demand3.{FairTo}
use Rattle.step.proofs.Picked.{by_pick}

-- ---- no rejection, and no cause for poison

unfoldable pub Calm : Fate → Type 0
Calm (away f) = Unit {0}
Calm (awaits a bytes) = Unit {0}
Calm (ends ending) = ending.cause ≡ none
Calm (rejected e b bytes) = ⊥

-- a whole count is the piece's
whole_count : (n : ℕ) (x : Answer) → is_whole n x ≡ true → x ≡ Count n
unfolding is_whole
whole_count n (Count m) e = ap Count (eqb-true m n e)
whole_count n (Error e media) w = absurd (not_both w refl)
whole_count n Refused w = absurd (not_both w refl)
whole_count n (RefusedWith e media) w = absurd (not_both w refl)

pub piece_most : (g : Plan) (k : Kind) (s : Split) → piece_length g k s ≤ left_of s
unfolding piece_length piece_of piece_size
piece_most g k s = omega arith

module _ (o : Opening) (s : State) (forced : Bool) (first : Option FirstCause) (r : Row) (bytes : List ℕ) where
  abbrev g : Plan
  g = plan_at s r

  calm_written : (t : WriteTicket) (b : Buffer) (bytes' : List ℕ) → Calm (written_as o forced first r.durable t b bytes')
  unfolding written_as Calm
  calm_written t b bytes' = by_pick _ Calm (λ d. by_pick _ Calm (λ f. tt) (λ f. refl)) (λ d. refl)

  -- the end of a write's piece that is taken whole, with its buffer back
  calm_end : (a b : Position) (sp : Split) (n flushes : ℕ) → n ≤ left_of sp → sp.done < sp.total → goes_on n sp (Count n) true ≡ false
      → Calm (last_piece o g forced first r (Page a b) sp bytes (Count n) true flushes)
  unfolding last_piece Calm goes_on is_whole is_written
  calm_end a b sp n flushes most left e =
      let all : sp.total ≤ sp.done + n = ltb-false (sp.done + n) sp.total (rw (eq-eqb n n refl) at e) in
      by_pick _ Calm (λ w. calm_written _ _ _) (λ w. absurd (not_both (and_both _ true (eq-eqb (sp.done + n) sp.total (omega arith)) refl) w))

  calm_page : (a b : Position) (sp : Split) (flushes : ℕ) → sp.done < sp.total
      → Calm (piece_answered o g forced first r (Page a b) sp (piece_length g (Page a b) sp) bytes (Count (piece_length g (Page a b) sp)) true flushes)
  unfolding piece_answered Calm first_refused is_refusal
  calm_page a b sp flushes left =
      by_pick _ Calm (λ e. tt)
      (λ e. by_pick _ Calm (λ f. absurd (not_both (and_right (eqb sp.done 0) false f) refl))
      (λ f. by_pick _ Calm (λ w. tt) (λ w. calm_end a b sp (piece_length g (Page a b) sp) flushes (piece_most g (Page a b) sp) left w)))

  calm_read : (a b : Position) (sp : Split) (n : ℕ) (x : Answer) (back : Bool) (flushes : ℕ) → (sp.done ≡ 0 → is_refusal x ≡ false)
      → Calm (piece_answered o g forced first r (Read a b) sp n bytes x back flushes)
  unfolding piece_answered last_piece Calm first_refused
  calm_read a b sp n x back flushes fair =
      by_pick _ Calm (λ e. tt)
      (λ e. by_pick _ Calm (λ f. absurd (not_both (and_right (eqb sp.done 0) (is_refusal x) f) (fair (eqb-true _ _ (and_left (eqb sp.done 0) (is_refusal x) f)))))
      (λ f. by_pick _ Calm (λ w. tt) (λ w. refl)))

  calm_answer : (x : Answer) (back : Bool) (flushes : ℕ) (a : Awaits) → SplitFits a → FairTo s r a (answered x back flushes) → Calm (answer_rules o g forced first r bytes x back flushes a)
  unfolding answer_rules SplitFits FairTo Calm
  calm_answer x back flushes Nothing fits fair = tt
  calm_answer x back flushes (Piece (Page a b) sp) fits fair =
      let e : x ≡ Count (piece_length g (Page a b) sp) = whole_count _ x fair.0 in
      rw (e, fair.1) (calm_page a b sp flushes fits.1)
  calm_answer x back flushes (Piece (Read a b) sp) fits fair = calm_read a b sp _ x back flushes fair
  calm_answer x back flushes (Flush t) fits fair = tt

  calm_flush : (result : Flushed) (a : Awaits) → Calm (flush_rules o r bytes result a)
  unfolding flush_rules flush_ends Calm
  calm_flush result Nothing = tt
  calm_flush result (Piece k sp) = tt
  calm_flush result (Flush t) = refl

  pub calm : (i : Input) → SplitFits r.awaits → FairTo s r r.awaits i → Calm (rules o g forced first r bytes i)
  unfolding rules
  calm (answered x back flushes) fits fair = calm_answer x back flushes r.awaits fits fair
  calm (flushed result) fits fair = calm_flush result r.awaits
