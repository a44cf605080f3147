-- What the proofs of this crate share: a piece with bytes left behind it, a count that fits, and the rules of a row by what it awaits.
use Rattle.std.proofs.Common.{◌≡◌, ℕ, ◌+◌, ◌-◌, ◌^◌, ◌<◌, Bool, true, false, eqb, ltb, sym, refl, ap, ◌∙◌, subst, ⊎_elim, arith, ltb-false, ltb-true, le-ltb, lt-ltb}
use mathlib.Core.Bool.{and-false}
use Rattle.layout.proofs.Tests.{true_or_false}
use Rattle.regionmap.specs.Map.{Map}
use Rattle.iobuf.proofs.Laws.{turned_none}
use Rattle.std.specs.declared.option.Option.{Option}
use Rattle.std.specs.declared.option.Option.TheVariants.{None}
use Rattle.domain.specs.declared.FirstCause.{FirstCause}
use Rattle.platform.specs.declared.Answer.{Answer}
use Rattle.platform.specs.declared.Answer.TheVariants.{Count, Error, Refused, RefusedWith}
use Rattle.platform.specs.declared.Flushed.{Flushed}
use Rattle.completion.specs.declared.Refusal.TheVariants.{NotAwaited}
use Rattle.completion.specs.declared.WriteTicket.{WriteTicket}
use Rattle.completion.specs.declared.Outcome.{Outcome}
use Rattle.std.specs.declared.option.Option.TheVariants.{Some as Back}
use Rattle.model.specs.declared.Opening.{Opening}
use Rattle.model.specs.declared.Kind.{Kind}
use Rattle.model.specs.declared.Split.{Split}
use Rattle.model.specs.declared.Awaits.{Awaits}
use Rattle.model.specs.declared.Awaits.TheVariants.{Nothing, Piece, Flush}
use Rattle.model.specs.declared.Row.{Row}
use Rattle.memory.specs.declared.liveregion.LiveRegion.{LiveRegion}
use Rattle.step.specs.Rules.{above_piece, is_refusal, first_refused, piece_answered, answer_rules, flush_outcome, flush_ends, flush_rules}
use Rattle.settle.specs.declared.Finished.{Finished}
use Rattle.settle.specs.declared.Finished.TheVariants.{Away, Ended}
use Rattle.settle.specs.Finished.{cause_is, turned_by, plan_with, CountFits, PieceFits, fate_by, Tells}
use Rattle.settle.proofs.Settling.{same_end}

-- ---- numbers

-- bytes are left behind a piece just where it is shorter than what is left
pub left_behind : (done total piece : ℕ) → ltb piece (total - done) ≡ ltb (done + piece) total
left_behind done total piece =
    ⊎_elim (λ (t : ltb piece (total - done) ≡ true). t ∙ sym (lt-ltb (done + piece) total (omega (arith, ltb-true piece (total - done) t))))
    (λ (f : ltb piece (total - done) ≡ false). f ∙ sym (le-ltb (done + piece) total (omega (arith, ltb-false piece (total - done) f))))
    (true_or_false (ltb piece (total - done)))

-- a count that is at most the piece fits as the piece does
pub count_fits : (piece : ℕ) (s : Split) (answer : Answer) → above_piece piece answer ≡ false → s.done + piece < 2 ^ 64 → CountFits s answer
unfolding above_piece CountFits
count_fits piece s (Count n) within fits = omega (arith, ltb-false piece n within)
count_fits piece s (Error e media) within fits = tt
count_fits piece s Refused within fits = tt
count_fits piece s (RefusedWith e media) within fits = tt

-- ---- the rules of an answer

-- with an answer that is no refusal no first piece is refused
pub no_refusal : (s : Split) (answer : Answer) → (answer ≡ Refused → ⊥) → ((e : ℕ) (media : Bool) → answer ≡ RefusedWith e media → ⊥) → false ≡ first_refused s answer
unfolding first_refused is_refusal
no_refusal s (Count n) r w = sym (and-false (eqb s.done 0))
no_refusal s (Error e media) r w = sym (and-false (eqb s.done 0))
no_refusal s Refused r w = absurd (r refl)
no_refusal s (RefusedWith e media) r w = absurd (w e media refl)

module _ (o : Opening) (g : LiveRegion) (m : Map) (first : Option FirstCause) (row : Row) (piece : ℕ) (answer : Answer) (back : Bool) (flushes : ℕ) where
  -- the values tell what the rules say of a row that awaits this
  abbrev Answered : Finished → Awaits → Type 0
  Answered r w = PieceFits g m piece w → Tells r (λ bytes. answer_rules o (plan_with g m) g.forced first row bytes answer back flushes w)

  pub awaits_piece_lem : (r : Finished) (k : Kind) (s : Split) (w : Awaits) → w ≡ Piece k s
      → (g.generation < 2 ^ 32 → s.done + piece < 2 ^ 64 → Tells r (λ bytes. piece_answered o (plan_with g m) g.forced first row k s piece bytes answer back flushes)) → Answered r w
  unfolding PieceFits answer_rules
  awaits_piece_lem r k s w e told =
      subst (Answered r) (sym e)
      (λ fits bytes. told fits.2 fits.1 bytes ∙ ap (λ (n : ℕ). piece_answered o (plan_with g m) g.forced first row k s n bytes answer back flushes) fits.0)

  -- of a row that awaits no piece
  pub no_piece : (w : Awaits) → ((k : Kind) (s : Split) → w ≡ Piece k s → ⊥) → Answered (Away NotAwaited) w
  unfolding fate_by answer_rules
  no_piece Nothing other fits bytes = refl
  no_piece (Piece k s) other fits bytes = absurd (other k s refl)
  no_piece (Flush t) other fits bytes = refl

-- ---- the rules of a flush result

module _ (o : Opening) (row : Row) (result : Flushed) where
  -- the values tell what the rules say of a row that awaits this
  abbrev Resulted : Finished → Awaits → Type 0
  Resulted r w = Tells r (λ bytes. flush_rules o row bytes result w)

  pub awaits_flush_lem : (x : Outcome) (n : ℕ) (t : WriteTicket) (w : Awaits) → w ≡ Flush t → x ≡ flush_outcome o t result → n ≡ t.end.0 - t.start.0
      → Resulted (Ended (record { outcome = x; buf = Back (record { buffer = row.buffer; len = n }); turn = record { total = 0; by = 0 }; cause = None })) w
  unfolding fate_by cause_is turned_by flush_rules flush_ends
  awaits_flush_lem x n t w e p q =
      subst (Resulted (Ended (record { outcome = x; buf = Back (record { buffer = row.buffer; len = n }); turn = record { total = 0; by = 0 }; cause = None }))) (sym e)
      (λ bytes. same_end p (ap (λ (n : ℕ). Back (record { buffer = row.buffer; len = n })) q) (turned_none 0 0 bytes refl))

  -- of a row that awaits no flush
  pub no_flush : (w : Awaits) → ((t : WriteTicket) → w ≡ Flush t → ⊥) → Resulted (Away NotAwaited) w
  unfolding fate_by flush_rules
  no_flush Nothing other bytes = refl
  no_flush (Piece k s) other bytes = refl
  no_flush (Flush t) other bytes = absurd (other t refl)
