-- What the rules make of an operation lies in words: its errors have 32 bits, its tickets are the opening's, and its receipts are those for its tickets.
use Rattle.std.proofs.Common.{◌≡◌, ℕ, ◌^◌, ◌<◌, Bool, ◌||◌, List, get_or, sym, refl, subst, mod-lt, arith}
use mathlib.Core.Option.{Option, none, some}
use Rattle.domain.specs.declared.FirstCause.{FirstCause}
use Rattle.std.specs.declared.option.Option.{Option as StdOption}
use Rattle.std.specs.declared.option.Option.TheVariants.{None, Some}
use Rattle.platform.specs.declared.Answer.{Answer}
use Rattle.platform.specs.declared.Answer.TheVariants.{Count, Error, Refused, RefusedWith}
use Rattle.platform.specs.declared.Flushed.{Flushed}
use Rattle.platform.specs.declared.Flushed.TheVariants.{Need, Unknown as unsure, Poisoned as failedBy}
use Rattle.completion.specs.declared.WriteTicket.{WriteTicket}
use Rattle.completion.specs.declared.Range.{Range}
use Rattle.completion.specs.Buffers.{Buffer}
use Rattle.model.specs.declared.Opening.{Opening}
use Rattle.model.specs.declared.Kind.{Kind}
use Rattle.model.specs.declared.Kind.TheVariants.{Page, Read}
use Rattle.model.specs.declared.Split.{Split}
use Rattle.model.specs.declared.Awaits.{Awaits}
use Rattle.model.specs.declared.Awaits.TheVariants.{Nothing, Piece, Flush}
use Rattle.model.specs.declared.Row.{Row}
use Rattle.model.specs.Opening.{Plan}
use Rattle.model.specs.Memory.{flag, error_in, cause_in, poison_in, ErrorFits, TicketOf, OutcomeFits}
use Rattle.model.specs.State.{receipt_made}
use Rattle.step.specs.Rules.{Input, Input.answered, Input.flushed, Fate, Fate.away, Fate.awaits, Fate.ends, Fate.rejected, error_of, cause_of, is_written, failed_read, read_outcome, ticket_of, unflushed, written_as, last_piece, above_piece, first_refused, goes_on, piece_answered, piece_length, range_of, flush_outcome, flush_ends, answer_rules, flush_rules, rules}
use Rattle.step.proofs.Picked.{by_pick}
use Rattle.arrival.proofs.Parts.{CauseFits}

-- ---- what is supposed

-- an answer's error, and a flush result's, has 32 bits
unfoldable pub AnswerFits : Answer → Type 0
AnswerFits (Count n) = Unit {0}
AnswerFits (Error e media) = e < 2 ^ 32
AnswerFits Refused = Unit {0}
AnswerFits (RefusedWith e media) = e < 2 ^ 32

unfoldable pub ResultFits : Flushed → Type 0
ResultFits (Need n) = Unit {0}
ResultFits (unsure cause) = ErrorFits cause.raw
ResultFits (failedBy cause) = ErrorFits cause.raw

unfoldable pub InputFits : Input → Type 0
InputFits (answered answer back flushes) = AnswerFits answer
InputFits (flushed result) = ResultFits result

-- a flush that is awaited has a ticket of the opening
unfoldable pub FlushFits : Opening → Awaits → Type 0
FlushFits o Nothing = Unit {0}
FlushFits o (Piece k s) = Unit {0}
FlushFits o (Flush t) = TicketOf o t

-- ---- what is shown

unfoldable pub SomeFits : Option FirstCause → Type 0
SomeFits none = Unit {0}
SomeFits (some cause) = ErrorFits cause.raw

unfoldable pub FateWords : Opening → Fate → Type 0
FateWords o (away f) = Unit {0}
FateWords o (awaits a bytes) = Unit {0}
FateWords o (ends ending) = OutcomeFits o ending.outcome × SomeFits ending.cause
FateWords o (rejected e b bytes) = Unit {0}

-- the poison in words has an error of 32 bits
pub poison_fits : (store : List ℕ) → CauseFits (poison_in store)
unfolding poison_in CauseFits cause_in error_in ErrorFits
poison_fits store =
    by_pick (flag (get_or store 19 0)) CauseFits
    (λ e. by_pick (flag (get_or store 21 0)) ErrorFits (λ f. mod-lt (get_or store 22 0) (omega arith)) (λ f. tt)) (λ e. tt)

error_fits : (answer : Answer) → AnswerFits answer → ErrorFits (error_of answer)
unfolding AnswerFits ErrorFits error_of
error_fits (Count n) fits = tt
error_fits (Error e media) fits = fits
error_fits Refused fits = tt
error_fits (RefusedWith e media) fits = fits

module _ (o : Opening) where
  failed_fits : (r : Range) (e : ℕ) (media : Bool) → e < 2 ^ 32 → OutcomeFits o (failed_read r e media)
  unfolding failed_read OutcomeFits
  failed_fits r e media fits = by_pick media (OutcomeFits o) (λ m. tt) (λ m. fits)

  read_fits : (r : Range) (s : Split) (answer : Answer) (back : Bool) → AnswerFits answer → OutcomeFits o (read_outcome r s answer back)
  unfolding read_outcome OutcomeFits AnswerFits
  read_fits r s (Count n) back fits = by_pick back (OutcomeFits o) (λ b. tt) (λ b. tt)
  read_fits r s (Error e media) back fits = failed_fits r e media fits
  read_fits r s Refused back fits = tt
  read_fits r s (RefusedWith e media) back fits = failed_fits r e media fits

  unflushed_fits : (first : StdOption FirstCause) (t : WriteTicket) → CauseFits first → TicketOf o t → OutcomeFits o (unflushed o first t)
  unfolding unflushed OutcomeFits CauseFits receipt_made
  unflushed_fits None t cause ticket = (ticket, refl)
  unflushed_fits (Some x) t cause ticket = cause

  flush_fits : (t : WriteTicket) (result : Flushed) → TicketOf o t → ResultFits result → OutcomeFits o (flush_outcome o t result)
  unfolding flush_outcome OutcomeFits ResultFits receipt_made
  flush_fits t (Need n) ticket fits = (ticket, refl)
  flush_fits t (unsure cause) ticket fits = fits
  flush_fits t (failedBy cause) ticket fits = fits

  module _ (g : Plan) (forced : Bool) (first : StdOption FirstCause) (r : Row) (bytes : List ℕ) (generation : g.generation < 2 ^ 32) (cause : CauseFits first) where
    ticket_fits : (k : Kind) (flushes : ℕ) → TicketOf o (ticket_of o g k flushes)
    unfolding ticket_of
    ticket_fits k flushes = record { volume = refl; epoch = refl; generation = generation }

    written_fits : (t : WriteTicket) (b : Buffer) (bytes' : List ℕ) → TicketOf o t → FateWords o (written_as o forced first r.durable t b bytes')
    unfolding written_as FateWords SomeFits OutcomeFits
    written_fits t b bytes' ticket =
        by_pick r.durable (FateWords o)
        (λ d. by_pick (o.flush || forced) (FateWords o) (λ f. tt) (λ f. (unflushed_fits first t cause ticket, tt)))
        (λ d. (ticket, tt))

    last_fits : (k : Kind) (s : Split) (answer : Answer) (back : Bool) (flushes : ℕ) → AnswerFits answer → FateWords o (last_piece o g forced first r k s bytes answer back flushes)
    unfolding last_piece FateWords SomeFits OutcomeFits cause_of
    last_fits (Read a b) s answer back flushes fits = (read_fits (range_of g (Read a b)) s answer back fits, tt)
    last_fits (Page a b) s answer back flushes fits =
        by_pick (is_written s answer back) (FateWords o) (λ w. written_fits _ _ _ (ticket_fits (Page a b) flushes)) (λ w. (error_fits answer fits, error_fits answer fits))

    piece_fits : (k : Kind) (s : Split) (piece : ℕ) (answer : Answer) (back : Bool) (flushes : ℕ) → AnswerFits answer → FateWords o (piece_answered o g forced first r k s piece bytes answer back flushes)
    unfolding piece_answered FateWords
    piece_fits k s piece answer back flushes fits =
        by_pick (above_piece piece answer) (FateWords o) (λ a. tt)
        λ a. by_pick (first_refused s answer) (FateWords o) (λ f. tt)
        λ f. by_pick (goes_on piece s answer back) (FateWords o) (λ w. tt)
        λ w. last_fits k s answer back flushes fits

    by_awaits : (i : Input) (a : Awaits) → r.awaits ≡ a → InputFits i → FlushFits o a → FateWords o (rules o g forced first r bytes i)
    unfolding rules answer_rules flush_rules flush_ends FateWords SomeFits InputFits FlushFits
    by_awaits (answered answer back flushes) Nothing e fits ticket = subst (λ (x : Awaits). FateWords o (answer_rules o g forced first r bytes answer back flushes x)) (sym e) tt
    by_awaits (answered answer back flushes) (Piece k s) e fits ticket =
        subst (λ (x : Awaits). FateWords o (answer_rules o g forced first r bytes answer back flushes x)) (sym e) (piece_fits k s (piece_length g k s) answer back flushes fits)
    by_awaits (answered answer back flushes) (Flush t) e fits ticket = subst (λ (x : Awaits). FateWords o (answer_rules o g forced first r bytes answer back flushes x)) (sym e) tt
    by_awaits (flushed result) Nothing e fits ticket = subst (λ (x : Awaits). FateWords o (flush_rules o r bytes result x)) (sym e) tt
    by_awaits (flushed result) (Piece k s) e fits ticket = subst (λ (x : Awaits). FateWords o (flush_rules o r bytes result x)) (sym e) tt
    by_awaits (flushed result) (Flush t) e fits ticket = subst (λ (x : Awaits). FateWords o (flush_rules o r bytes result x)) (sym e) (flush_fits t result ticket fits, tt)

    pub rules_words : (i : Input) → InputFits i → FlushFits o r.awaits → FateWords o (rules o g forced first r bytes i)
    rules_words i = by_awaits i r.awaits refl
