-- What the rules make of an operation, whatever arrives. One that goes on has awaited a piece, keeps its range and awaits the next piece, with bytes left, or a
-- flush with its region's ticket. One that ends or is rejected hands back its own buffer or none. Its buffer has as many bytes as before, and the same if it is
-- lost. Only an awaited piece is rejected.
use mathlib.Core.Path.{◌≡◌, refl}
use mathlib.Core.Bool.{Bool, true, false, ◌&&◌, ◌||◌}
use mathlib.Core.List.{List}
use Prim.Native.Nat.{ℕ, ◌+◌, ◌<◌}
use borrow.Author.Tests.{ltb-true}
use lib.Dec.{ltb}
use lib.ListN.{length}
use Rattle.layout.proofs.Tests.{and_right}
use Rattle.regionmap.specs.declared.Position.{Position}
use Rattle.iobuf.proofs.Laws.{turn_laws}
use Rattle.std.specs.declared.option.Option.{Option}
use Rattle.domain.specs.declared.FirstCause.{FirstCause}
use Rattle.platform.specs.declared.Answer.{Answer}
use Rattle.platform.specs.declared.Flushed.{Flushed}
use Rattle.completion.specs.Buffers.{Buffer}
use Rattle.std.specs.declared.option.Option.TheVariants.{Some as Back, None as Lost}
use Rattle.model.specs.declared.Opening.{Opening}
use Rattle.model.specs.declared.Kind.{Kind}
use Rattle.model.specs.declared.Kind.TheVariants.{Page, Read}
use Rattle.model.specs.declared.Split.{Split}
use Rattle.model.specs.declared.Awaits.{Awaits}
use Rattle.model.specs.declared.Awaits.TheVariants.{Nothing, Piece, Flush}
use Rattle.model.specs.declared.Row.{Row}
use Rattle.model.specs.State.{Region, State, awaiting}
use Rattle.step.specs.Rules.{first_of, last_of, Input, Input.answered, Input.flushed, Fate, Fate.away, Fate.awaits, Fate.ends, Fate.rejected, buffer_as, turned_back, is_written, read_length, ticket_of, written_as, last_piece, above_piece, first_refused, is_whole, goes_on, split_after, piece_answered, piece_length, flush_ends, answer_rules, flush_rules, rules, range_start, range_end}
use Rattle.step.specs.Questions.{region_at}
use Rattle.step.specs.Step.{bytes_at, plan_of, fate_of}
use Rattle.step.specs.Sound.{SplitFits, TicketFits}
use Rattle.step.proofs.Picked.{by_pick}

-- ---- what is shown

-- the buffer b, or that it is lost
unfoldable pub Own : ℕ → Buffer → Type 0
Own b (Back h) = h.buffer ≡ b
Own b Lost = Unit {0}

-- a lost one keeps its bytes as they lie
unfoldable pub Lies : Buffer → List ℕ → List ℕ → Type 0
Lies (Back h) bytes bytes' = Unit {0}
Lies Lost bytes bytes' = bytes' ≡ bytes

unfoldable pub AwaitsPiece : Awaits → Type 0
AwaitsPiece Nothing = ⊥
AwaitsPiece (Piece k s) = Unit {0}
AwaitsPiece (Flush t) = ⊥

-- what an operation that awaits a piece may await next: a piece of the same kind, behind this one, or, of a write, its flush
unfoldable pub Follows : Region → Awaits → Awaits → Type 0
Follows g Nothing now = ⊥
Follows g (Piece k s) Nothing = ⊥
Follows g (Piece k s) (Piece k' s') = (k' ≡ k) × (s' ≡ split_after (piece_length (plan_of g) k s) s)
Follows g (Piece (Page a b) s) (Flush t) = Unit {0}
Follows g (Piece (Read a b) s) (Flush t) = ⊥
Follows g (Flush t) now = ⊥

-- an operation that awaited something goes on and awaits another
pub record Onward (o : Opening) (g : Region) (was now : Awaits) : Type 0 where
  pub follows : Follows g was now
  pub live : awaiting now ≡ 1
  pub start : range_start now ≡ range_start was
  pub end : range_end now ≡ range_end was
  pub split : SplitFits was → SplitFits now
  pub ticket : TicketFits o g now

-- what becomes of an operation that awaits something and has a buffer with these bytes
unfoldable pub Fitting : Opening → Region → Awaits → ℕ → List ℕ → Fate → Type 0
Fitting o g was b bytes (away f) = Unit {0}
Fitting o g was b bytes (awaits now bytes') = Onward o g was now × (length bytes' ≡ length bytes)
Fitting o g was b bytes (ends ending) = Own b ending.buffer × (length ending.bytes ≡ length bytes) × Lies ending.buffer bytes ending.bytes
Fitting o g was b bytes (rejected e buf bytes') = AwaitsPiece was × Own b buf × (length bytes' ≡ length bytes) × (bytes' ≡ bytes)

-- ---- parts of the rules

pub own_buffer : (back : Bool) (b n : ℕ) → Own b (buffer_as back b n)
unfolding Own buffer_as
own_buffer true b n = refl
own_buffer false b n = tt

turned_back_lies : (back : Bool) (b n : ℕ) (s : Split) (bytes : List ℕ) → Lies (buffer_as back b n) bytes (turned_back back s bytes)
unfolding Lies buffer_as turned_back
turned_back_lies true b n s bytes = tt
turned_back_lies false b n s bytes = refl

pub turned_back_length : (back : Bool) (s : Split) (bytes : List ℕ) → length (turned_back back s bytes) ≡ length bytes
unfolding turned_back
turned_back_length true s bytes = turn_laws.length_kept s.total _ bytes
turned_back_length false s bytes = refl

-- bytes are left behind a piece after which the operation goes on
pub goes_on_left : (piece : ℕ) (s : Split) (answer : Answer) (back : Bool) → goes_on piece s answer back ≡ true → s.done + piece < s.total
unfolding goes_on
goes_on_left piece s answer back e =
    ltb-true _ _ (and_right back (ltb (s.done + piece) s.total) (and_right (is_whole piece answer) (back && ltb (s.done + piece) s.total) e))

module _ (o : Opening) (g : Region) where
  -- the next piece
  next_piece : (k : Kind) (s : Split) → s.done + piece_length (plan_of g) k s < s.total → Onward o g (Piece k s) (Piece k (split_after (piece_length (plan_of g) k s) s))
  unfolding Follows awaiting range_start range_end SplitFits TicketFits split_after
  next_piece (Page a b) s left = record { follows = (refl, refl); live = refl; start = refl; end = refl; split = λ f. (f.0, left); ticket = tt }
  next_piece (Read a b) s left = record { follows = (refl, refl); live = refl; start = refl; end = refl; split = λ f. (f.0, left); ticket = tt }

  -- the flush of a write
  its_flush : (a b : Position) (s : Split) (flushes : ℕ) → Onward o g (Piece (Page a b) s) (Flush (ticket_of o (plan_of g) (Page a b) flushes))
  unfolding Follows awaiting range_start range_end SplitFits TicketFits ticket_of plan_of first_of last_of
  its_flush a b s flushes = record { follows = tt; live = refl; start = refl; end = refl; split = λ f. tt; ticket = (refl, refl, refl, refl) }

  -- ---- the rules

  module _ (forced : Bool) (first : Option FirstCause) (r : Row) (bytes : List ℕ) where
    abbrev Fits : Awaits → Fate → Type 0
    Fits was = Fitting o g was r.buffer bytes

    written_fits : (a b : Position) (s : Split) (flushes : ℕ) (buf : Buffer) (bytes' : List ℕ) → Own r.buffer buf → length bytes' ≡ length bytes → Lies buf bytes bytes'
        → Fits (Piece (Page a b) s) (written_as o forced first r.durable (ticket_of o (plan_of g) (Page a b) flushes) buf bytes')
    unfolding written_as Fitting
    written_fits a b s flushes buf bytes' own same lies =
        by_pick r.durable (Fits (Piece (Page a b) s))
        (λ d. by_pick (o.flush || forced) (Fits (Piece (Page a b) s)) (λ f. (its_flush a b s flushes, same)) (λ f. (own, same, lies)))
        (λ d. (own, same, lies))

    last_fits : (k : Kind) (s : Split) (answer : Answer) (back : Bool) (flushes : ℕ) → Fits (Piece k s) (last_piece o (plan_of g) forced first r k s bytes answer back flushes)
    unfolding last_piece Fitting
    last_fits (Read a b) s answer back flushes = (own_buffer back r.buffer (read_length s answer), turned_back_length back s bytes, turned_back_lies back r.buffer (read_length s answer) s bytes)
    last_fits (Page a b) s answer back flushes =
        let own = own_buffer back r.buffer s.total in
        let same = turned_back_length back s bytes in
        let lies = turned_back_lies back r.buffer s.total s bytes in
        by_pick (is_written s answer back) (Fits (Piece (Page a b) s)) (λ w. written_fits a b s flushes _ _ own same lies) (λ w. (own, same, lies))

    piece_fits : (k : Kind) (s : Split) (answer : Answer) (back : Bool) (flushes : ℕ)
        → Fits (Piece k s) (piece_answered o (plan_of g) forced first r k s (piece_length (plan_of g) k s) bytes answer back flushes)
    unfolding piece_answered Fitting AwaitsPiece
    piece_fits k s answer back flushes =
        let piece = piece_length (plan_of g) k s in
        by_pick (above_piece piece answer) (Fits (Piece k s)) (λ a. tt)
        λ a. by_pick (first_refused s answer) (Fits (Piece k s)) (λ f. (tt, own_buffer back r.buffer s.total, refl, refl))
        λ f. by_pick (goes_on piece s answer back) (Fits (Piece k s))
        (λ w. (next_piece k s (goes_on_left piece s answer back w), turn_laws.length_kept s.total _ bytes))
        λ w. last_fits k s answer back flushes

    answer_fits : (was : Awaits) (answer : Answer) (back : Bool) (flushes : ℕ) → Fits was (answer_rules o (plan_of g) forced first r bytes answer back flushes was)
    unfolding answer_rules Fitting
    answer_fits Nothing answer back flushes = tt
    answer_fits (Piece k s) answer back flushes = piece_fits k s answer back flushes
    answer_fits (Flush t) answer back flushes = tt

    flush_fits : (was : Awaits) (result : Flushed) → Fits was (flush_rules o r bytes result was)
    unfolding flush_rules flush_ends Fitting Own Lies
    flush_fits Nothing result = tt
    flush_fits (Piece k s) result = tt
    flush_fits (Flush t) result = (refl, refl, tt)

    pub rules_fit : (i : Input) → Fitting o g r.awaits r.buffer bytes (rules o (plan_of g) forced first r bytes i)
    unfolding rules
    rules_fit (answered answer back flushes) = answer_fits r.awaits answer back flushes
    rules_fit (flushed result) = flush_fits r.awaits result

-- ---- in a table

abbrev pub FateFits : State → Row → Fate → Type 0
FateFits s r f = Fitting s.settings (region_at s r.handle) r.awaits r.buffer (bytes_at s r.buffer) f

pub fate_fits : (s : State) (r : Row) (i : Input) → FateFits s r (fate_of s r i)
unfolding fate_of
fate_fits s r i = rules_fit s.settings (region_at s r.handle) (region_at s r.handle).forced s.poison r (bytes_at s r.buffer) i
