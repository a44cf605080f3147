-- Demand 2, by POSIX: from any table that calls have left, "the pieces of an accepted page operation, each taken whole with its buffer back and no
-- other operation writing its bytes meanwhile, act together like one transfer of every byte to or from its mapped card offset, and touch no other
-- byte". Stated over the table's own replies, rows and pool, with any other calls in between. The card follows what the row under a tag awaits
-- (`card_by`); that is what the last reply under the tag asks the host for: `.asked` below. Proved in proofs/Demand2.antt (demand2).
use Rattle.std.specs.Prelude.{◌≡◌, ◌≢◌, ◌⊎◌, Bool, true, false, ◌||◌, List, [], ◌∷◌, ◌++◌, ℕ, suc, ◌+◌, ◌≤◌, ◌<◌, length, get_or, drop, eqb}
use Rattle.std.proofs.Math.Option.{Option, none, some}
use Rattle.layout.specs.Pick.{pick}
use Rattle.regionmap.specs.Map.{Map, place, pieces}
use Rattle.iobuf.specs.Turn.{stretch}
use Rattle.posix.specs.Posix.{Card, pread}
use Rattle.posix.specs.Transfer.{gathered}
use Rattle.std.specs.declared.option.Option.{Option as StdOption}
use Rattle.domain.specs.declared.FirstCause.{FirstCause}
use Rattle.platform.specs.declared.Flushed.{Flushed}
use Rattle.completion.specs.declared.{WriteTicket.WriteTicket, Outcome.Outcome, Completion.Completion, Reply.Reply}
use Rattle.std.specs.declared.option.Option.TheVariants.{Some as Back, None as Lost}
use Rattle.model.specs.declared.{Opening.Opening, Kind.Kind, Split.Split, Awaits.Awaits, Row.Row, Request.Request}
use Rattle.model.specs.declared.Call.TheVariants as Call
use Rattle.model.specs.State.{State}
use Rattle.model.specs.Opening.{Plan}
use Rattle.step.specs.Questions.{region_at, byte_at, whole_of}
use Rattle.step.specs.Rules.{first_of, piece_length, is_whole, Input, Input.answered, Input.flushed, ticket_of, unflushed, flush_outcome, left_of}
use Rattle.step.specs.Step.{start_of, end_of, row_of, row_at, bytes_at, plan_of, asks_for, names}
use Rattle.step.specs.Sound.{Sound}
use Rattle.step.specs.Run.{Made, Made.calls, Event, leave, next, run, reply_to, Start, opened_by, after}
use Rattle.step.specs.Lists.{brought, is_away, plan_at, left_in, Given, given, tag_in, Completed, gets, card_by, card_after, Hosted, HostMay}
use Rattle.step.specs.Alone.{tag_given}

-- ---- the suppositions

-- a piece "taken whole with its buffer back"
unfoldable pub WholeTo : State → Row → Awaits → Input → Type 0
WholeTo s r Awaits.Nothing i = Unit {0}
WholeTo s r (Awaits.Piece k sp) (answered x back flushes) = (is_whole (piece_length (plan_at s r) k sp) x ≡ true) × (back ≡ true)
WholeTo s r (Awaits.Piece k sp) (flushed result) = Unit {0}
WholeTo s r (Awaits.Flush t) i = Unit {0}

-- a read's piece holds the card's bytes at its offset, as pread leaves them there
unfoldable pub HoldsCard : State → Row → Awaits → Card → Type 0
HoldsCard s r Awaits.Nothing card = Unit {0}
HoldsCard s r (Awaits.Piece (Kind.Page a b) sp) card = Unit {0}
HoldsCard s r (Awaits.Piece (Kind.Read a b) sp) card =
    left_in s r ≡ pread card (place (plan_at s r).map (byte_at a.0 sp.done)) (piece_length (plan_at s r) (Kind.Read a b) sp)
HoldsCard s r (Awaits.Flush t) card = Unit {0}

-- of each answer under the queue tag t that is not turned away
unfoldable pub TakenWhole : State → Event → ℕ → Card → Type 0
TakenWhole s e t card = (i : Input) → brought t e.made ≡ some i → is_away (reply_to s e) ≡ false
    → WholeTo s (row_at s (row_of t)) (row_at s (row_of t)).awaits i
    × HoldsCard (leave s e.leaves) (row_at s (row_of t)) (row_at s (row_of t)).awaits card

-- a card byte of the piece under way of a write
pub record InPiece (g : Plan) (k : Kind) (sp : Split) (y : ℕ) : Type 0 where
  pub j : ℕ
  pub inside : j < piece_length g k sp
  pub at : place g.map (byte_at (first_of k).0 sp.done) + j ≡ y

unfoldable pub BeingWritten : Plan → Awaits → ℕ → Type 0
BeingWritten g Awaits.Nothing y = ⊥
BeingWritten g (Awaits.Piece (Kind.Page a b) sp) y = InPiece g (Kind.Page a b) sp y
BeingWritten g (Awaits.Piece (Kind.Read a b) sp) y = ⊥
BeingWritten g (Awaits.Flush t) y = ⊥

-- "no other operation writing its bytes meanwhile": no piece of another write is under way on a card byte of the request's range, however it is
-- answered
unfoldable pub Undisturbed : State → ℕ → Request → Type 0
Undisturbed s t q =
    (r i y : ℕ) → r ≢ row_of t → BeingWritten (plan_at s (row_at s r)) (row_at s r).awaits y → i < whole_of q
    → place (region_at s q.handle).map (byte_at q.offset.0 i) ≡ y → ⊥

-- a list of events, whatever their calls, through which the operation under the queue tag t is served so, until it ends; the card changes as the
-- table's pieces say
unfoldable pub Served : State → List Event → ℕ → Request → Card → Type 0
Served s [] t q card = Unit {0}
Served s (e ∷ es) t q card =
    (names (row_at s (row_of t)) t ≡ true) × HostMay s e.leaves × TakenWhole s e t card × Undisturbed s t q
    × Served (next s e) es t q (card_by s e card)

-- ---- the claim

-- an accepted submission: the event, its request and the queue tag that it was given
pub record Accepted (x : Start) (h : List Event) (e : Event) (t : ℕ) (q : Request) (made : Made) : Type 0 where
  pub hosted : Hosted (opened_by x) (h ++ (e ∷ []))
  pub made_so : e.made ≡ made
  pub tag : tag_given (reply_to (after x h) e) ≡ some t

-- the buffer at acceptance
unfoldable pub buffer_then : Start → Event → Request → List ℕ
buffer_then x e q = stretch x.opening.capacity q.buffer e.leaves

-- the table after the submission
abbrev pub submitted_in : Start → List Event → Event → State
submitted_in x h e = next (after x h) e

-- the operation has no piece under way any more
unfoldable pub NoPiece : Awaits → Type 0
NoPiece Awaits.Nothing = Unit {0}
NoPiece (Awaits.Piece k s) = ⊥
NoPiece (Awaits.Flush t) = Unit {0}

-- done with its pieces: the tag names no row, or one that awaits its flush
unfoldable pub PiecesDone : State → ℕ → Type 0
PiecesDone s t = names (row_at s (row_of t)) t ≡ true → NoPiece (row_at s (row_of t)).awaits

-- the flush count of the last answer given, or n before the first, and the flush result given, if one was
unfoldable pub count_of : Input → ℕ → ℕ
count_of (answered a back flushes) n = flushes
count_of (flushed result) n = n

unfoldable pub count_given : ℕ → List Given → ℕ
count_given n [] = n
count_given n (g ∷ gs) = count_given (count_of g.0 n) gs

unfoldable pub result_of : Input → Option Flushed → Option Flushed
result_of (answered a back flushes) r = r
result_of (flushed result) r = some result

unfoldable pub result_given : List Given → Option Flushed
result_given [] = none
result_given (g ∷ gs) = result_of g.0 (result_given gs)

-- how many answers were given
unfoldable pub answers_of : Input → ℕ → ℕ
answers_of (answered a back flushes) n = suc n
answers_of (flushed result) n = n

unfoldable pub answers_in : List Given → ℕ
answers_in [] = 0
answers_in (g ∷ gs) = answers_of g.0 (answers_in gs)

-- what a write comes to whose pieces were all taken whole, with the ticket of its own range: "Plain ends there." "Durable without either ends
-- Poisoned if the store is poisoned, else with a receipt of need 2^64 − 1." "A flush result completes the row".
unfoldable pub durably_to : Opening → StdOption FirstCause → WriteTicket → Option Flushed → Outcome
durably_to o first t none = unflushed o first t
durably_to o first t (some result) = flush_outcome o t result

unfoldable pub written_to : Opening → StdOption FirstCause → Bool → WriteTicket → Option Flushed → Outcome
written_to o first durable t result = pick durable (durably_to o first t result) (Outcome.Written t)

-- the operation under a queue tag is over: its tag names no row any more
abbrev pub Over : State → ℕ → Type 0
Over s t = names (row_at s (row_of t)) t ≡ false

-- what the operation has been given, and what it gets
abbrev pub given_to : Start → List Event → Event → ℕ → List Event → List Given
given_to x h e t es = given (submitted_in x h e) es t

abbrev pub gets_in : Start → List Event → Event → ℕ → Request → List Event → List Completed
gets_in x h e t q es = gets (submitted_in x h e) es t q.buffer

-- the piece awaited after so many answers is of the request's range, and the first of the map's pieces behind as many: those are the pieces of the
-- bytes left
pub record ToCome (m : Map) (q : Request) (answers : ℕ) (k : Kind) (sp : Split) : Type 0 where
  pub start : first_of k ≡ q.offset
  pub total : sp.total ≡ whole_of q
  pub behind : drop answers (pieces m q.offset.0 (whole_of q)) ≡ pieces m (byte_at q.offset.0 sp.done) (left_of sp)

-- which pieces are issued, and how many: ".. and one that issues nothing fail demand 2. One that issues the first piece and then reports the whole
-- fails 2 and 3." All of this record is of an accepted submission, so a table that turns every one away would meet it. That a submission is accepted
-- where document 01's questions all say yes, and is replied its first piece, is said by Asked.antt (write-accepted, read-accepted) and Figures.antt.
pub record Issues (x : Start) (h : List Event) (e : Event) (t : ℕ) (q : Request) (es : List Event) : Type 0 where
  pub awaited : (k : Kind) (sp : Split) → names (row_at (run (submitted_in x h e) es) (row_of t)) t ≡ true
      → (row_at (run (submitted_in x h e) es) (row_of t)).awaits ≡ Awaits.Piece k sp
      → ToCome (region_at (after x h) q.handle).map q (answers_in (given_to x h e t es)) k sp
  -- they come to an end: given as many answers as the map has pieces for its range, the operation is done with them
  pub ends : length (pieces (region_at (after x h) q.handle).map q.offset.0 (whole_of q)) ≤ answers_in (given_to x h e t es)
      → PiecesDone (run (submitted_in x h e) es) t
  -- and not before
  pub not_before : PiecesDone (run (submitted_in x h e) es) t
      → length (pieces (region_at (after x h) q.handle).map q.offset.0 (whole_of q)) ≤ answers_in (given_to x h e t es)

pub record Wrote (x : Start) (h : List Event) (e : Event) (t : ℕ) (q : Request) (card : Card) (es : List Event) : Type 0 where
  -- once its pieces are done every byte has arrived at its mapped card offset
  pub arrived : PiecesDone (run (submitted_in x h e) es) t
      → (i : ℕ) → i < whole_of q → card_after (submitted_in x h e) es card (place (region_at (after x h) q.handle).map (byte_at q.offset.0 i))
      ≡ get_or (buffer_then x e q) i 0
  -- once it is over it has got one completion: the host's tag, its buffer at its whole length with the bytes that it held at acceptance, and what
  -- such a write comes to, by the flush count of its last answer, its flush result, and the poison at the end
  pub completes : Over (run (submitted_in x h e) es) t
      → gets_in x h e t q es
      ≡ (
        record {
          tag = q.tag;
          outcome = written_to x.opening (run (submitted_in x h e) es).poison q.durable
              (ticket_of x.opening (plan_of (region_at (after x h) q.handle)) (Kind.Page (start_of q) (end_of q))
              (count_given 0 (given_to x h e t es))) (result_given (given_to x h e t es));
          buf = Back (record { buffer = q.buffer; len = (whole_of q) });
        },
        buffer_then x e q,
      )
      ∷ []
  -- a durable one without a flush result: neither policy nor forced mark stood at the end
  pub no_flush : Over (run (submitted_in x h e) es) t → q.durable ≡ true → result_given (given_to x h e t es) ≡ none
      → x.opening.flush || (region_at (run (submitted_in x h e) es) q.handle).forced ≡ false
  -- "Plain ends there.": with its pieces done it is over
  pub plain_over : q.durable ≡ false → PiecesDone (run (submitted_in x h e) es) t → Over (run (submitted_in x h e) es) t
  -- and before, none
  pub none_yet_lem : names (row_at (run (submitted_in x h e) es) (row_of t)) t ≡ true → gets_in x h e t q es ≡ []
  pub issues : Issues x h e t q es

pub record DidRead (x : Start) (h : List Event) (e : Event) (t : ℕ) (q : Request) (card : Card) (es : List Event) : Type 0 where
  -- the card's bytes of the whole range, and behind them the buffer's own
  pub completes : Over (run (submitted_in x h e) es) t
      → gets_in x h e t q es
      ≡ (
        record { tag = q.tag; outcome = Outcome.Read (whole_of q); buf = Back (record { buffer = q.buffer; len = (whole_of q) }) },
        gathered card
            (region_at (after x h) q.handle).map q.offset.0 (whole_of q) ++ drop (whole_of q) (buffer_then x e q),
      )
      ∷ []
  -- with its pieces done it is over
  pub over : PiecesDone (run (submitted_in x h e) es) t → Over (run (submitted_in x h e) es) t
  pub none_yet_lem : names (row_at (run (submitted_in x h e) es) (row_of t)) t ≡ true → gets_in x h e t q es ≡ []
  pub issues : Issues x h e t q es

-- ---- the converse, whatever the card answers

-- a list of events, whatever their calls and answers, through which the operation under the queue tag t is open, until it ends
unfoldable pub Followed : State → List Event → ℕ → Type 0
Followed s [] t = Unit {0}
Followed s (e ∷ es) t = (names (row_at s (row_of t)) t ≡ true) × HostMay s e.leaves × Followed (next s e) es t

-- each of its pieces that was answered, by an answer not turned away, was taken whole with its buffer back
unfoldable pub AllWhole : State → List Event → ℕ → Type 0
AllWhole s [] t = Unit {0}
AllWhole s (e ∷ es) t =
    ((i : Input) → brought t e.made ≡ some i → is_away (reply_to s e) ≡ false → WholeTo s (row_at s (row_of t)) (row_at s (row_of t)).awaits i)
    × AllWhole (next s e) es t

-- a completion that counts a write as kept: written, with a receipt or without
unfoldable pub is_kept : Outcome → Bool
is_kept (Outcome.Written t) = true
is_kept (Outcome.Receipt t r) = true
is_kept (Outcome.Read n) = false
is_kept (Outcome.Unknown r c) = false
is_kept (Outcome.Interrupted r) = false
is_kept (Outcome.Corruption r) = false
is_kept (Outcome.Io r o e) = false
is_kept (Outcome.QueueFull r) = false
is_kept (Outcome.Poisoned c) = false

-- ---- what the replies ask the host for

-- a reply that speaks of the operation under the queue tag t
unfoldable pub under : ℕ → Reply → Bool
under t (Reply.Piece u o n b) = eqb u t
under t (Reply.No f) = false
under t (Reply.Rejected g o e b) = false
under t (Reply.Done u) = eqb u t
under t (Reply.Flush u n) = eqb u t
under t (Reply.Took c) = false
under t Reply.None = false
under t Reply.Ok = false
under t (Reply.Writes w) = false
under t (Reply.Mark m) = false

-- the last reply of a list of events that does, or r where none does
unfoldable pub last_reply : State → List Event → ℕ → Reply → Reply
last_reply s [] t r = r
last_reply s (e ∷ es) t r = last_reply (next s e) es t (pick (under t (reply_to s e)) (reply_to s e) r)

-- the reply that asks for what the row under the queue tag t awaits: its piece (card offset, count, buffer) or its flush (need)
abbrev pub asks_under : State → ℕ → Reply
asks_under s t = let r = row_at s (row_of t) in asks_for (plan_at s r) t r.buffer r.awaits

pub record Demand2 : Type 0 where
  pub write : (x : Start) (h : List Event) (e : Event) (t : ℕ) (q : Request) → Accepted x h e t q (calls (Call.Write q))
      → (card : Card) (es : List Event)
      → Served (submitted_in x h e) es t q card → Wrote x h e t q card es
  pub read : (x : Start) (h : List Event) (e : Event) (t : ℕ) (q : Request) → Accepted x h e t q (calls (Call.ReadPage q))
      → (card : Card) (es : List Event)
      → Served (submitted_in x h e) es t q card → DidRead x h e t q card es
  -- a write that is counted as kept had all of its pieces answered, and each taken whole with its buffer back, in whatever order and form the card
  -- answered
  pub kept : (x : Start) (h : List Event) (e : Event) (t : ℕ) (q : Request) → Accepted x h e t q (calls (Call.Write q)) → (es : List Event)
      → Followed (submitted_in x h e) es t
      → (c : Completion) (bytes : List ℕ) (more : List Completed) → gets_in x h e t q es ≡ (c, bytes) ∷ more → is_kept c.outcome ≡ true
      → AllWhole (submitted_in x h e) es t
      × (length (pieces (region_at (after x h) q.handle).map q.offset.0 (whole_of q)) ≤ answers_in (given_to x h e t es))
  -- "The reply is the first piece: card offset, buffer, count."; "and the next piece is the reply"; "keeps the row and replies with tag and need". As
  -- long as an operation is open, whatever calls come between and whatever the card answers, the last reply under its queue tag asks for just the
  -- piece or the flush that its row awaits: a host that transfers what the replies ask for transfers what `card_by` says
  pub asked : (x : Start) (h : List Event) (e : Event) (t : ℕ) (q : Request) (made : Made)
      → (made ≡ calls (Call.Write q)) ⊎ (made ≡ calls (Call.ReadPage q)) → Accepted x h e t q made
      → (es : List Event) → Followed (submitted_in x h e) es t → names (row_at (run (submitted_in x h e) es) (row_of t)) t ≡ true
      → last_reply (submitted_in x h e) es t (reply_to (after x h) e) ≡ asks_under (run (submitted_in x h e) es) t
  -- "and touch no other byte", of card or pool: an answer changes no card byte but those of its own operation's piece under way, and no call a byte
  -- of a buffer that is not the buffer of the live row that its tag names
  pub card_others : (s : State) (e : Event) (card : Card) (y : ℕ)
      → let r = row_at s (row_of (tag_in e.made)) in (BeingWritten (plan_at s r) r.awaits y → ⊥) → card_by s e card y ≡ card y
  pub pool_others : (s : State) (e : Event) (b : ℕ) → Sound (leave s e.leaves) → b < s.settings.buffers
      → ((i : Input) → brought (tag_in e.made) e.made ≡ some i → names (row_at s (row_of (tag_in e.made))) (tag_in e.made) ≡ true
      → (row_at s (row_of (tag_in e.made))).buffer ≢ b)
      → bytes_at (next s e) b ≡ bytes_at (leave s e.leaves) b
