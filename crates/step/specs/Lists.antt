-- What a list of calls gives each operation, and what the operation gets: by its queue tag, from the events, the table's replies, and what the table
-- holds.
use Rattle.std.specs.Prelude.{◌≡◌, ◌⊎◌, Bool, true, false, List, [], ◌∷◌, ◌++◌, ℕ, ◌+◌, ◌<◌, length, take, drop, eqb}
use Rattle.std.proofs.Math.Option.{Option, none, some}
use Rattle.layout.specs.Pick.{pick}
use Rattle.regionmap.specs.Map.{place}
use Rattle.iobuf.specs.Turn.{stretch}
use Rattle.posix.specs.Posix.{Card, pwrite}
use Rattle.completion.specs.declared.{Completion.Completion, Refusal.Refusal, Reply.Reply}
use Rattle.model.specs.declared.Kind.TheVariants as Kind
use Rattle.model.specs.declared.{Awaits.Awaits, Row.Row, Call.Call}
use Rattle.model.specs.State.{State}
use Rattle.model.specs.Opening.{Plan}
use Rattle.step.specs.Questions.{region_at, held_at, byte_at}
use Rattle.step.specs.Rules.{piece_length, is_whole, Input, Input.answered, Input.flushed}
use Rattle.step.specs.Step.{queue_tag, row_of, row_at, bytes_at, plan_of, is_live}
use Rattle.step.specs.Run.{Made, Made.calls, Made.looks, Event, leave, next, reply_to}

abbrev pub is_some : {A : Type 0} → Option A → Bool
is_some none = false
is_some (some x) = true

-- how often a number stands in a list
unfoldable pub times : ℕ → List ℕ → ℕ
times x [] = 0
times x (y ∷ ys) = pick (eqb x y) 1 0 + times x ys

-- ---- what an event brings to an operation

-- a call as far as it brings something: the queue tag of an answer or a flush result, and what is fed to the operation there
abbrev pub arrival : Call → Option (ℕ × Input)
arrival (Call.Write q) = none
arrival (Call.ReadPage q) = none
arrival (Call.Answer t a back flushes) = some (t, answered a back flushes)
arrival (Call.Flushed t result) = some (t, flushed result)
arrival Call.Take = none
arrival (Call.SetGate h x) = none
arrival (Call.SetReadOnly h x) = none
arrival (Call.SetForced h x) = none
arrival (Call.ReportPoison c) = none

-- its queue tag, and what it brings to the operation under the queue tag t
abbrev pub tag_of : Option (ℕ × Input) → ℕ
tag_of none = 0
tag_of (some x) = x.0

abbrev pub under_it : ℕ → Option (ℕ × Input) → Option Input
under_it t none = none
under_it t (some x) = pick (eqb x.0 t) (some x.1) none

unfoldable pub brought_by : ℕ → Call → Option Input
brought_by t c = under_it t (arrival c)

unfoldable pub brought : ℕ → Made → Option Input
brought t (calls c) = brought_by t c
brought t (looks x) = none

unfoldable pub tag_in : Made → ℕ
tag_in (calls c) = tag_of (arrival c)
tag_in (looks x) = 0

-- a reply as far as the demands look at it: its refusal, the queue tag of the piece that it issues, the completion that it hands over
pub record View : Type 0 where
  pub refusal : Option Refusal
  pub issues : Option ℕ
  pub hands : List Completion

abbrev pub plain_view : View
plain_view = record { refusal = none; issues = none; hands = [] }

abbrev pub view_of : Reply → View
view_of (Reply.Piece t o n b) = record { refusal = none; issues = some t; hands = [] }
view_of (Reply.No f) = record { refusal = some f; issues = none; hands = [] }
view_of (Reply.Rejected g o e b) = plain_view
view_of (Reply.Done t) = plain_view
view_of (Reply.Flush t n) = plain_view
view_of (Reply.Took c) = record { refusal = none; issues = none; hands = c ∷ [] }
view_of Reply.None = plain_view
view_of Reply.Ok = plain_view
view_of (Reply.Writes w) = plain_view
view_of (Reply.Mark m) = plain_view

-- a reply that turns a call away
unfoldable pub is_away : Reply → Bool
is_away r = is_some (view_of r).refusal

-- "for a read, the bytes of the piece under way": how many bytes at the front of its buffer the host may change while an operation waits
unfoldable pub loose : Plan → Awaits → ℕ
loose g Awaits.Nothing = 0
loose g (Awaits.Piece (Kind.Page a b) s) = 0
loose g (Awaits.Piece (Kind.Read a b) s) = piece_length g (Kind.Read a b) s
loose g (Awaits.Flush t) = 0

-- the region of a row as the opening was given it
unfoldable pub plan_at : State → Row → Plan
plan_at s r = plan_of (region_at s r.handle)

-- "every byte the host leaves in a read's piece, past the count or before an error too"
unfoldable pub left_in : State → Row → List ℕ
left_in s r = take (loose (plan_at s r) r.awaits) (bytes_at s r.buffer)

-- an input, and the bytes left in the piece under way as it arrives
abbrev pub Given : Type 0
Given = Input × List ℕ

unfoldable pub given_as : Option Input → Bool → List ℕ → List Given
given_as none away left = []
given_as (some i) away left = pick away [] ((i, left) ∷ [])

-- what an event gives to the operation under the queue tag t, if it is not turned away
unfoldable pub given_by : State → Event → ℕ → List Given
given_by s e t = given_as (brought t e.made) (is_away (reply_to s e)) (left_in (leave s e.leaves) (row_at s (row_of t)))

-- the answers and flush results under the queue tag t that are not turned away, in their order
unfoldable pub given : State → List Event → ℕ → List Given
given s [] t = []
given s (e ∷ es) t = given_by s e t ++ given (next s e) es t

-- ---- what an operation gets

-- a completion, and every byte of its operation's buffer when the completing call returns
abbrev pub Completed : Type 0
Completed = Completion × List ℕ

unfoldable pub with_bytes : List ℕ → List Completion → List Completed
with_bytes bytes [] = []
with_bytes bytes (c ∷ cs) = (c, bytes) ∷ with_bytes bytes cs

-- the completions that an event adds behind those that were ready
unfoldable pub added_by : State → Event → List Completion
added_by s e = drop (length s.ready) (next s e).ready

unfoldable pub is_brought : Option Input → Bool
is_brought none = false
is_brought (some i) = true

-- all completions that the operation under the queue tag t gets, whose buffer is b
unfoldable pub gets : State → List Event → ℕ → ℕ → List Completed
gets s [] t b = []
gets s (e ∷ es) t b = pick (is_brought (brought t e.made)) (with_bytes (bytes_at (next s e) b) (added_by s e)) [] ++ gets (next s e) es t b

-- all completions that a list adds
unfoldable pub added : State → List Event → List Completion
added s [] = []
added s (e ∷ es) = added_by s e ++ added (next s e) es

-- what the takings of a list give
unfoldable pub took_by : Reply → List Completion
took_by r = (view_of r).hands

unfoldable pub takings : State → List Event → List Completion
takings s [] = []
takings s (e ∷ es) = took_by (reply_to s e) ++ takings (next s e) es

-- ---- the card: "nothing changes the card but a write's piece answered whole, by an answer not turned away: its bytes in the buffer go to its
-- offset"

-- an answer that takes a piece of n bytes whole
unfoldable pub takes_whole : ℕ → Option Input → Bool
takes_whole n none = false
takes_whole n (some (answered a back flushes)) = is_whole n a
takes_whole n (some (flushed result)) = false

unfoldable pub wrote_by : Plan → Awaits → List ℕ → Option Input → Card → Card
wrote_by g Awaits.Nothing bytes i card = card
wrote_by g (Awaits.Piece (Kind.Page a b) s) bytes i card =
    pick (takes_whole (piece_length g (Kind.Page a b) s) i)
    (pwrite card (place g.map (byte_at a.0 s.done)) (take (piece_length g (Kind.Page a b) s) bytes)) card
wrote_by g (Awaits.Piece (Kind.Read a b) s) bytes i card = card
wrote_by g (Awaits.Flush t) bytes i card = card

-- the card after an event
unfoldable pub card_by : State → Event → Card → Card
card_by s e card =
    let t = tag_in e.made in
    let r = row_at s (row_of t) in
    pick (is_away (reply_to s e)) card (wrote_by (plan_at s r) r.awaits (bytes_at (leave s e.leaves) r.buffer) (brought t e.made) card)

unfoldable pub card_after : State → List Event → Card → Card
card_after s [] card = card
card_after s (e ∷ es) card = card_after (next s e) es (card_by s e card)

-- ---- what the host may do

-- the buffer of a read whose piece is under way: only that piece's bytes differ
pub record LooseIn (s : State) (pool : List ℕ) (b : ℕ) : Type 0 where
  pub r : ℕ
  pub buffer : (row_at s r).buffer ≡ b
  pub live : is_live (row_at s r).awaits ≡ true
  pub same : drop (loose (plan_at s (row_at s r)) (row_at s r).awaits) (stretch s.settings.capacity b pool)
      ≡ drop (loose (plan_at s (row_at s r)) (row_at s r).awaits) (bytes_at s b)

-- "Between calls the host changes only buffers it holds and, for a read, the bytes of the piece under way, never row memory"
pub record HostMay (s : State) (pool : List ℕ) : Type 0 where
  pub count : length pool ≡ length s.pool
  pub each : (b : ℕ) → b < s.settings.buffers → (held_at s b ≡ true) ⊎ ((stretch s.settings.capacity b pool ≡ bytes_at s b) ⊎ LooseIn s pool b)

-- a history: any calls, between which the host keeps to its buffers
unfoldable pub Hosted : State → List Event → Type 0
Hosted s [] = Unit {0}
Hosted s (e ∷ es) = HostMay s e.leaves × Hosted (next s e) es

-- the queue tag of the operation in a row
unfoldable pub tag_at : State → ℕ → ℕ
tag_at s r = queue_tag r (row_at s r).generation
