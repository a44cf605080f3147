-- What a call does: from a state, the lengths that it is lent and the call, the next state and the reply. Turned away means that nothing changed.
use Rattle.std.specs.Prelude.{Bool, true, false, ◌&&◌, ◌||◌, List, [], ◌∷◌, ◌++◌, ℕ, ◌+◌, ◌*◌, ◌-◌, ◌/◌, ◌%◌, ◌^◌, min, length, get_or, set, drop, eqb, ltb}
use Rattle.std.proofs.Math.Option.{Option, none, some}
use Rattle.layout.specs.Pick.{pick}
use Rattle.regionmap.specs.declared.Position.{Position}
use Rattle.regionmap.specs.Words.{position_of}
use Rattle.iobuf.specs.Turn.{stretch, with_stretch}
use Rattle.domain.specs.declared.FirstCause.{FirstCause}
use Rattle.std.specs.declared.option.Option.{Option as StdOption}
use Rattle.domain.specs.Domain.{first_kept}
use Rattle.completion.specs.declared.Context.TheVariants as Context
use Rattle.completion.specs.declared.Refusal.{Refusal}
use Rattle.completion.specs.declared.{Outcome.Outcome, Completion.Completion, Reply.Reply}
use Rattle.completion.specs.Buffers.{Buffer}
use Rattle.std.specs.declared.option.Option.TheVariants.{Some as Back, None as Lost}
use Rattle.model.specs.declared.{Lengths.Lengths, Counts.Counts, Kind.Kind, Split.Split, Gate.Gate, Awaits.Awaits, Row.Row, Request.Request}
use Rattle.model.specs.declared.{Call.Call, Lookup.Lookup, Accepted.Accepted}
use Rattle.std.specs.declared.result.Result.{Result}
use Rattle.model.specs.State.{Region, Owner, Owner.host, Owner.table, Owner.lost, State, regions_as, poison_as, counts_as, rows_as, free_as, ready_as}
use Rattle.model.specs.State.{owners_as, pool_as, freed, live_rows}
use Rattle.model.specs.Opening.{Plan}
use Rattle.step.specs.Questions.{region_at, first_no, write_questions, read_questions, end_at, whole_of, Asked}
use Rattle.step.specs.Rules.{first_of, range_of, op_of, piece_of, piece_length, Input, Input.answered, Input.flushed, End, Fate, Fate.away}
use Rattle.step.specs.Rules.{Fate.awaits, Fate.ends, Fate.rejected, rules}

-- ---- an operation and its pieces

-- the range of a request
abbrev pub start_of : Request → Position
start_of q = q.offset

abbrev pub end_of : Request → Position
end_of q = position_of (end_at q)

-- the bytes done of a length: at first none
abbrev pub begun : ℕ → Split
begun total = record { total = total; done = 0 }

-- ---- a submission

-- "Queue tag = row + generation × 2^32."
unfoldable pub queue_tag : ℕ → ℕ → ℕ
queue_tag row generation = row + generation * 2 ^ 32

-- the row on top of the free stack
unfoldable pub top_of : List ℕ → ℕ
top_of free = get_or free 0 0

-- the row at a place
unfoldable pub row_at : State → ℕ → Row
row_at s r = get_or s.rows r (freed 0)

-- what a submission comes to: turned away, or accepted
abbrev pub Verdict : Type 0
Verdict = Result Accepted Refusal

-- the questions' answer and, if it is yes, what is accepted: "the row on top of the free stack is taken", "The reply is the first piece"
unfoldable pub verdict_of : Asked → State → Kind → Request → Verdict
verdict_of (Result.Err f) s k q = Result.Err f
verdict_of (Result.Ok _) s k q =
    Result.Ok (record { row = top_of s.free; kind = k; piece = piece_of (region_at s q.handle).map q.offset.0 (begun (whole_of q)) })

unfoldable pub write_verdict : State → Request → Verdict
write_verdict s q = verdict_of (first_no (write_questions s (region_at s q.handle) q)) s (Kind.Page (start_of q) (end_of q)) q

unfoldable pub read_verdict : State → Request → Verdict
read_verdict s q = verdict_of (first_no (read_questions s (region_at s q.handle) q)) s (Kind.Read (start_of q) (end_of q)) q

-- plain or durable: of a read "its durable mark is ignored"
unfoldable pub durable_as : Kind → Bool → Bool
durable_as (Kind.Page a b) d = d
durable_as (Kind.Read a b) d = false

-- the row of an accepted operation: it awaits its first piece; "The operation takes the next sequence number."
unfoldable pub claimed_by : ℕ → ℕ → Kind → Request → Row
claimed_by generation seq k q =
    record {
      generation = generation;
      tag = q.tag;
      seq = seq;
      handle = q.handle;
      buffer = q.buffer;
      durable = durable_as k q.durable;
      awaits = Awaits.Piece k (begun (whole_of q));
    }

-- one live row and one submission more
unfoldable pub one_more : Counts → Counts
one_more c = record { live = c.live + 1; ready = c.ready; submissions = c.submissions + 1 }

-- "Accepted: the row on top of the free stack is taken." The buffer goes to the table.
unfoldable pub accepted : State → ℕ → Kind → Request → State
accepted s r k q =
    counts_as (one_more s.counts)
    (rows_as (set s.rows r (claimed_by (row_at s r).generation s.counts.submissions k q))
    (free_as (drop 1 s.free) (owners_as (set s.owners q.buffer table) s)))

-- the state and the reply that a verdict leads to
unfoldable pub submitted : State → Request → Verdict → State × Reply
submitted s q (Result.Err f) = (s, Reply.No f)
submitted s q (Result.Ok a) =
    (accepted s a.row a.kind q, Reply.Piece (queue_tag a.row (row_at s a.row).generation) a.piece.offset a.piece.count q.buffer)

-- ---- an answer or a flush result

-- the row and the generation of a queue tag
unfoldable pub row_of : ℕ → ℕ
row_of t = t % 2 ^ 32

unfoldable pub generation_of : ℕ → ℕ
generation_of t = t / 2 ^ 32

-- "Does the tag name a live row with its generation?"
unfoldable pub is_live : Awaits → Bool
is_live Awaits.Nothing = false
is_live (Awaits.Piece k s) = true
is_live (Awaits.Flush t) = true

unfoldable pub names : Row → ℕ → Bool
names r t = is_live r.awaits && eqb r.generation (generation_of t)

-- the bytes of a buffer
unfoldable pub bytes_at : State → ℕ → List ℕ
bytes_at s b = stretch s.settings.capacity b s.pool

-- "Completing frees the row and raises its generation, which returns to 0 after 4,294,967,295."
unfoldable pub raised : ℕ → ℕ
raised generation = (generation + 1) % 2 ^ 32

-- a row as it awaits something else
unfoldable pub awaits_now : Row → Awaits → Row
awaits_now r a =
    record { generation = r.generation; tag = r.tag; seq = r.seq; handle = r.handle; buffer = r.buffer; durable = r.durable; awaits = a }

-- one live row less, and one completion more or none
unfoldable pub one_less : Counts → ℕ → Counts
one_less c more = record { live = c.live - 1; ready = c.ready + more; submissions = c.submissions }

-- who has the buffer of an operation that completed ("taking one gives its buffer back") or was rejected ("The host gets .. its buffer, if it came
-- back")
unfoldable pub kept_by : Owner → Buffer → Owner
kept_by who (Back h) = who
kept_by who Lost = lost

-- "and the store is poisoned with the cause .., the first cause kept"
unfoldable pub poison_with : StdOption FirstCause → Option FirstCause → StdOption FirstCause
poison_with p none = p
poison_with p (some cause) = first_kept p cause

-- a live row in place r goes on: it awaits something else, and its buffer has other bytes
unfoldable pub going : State → ℕ → Row → Awaits → List ℕ → State
going s r row a bytes =
    rows_as (set s.rows r (awaits_now row a)) (pool_as (with_stretch s.settings.capacity row.buffer bytes s.pool) s)

-- a live row in place r is freed, at a generation, with a completion or none: "a freed row goes on top"
unfoldable pub freeing : State → ℕ → Row → ℕ → List Completion → Owner → List ℕ → Option FirstCause → State
freeing s r row generation more who bytes cause =
    poison_as (poison_with s.poison cause)
    (counts_as (one_less s.counts (length more))
    (rows_as (set s.rows r (freed generation))
    (free_as (r ∷ s.free)
    (ready_as (s.ready ++ more)
    (owners_as (set s.owners row.buffer who)
    (pool_as (with_stretch s.settings.capacity row.buffer bytes s.pool) s))))))

-- a region as the opening was given it
unfoldable pub plan_of : Region → Plan
plan_of g = record { id = g.id; generation = g.generation; map = g.map }

-- "and the next piece is the reply"; "keeps the row and replies with tag and need". The rules never leave an operation awaiting nothing.
unfoldable pub asks_for : Plan → ℕ → ℕ → Awaits → Reply
asks_for g t b Awaits.Nothing = Reply.Done t
asks_for g t b (Awaits.Piece k s) = Reply.Piece t (piece_of g.map (first_of k).0 s).offset (piece_length g k s) b
asks_for g t b (Awaits.Flush ticket) = Reply.Flush t ticket.need

-- a completion
unfoldable pub completion_of : Row → Outcome → Buffer → Completion
completion_of r o b = record { tag = r.tag; outcome = o; buf = b }

-- the completion of an operation that ends
abbrev pub completed : Row → End → Completion
completed r e = completion_of r e.outcome e.buffer

-- "The host gets Io or QueueFull and the range, and its buffer". Only an operation that awaits a piece is rejected (proofs/Fates.antt).
unfoldable pub rejection : Plan → Awaits → StdOption ℕ → Buffer → Reply
rejection g Awaits.Nothing e b = Reply.No Refusal.NotAwaited
rejection g (Awaits.Piece k s) e b = Reply.Rejected (range_of g k) (op_of k) e b
rejection g (Awaits.Flush t) e b = Reply.No Refusal.NotAwaited

-- what becomes of the operation in a row is carried into the table, under its queue tag
unfoldable pub settled : State → ℕ → Row → Fate → State × Reply
settled s t row (away f) = (s, Reply.No f)
settled s t row (awaits a bytes) = (going s (row_of t) row a bytes, asks_for (plan_of (region_at s row.handle)) t row.buffer a)
settled s t row (ends e) =
    (freeing s (row_of t) row (raised row.generation) (completed row e ∷ []) (kept_by table e.buffer) e.bytes e.cause, Reply.Done t)
settled s t row (rejected e b bytes) =
    (freeing s (row_of t) row row.generation [] (kept_by host b) bytes none, rejection (plan_of (region_at s row.handle)) row.awaits e b)

-- what the rules say of the operation in a row
unfoldable pub fate_of : State → Row → Input → Fate
fate_of s row i =
    rules s.settings (plan_of (region_at s row.handle)) (region_at s row.handle).forced s.poison row (bytes_at s row.buffer) i

-- "Does the tag name a live row with its generation? No: 14."
unfoldable pub under_tag : State → ℕ → Input → State × Reply
under_tag s t i =
    pick (names (row_at s (row_of t)) t) (settled s t (row_at s (row_of t)) (fate_of s (row_at s (row_of t)) i)) (s, Reply.No Refusal.UnknownTag)

-- ---- the other calls

-- "taking one gives its buffer back, if it came back"
unfoldable pub given_back : List Owner → Buffer → List Owner
given_back owners (Back h) = set owners h.buffer host
given_back owners Lost = owners

-- one completion less
abbrev pub one_taken : Counts → Counts
one_taken c = record { live = c.live; ready = c.ready - 1; submissions = c.submissions }

-- "Completions are taken oldest first"; "With none ready the reply is none and nothing changes."
unfoldable pub taken : State → List Completion → State × Reply
taken s [] = (s, Reply.None)
taken s (c ∷ more) = (counts_as (one_taken s.counts) (ready_as more (owners_as (given_back s.owners c.buf) s)), Reply.Took c)

unfoldable pub with_regions : State → List Region → State
with_regions s gs = regions_as gs s

unfoldable pub with_poison : State → StdOption FirstCause → State
with_poison s p = poison_as p s

-- "set a region's gate, read-only or forced mark (unknown handle: 1)"
unfoldable pub marked : State → ℕ → Region → State × Reply
marked s h g =
    pick (ltb h s.settings.regions) (with_regions s (set s.regions h g), Reply.Ok) (s, Reply.No (Refusal.ForeignPosition Context.None))

unfoldable pub with_gate : Region → Gate → Region
with_gate g x = record { id = g.id; generation = g.generation; map = g.map; gate = x; read_only = g.read_only; forced = g.forced }

unfoldable pub with_read_only : Region → Bool → Region
with_read_only g x = record { id = g.id; generation = g.generation; map = g.map; gate = g.gate; read_only = x; forced = g.forced }

unfoldable pub with_forced : Region → Bool → Region
with_forced g x = record { id = g.id; generation = g.generation; map = g.map; gate = g.gate; read_only = g.read_only; forced = x }

-- ---- the lookups, which change nothing

-- "whether a write still awaits a piece"
unfoldable pub writes_in : Awaits → Bool
writes_in Awaits.Nothing = false
writes_in (Awaits.Piece (Kind.Page a b) s) = true
writes_in (Awaits.Piece (Kind.Read a b) s) = false
writes_in (Awaits.Flush t) = false

unfoldable pub any_writes : List Row → Bool
any_writes [] = false
any_writes (r ∷ rs) = writes_in r.awaits || any_writes rs

-- the oldest live sequence number, or the one given if none is live
unfoldable pub oldest : ℕ → List Row → ℕ
oldest n [] = n
oldest n (r ∷ rs) = pick (is_live r.awaits) (min r.seq (oldest n rs)) (oldest n rs)

-- "the mark, 2 × the oldest live sequence number + 1, or 2 × the next if none is live"
unfoldable pub mark_of : State → ℕ
mark_of s = pick (eqb (live_rows s.rows) 0) (2 * s.counts.submissions) (2 * oldest s.counts.submissions s.rows + 1)

unfoldable pub looked_up : State → Lookup → Reply
looked_up s Lookup.WritesLive = Reply.Writes (any_writes s.rows)
looked_up s Lookup.Mark = Reply.Mark (mark_of s)

-- ---- the step

-- the lengths are those of the opening
unfoldable pub eq_lengths : Lengths → Lengths → Bool
eq_lengths a b =
    eqb a.rows b.rows && (eqb a.store b.store
    && (eqb a.free b.free && (eqb a.ready b.ready && (eqb a.owners b.owners && eqb a.pool b.pool))))

unfoldable pub called : State → Call → State × Reply
called s (Call.Write q) = submitted s q (write_verdict s q)
called s (Call.ReadPage q) = submitted s q (read_verdict s q)
called s (Call.Answer t a back flushes) = under_tag s t (answered a back flushes)
called s (Call.Flushed t result) = under_tag s t (flushed result)
called s Call.Take = taken s s.ready
called s (Call.SetGate h x) = marked s h (with_gate (region_at s h) x)
called s (Call.SetReadOnly h x) = marked s h (with_read_only (region_at s h) x)
called s (Call.SetForced h x) = marked s h (with_forced (region_at s h) x)
called s (Call.ReportPoison cause) = (with_poison s (first_kept s.poison cause), Reply.Ok)

-- "A later call with another length of row memory or pool gets 13 first."
unfoldable pub step : State → Lengths → Call → State × Reply
step s l c = pick (eq_lengths l s.lengths) (called s c) (s, Reply.No Refusal.Unfit)

-- a lookup, likewise
unfoldable pub look : State → Lengths → Lookup → Reply
look s l x = pick (eq_lengths l s.lengths) (looked_up s x) (Reply.No Refusal.Unfit)
