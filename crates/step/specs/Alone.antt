-- "An operation alone is the map and the rules above, fed its request, its buffer at acceptance, then, until it ends, the answers and flush results
-- under its queue tag. With each go the bytes left in a read's piece, the flush count, the forced mark last set and the first cause so far: that of a
-- report, or of a write that, run alone, was ended DurabilityUnknown by a piece's answer and not by a flush result. Those that get 13 to 16 change
-- nothing." Nothing is read off the table but an acceptance: its reply with the queue tag. 13 follows from the lengths lent, 14 from what was
-- accepted under the tag, and 15 and 16 are judged here, by the rules (D-27). These are the table's own (`rules`, Rules.antt), so that a wrong rule
-- would be wrong in both: demand 2, the Rust (crate rusttable) and the figures hold them to document 01.
use Rattle.std.specs.Prelude.{Bool, false, List, [], ◌∷◌, ◌++◌, ℕ, ◌+◌, length, take, drop, get_or, eqb, ltb}
use Rattle.std.proofs.Math.Option.{Option, none, some}
use Rattle.layout.specs.Pick.{pick}
use Rattle.iobuf.specs.Turn.{stretch}
use Rattle.domain.specs.declared.FirstCause.{FirstCause}
use Rattle.std.specs.declared.option.Option.{Option as StdOption}
use Rattle.domain.specs.Domain.{first_kept}
use Rattle.completion.specs.declared.Reply.{Reply}
use Rattle.model.specs.declared.{Opening.Opening, Lengths.Lengths, Kind.Kind, Row.Row, Request.Request, Call.Call}
use Rattle.model.specs.State.{State}
use Rattle.model.specs.Opening.{Plan, plan_in}
use Rattle.step.specs.Rules.{Input, Input.answered, Input.flushed, Fate, Fate.away, Fate.awaits, Fate.ends, Fate.rejected, rules}
use Rattle.step.specs.Step.{start_of, end_of, claimed_by, generation_of, awaits_now, completion_of, poison_with, eq_lengths}
use Rattle.step.specs.Run.{Made, Made.calls, Made.looks, Event, next, reply_to}
use Rattle.step.specs.Lists.{view_of, Completed, loose}

-- how far an operation alone has come: it is open, with its region's plan as it was at its acceptance, its row and the bytes of its buffer; it has
-- completed; or its first piece was refused
pub data Course : Type 0 where
  is_open : Plan → Row → List ℕ → Course
  completed : Completed → Course
  was_refused : Course

-- every operation alone under its queue tag, the regions' plans (the opening's: no call changes them), the forced marks last set, the first cause so
-- far, and how many were accepted
pub record Alones : Type 0 where
  pub ops : ℕ → Option Course
  pub plans : List Plan
  pub forced : ℕ → Bool
  pub first : StdOption FirstCause
  pub count : ℕ

-- "At first .. no region is .. forced, nothing is poisoned"
unfoldable pub none_yet : List Plan → Alones
none_yet ps = record { ops = λ t. none; plans = ps; forced = λ h. false; first = StdOption.None; count = 0 }

-- with other operations
abbrev pub ops_as : (ℕ → Option Course) → Alones → Alones
ops_as ops a = record { ops = ops; plans = a.plans; forced = a.forced; first = a.first; count = a.count }

-- with another first cause
abbrev pub first_as : StdOption FirstCause → Alones → Alones
first_as p a = record { ops = a.ops; plans = a.plans; forced = a.forced; first = p; count = a.count }

-- with other forced marks
abbrev pub forced_as : (ℕ → Bool) → Alones → Alones
forced_as f a = record { ops = a.ops; plans = a.plans; forced = f; first = a.first; count = a.count }

-- the plan of a region
abbrev pub plan_for : Alones → ℕ → Plan
plan_for a h = get_or a.plans h (plan_in [])

-- a function with another value in one place
unfoldable pub put_at : {A : Type 0} → ℕ → A → (ℕ → A) → ℕ → A
put_at t x f t' = pick (eqb t t') x (f t')

-- ---- an acceptance

-- the queue tag of a reply that accepts
unfoldable pub tag_given : Reply → Option ℕ
tag_given r = (view_of r).issues

-- "fed its request, its buffer at acceptance"
unfoldable pub begins : Alones → Kind → Request → List ℕ → Option ℕ → Alones
begins a k q bytes none = a
begins a k q bytes (some t) =
    record {
      ops = put_at t (some (is_open (plan_for a q.handle) (claimed_by (generation_of t) a.count k q) bytes)) a.ops;
      plans = a.plans;
      forced = a.forced;
      first = a.first;
      count = a.count + 1;
    }

-- ---- an answer or a flush result

-- the bytes of the buffer as an input arrives: those left in a read's piece, then the rest
unfoldable pub with_left : ℕ → List ℕ → List ℕ → List ℕ
with_left n left bytes = take n left ++ drop n bytes

unfoldable pub onward : Plan → Row → List ℕ → Fate → Course
onward g r bytes (away f) = is_open g r bytes
onward g r bytes (awaits a bytes') = is_open g (awaits_now r a) bytes'
onward g r bytes (ends e) = completed (completion_of r e.outcome e.buffer, e.bytes)
onward g r bytes (rejected e b bytes') = was_refused

-- "a write that .. was ended DurabilityUnknown by a piece's answer"
unfoldable pub blamed : Fate → Option FirstCause
blamed (away f) = none
blamed (awaits a bytes) = none
blamed (ends e) = e.cause
blamed (rejected e b bytes) = none

module _ (o : Opening) (l : Lengths) where
  -- what the rules say of an operation alone, where the host leaves the pool so
  unfoldable pub alone_fate : Alones → List ℕ → Plan → Row → List ℕ → Input → Fate
  alone_fate a pool g r bytes i =
      rules o g (a.forced r.handle) a.first r (with_left (loose g r.awaits) (stretch o.capacity r.buffer pool) bytes) i

  -- an operation is fed "until it ends"
  unfoldable pub feeds : Alones → List ℕ → ℕ → Input → Option Course → Alones
  feeds a pool t i none = a
  feeds a pool t i (some (is_open g r bytes)) =
      let f = alone_fate a pool g r bytes i in
      ops_as (put_at t (some (onward g r bytes f)) a.ops) (first_as (poison_with a.first (blamed f)) a)
  feeds a pool t i (some (completed c)) = a
  feeds a pool t i (some was_refused) = a

  -- a call, with the pool as the host leaves it and its reply
  unfoldable pub heard_call : Alones → List ℕ → Call → Reply → Alones
  heard_call a pool (Call.Write q) reply = begins a (Kind.Page (start_of q) (end_of q)) q (stretch o.capacity q.buffer pool) (tag_given reply)
  heard_call a pool (Call.ReadPage q) reply = begins a (Kind.Read (start_of q) (end_of q)) q (stretch o.capacity q.buffer pool) (tag_given reply)
  heard_call a pool (Call.Answer t x back flushes) reply = feeds a pool t (answered x back flushes) (a.ops t)
  heard_call a pool (Call.Flushed t result) reply = feeds a pool t (flushed result) (a.ops t)
  heard_call a pool Call.Take reply = a
  heard_call a pool (Call.SetGate h x) reply = a
  heard_call a pool (Call.SetReadOnly h x) reply = a
  heard_call a pool (Call.SetForced h x) reply = pick (ltb h (length a.plans)) (forced_as (put_at h x a.forced) a) a
  heard_call a pool (Call.ReportPoison cause) reply = first_as (first_kept a.first cause) a

  unfoldable pub heard : Alones → List ℕ → Made → Reply → Alones
  heard a pool (calls c) reply = heard_call a pool c reply
  heard a pool (looks x) reply = a

  -- an event; one with another length gets 13
  unfoldable pub alone_next : Alones → Event → Reply → Alones
  alone_next a e reply = pick (eq_lengths e.lengths l) (heard a e.leaves e.made reply) a

  -- every operation alone after a list of calls
  unfoldable pub alones : State → Alones → List Event → Alones
  alones s a [] = a
  alones s a (e ∷ es) = alones (next s e) (alone_next a e (reply_to s e)) es
