-- The Rust's functions over whole histories: what the Rust is handed for the events of a history in the domain of the comparison, its functions run
-- over that from its own opening, and the theorem that they leave `step`'s table and hand back what `step` replies, in order. Where the queue refuses
-- a first piece, one call of the Rust is two events: the submission, and the refusal that comes next. A lookup hands the Rust nothing here: the
-- Rust's `order` and `mark` are left out (Table).
use Rattle.std.specs.Prelude.{◌≡◌, Bool, true, false, List, [], ◌∷◌, ◌++◌, map, ℕ, get_or, set}
use Rattle.std.proofs.Math.Option
use Rattle.std.proofs.Math.Option.{Option, none, some}
use Rattle.layout.specs.Pick.{pick}
use Rattle.domain.specs.declared.FirstCause.{FirstCause}
use Rattle.std.specs.declared.option.Option.{Option as StdOption}
use Rattle.platform.specs.declared.Answer.{Answer}
use Rattle.completion.specs.declared.Reply.{Reply}
use Rattle.model.specs.declared.{Opening.Opening, Lengths.Lengths, Gate.Gate}
use Rattle.model.specs.declared.Call.TheVariants as Call
use Rattle.model.specs.State.{Region, State, no_region}
use Rattle.model.specs.Opening.{Plan, at_first}
use Rattle.step.specs.Step.{with_gate, with_read_only, with_forced}
use Rattle.step.specs.Run.{Made, Made.calls, Made.looks, Event, leave, next, reply_to, run, Start, plans_of, opened_by}
use Rattle.step.specs.Alone.{tag_given}
use Rattle.step.specs.Lists.{HostMay}
use Rattle.rusttable.specs.Table.{Result, Result.Ok, Result.Err, IoBuf, RawError, RawResult, Flushed, Completion, Finish, Submitter, RegionPos}
use Rattle.rusttable.specs.Table.{Submitted, Submitted.Taken, Submitted.Refused as QueueRefuses, Issued}
use Rattle.rusttable.specs.Functions.{is_some, returned, with_table, with_store, finish as rustFinish, refused_next, flushed as rustFlushed}
use Rattle.rusttable.specs.Functions.{poison as rustPoison, next as rustNext, write as rustWrite, read_page, new as rustNew}
use Rattle.rusttable.specs.Domain.{InDomain}
use Rattle.rusttable.specs.AsStep.{buf_of, submitter_of, in_flight, flushed_of, pos_of, finish_as, front_as, issued_as}

-- ---- the Rust's run

-- what a function of the Rust is handed, with the queue's verdict on a first piece; with an answer goes how many flushes were issued by then, which
-- the Rust's domain counts itself. A setting hands over a region's handle and the new mark alone, a report the cause (`Domain::poison`).
pub data Handed : Type 0 where
  ToWrite : ℕ → RegionPos → IoBuf → Bool → ℕ → Submitted → Handed
  ToReadPage : ℕ → RegionPos → IoBuf → ℕ → Submitted → Handed
  ToFinish : ℕ → Option IoBuf → RawResult → ℕ → Handed
  ToRefusedNext : ℕ → Option IoBuf → Option RawError → ℕ → Handed
  ToFlushed : ℕ → Flushed → Handed
  ToNext : Handed
  ToGate : ℕ → Gate → Handed
  ToReadOnly : ℕ → Bool → Handed
  ToForced : ℕ → Bool → Handed
  ToPoison : FirstCause → Handed

-- what it hands back
pub data HandedBack : Type 0 where
  submits : Issued → HandedBack
  finishes : Finish → HandedBack
  takes : Option Completion → HandedBack

unfoldable pub with_issued : Submitter → ℕ → Submitter
with_issued r issued = with_store r (record { settings = r.store.settings; regions = r.store.regions; poison = r.store.poison; issued = issued })

-- gate.rs and lifecycle.rs are not in docs/src. What a setting is taken to do: the store's own region at the handle gets the mark, and all else of
-- the store stays.
unfoldable pub with_mark : Submitter → ℕ → (Region → Region) → Submitter
with_mark r handle mark =
    with_store r (record {
      settings = r.store.settings;
      regions = set r.store.regions handle (mark (get_or r.store.regions handle no_region));
      poison = r.store.poison;
      issued = r.store.issued;
    })

unfoldable pub rust_step : Submitter → Handed → Submitter × List HandedBack
rust_step r (ToWrite handle pos buf durable tag queue) = let z = rustWrite r handle pos buf durable tag queue in (z.0, submits z.1 ∷ [])
rust_step r (ToReadPage handle pos buf tag queue) = let z = read_page r handle pos buf tag queue in (z.0, submits z.1 ∷ [])
rust_step r (ToFinish qtag buf result issued) = let z = rustFinish (with_issued r issued) qtag buf result in (z.0, finishes z.1 ∷ [])
rust_step r (ToRefusedNext qtag buf raw issued) = let z = refused_next (with_issued r issued) qtag buf raw in (z.0, finishes z.1 ∷ [])
rust_step r (ToFlushed qtag result) = (rustFlushed r qtag result, [])
rust_step r ToNext = let z = rustNext r.table in (with_table r z.table, takes z.front ∷ [])
rust_step r (ToGate handle x) = (with_mark r handle (λ g. with_gate g x), [])
rust_step r (ToReadOnly handle x) = (with_mark r handle (λ g. with_read_only g x), [])
rust_step r (ToForced handle x) = (with_mark r handle (λ g. with_forced g x), [])
rust_step r (ToPoison cause) = (with_store r (rustPoison r.store cause), [])

unfoldable pub rust_run : Submitter → List Handed → Submitter × List HandedBack
rust_run r [] = (r, [])
rust_run r (h ∷ hs) = let z = rust_step r h in let behind = rust_run z.0 hs in (behind.0, z.1 ++ behind.1)

-- "At first gates are open, no region is read-only or forced, nothing is poisoned"
unfoldable pub rust_opened : Opening → List Plan → Submitter
rust_opened o plans =
    record { store = record { settings = o; regions = map at_first plans; poison = StdOption.None; issued = 0 }; table = rustNew o.depth }

-- ---- what the events of a history hand it

-- an answer as the Rust has it: a result, or a refusal
unfoldable pub as_rust : Answer → Result RawResult (Option RawError)
as_rust (Answer.Count n) = Ok (Ok n)
as_rust (Answer.Error e media) = Ok (Err (record { raw = e; media = media }))
as_rust Answer.Refused = Err none
as_rust (Answer.RefusedWith e media) = Err (some (record { raw = e; media = media }))

unfoldable pub is_submission : Made → Bool
is_submission (calls (Call.Write q)) = true
is_submission (calls (Call.ReadPage q)) = true
is_submission (calls (Call.Answer t a back flushes)) = false
is_submission (calls (Call.Flushed t result)) = false
is_submission (calls Call.Take) = false
is_submission (calls (Call.SetGate h x)) = false
is_submission (calls (Call.SetReadOnly h x)) = false
is_submission (calls (Call.SetForced h x)) = false
is_submission (calls (Call.ReportPoison cause)) = false
is_submission (looks x) = false

-- the queue's refusal, if an event is one: its error, and the buffer as the queue gives it back, by the bytes that lie there then
unfoldable pub refusal : State → ℕ → Bool → Result RawResult (Option RawError) → Option (Option RawError × Option IoBuf)
refusal s t back (Ok result) = none
refusal s t back (Err raw) = some (raw, returned back (in_flight s t))

unfoldable pub refused_by : State → Made → Option (Option RawError × Option IoBuf)
refused_by s (calls (Call.Write q)) = none
refused_by s (calls (Call.ReadPage q)) = none
refused_by s (calls (Call.Answer t a back flushes)) = refusal s t back (as_rust a)
refused_by s (calls (Call.Flushed t result)) = none
refused_by s (calls Call.Take) = none
refused_by s (calls (Call.SetGate h x)) = none
refused_by s (calls (Call.SetReadOnly h x)) = none
refused_by s (calls (Call.SetForced h x)) = none
refused_by s (calls (Call.ReportPoison cause)) = none
refused_by s (looks x) = none

-- the queue's verdict on a first piece, by the event behind its submission: "a piece that the queue refuses is refused before any other call"
unfoldable pub verdict_as : Option (Option RawError × Option IoBuf) → Submitted
verdict_as none = Taken
verdict_as (some z) = QueueRefuses z.0 z.1

unfoldable pub verdict : State → List Event → Submitted
verdict s [] = Taken
verdict s (e ∷ es) = verdict_as (refused_by (leave s e.leaves) e.made)

-- an answer hands the Rust the buffer as the queue gives it back; a refused first piece went with its submission
unfoldable pub answer_to : Bool → State → ℕ → Bool → ℕ → Result RawResult (Option RawError) → List Handed
answer_to after s t back flushes (Ok result) = ToFinish t (returned back (in_flight s t)) result flushes ∷ []
answer_to after s t back flushes (Err raw) = pick after [] (ToRefusedNext t (returned back (in_flight s t)) raw flushes ∷ [])

-- what an event hands the Rust, where the one before was a submission or not, and with the queue's verdict on what it submits
unfoldable pub handed_by : Bool → State → Made → Submitted → List Handed
handed_by after s (calls (Call.Write q)) queue = ToWrite q.handle (pos_of q) (buf_of s q.buffer q.length) q.durable q.tag queue ∷ []
handed_by after s (calls (Call.ReadPage q)) queue = ToReadPage q.handle (pos_of q) (buf_of s q.buffer q.length) q.tag queue ∷ []
handed_by after s (calls (Call.Answer t a back flushes)) queue = answer_to after s t back flushes (as_rust a)
handed_by after s (calls (Call.Flushed t result)) queue = ToFlushed t (flushed_of result) ∷ []
handed_by after s (calls Call.Take) queue = ToNext ∷ []
handed_by after s (calls (Call.SetGate h x)) queue = ToGate h x ∷ []
handed_by after s (calls (Call.SetReadOnly h x)) queue = ToReadOnly h x ∷ []
handed_by after s (calls (Call.SetForced h x)) queue = ToForced h x ∷ []
handed_by after s (calls (Call.ReportPoison cause)) queue = ToPoison cause ∷ []
handed_by after s (looks x) queue = []

unfoldable pub handed : Bool → State → List Event → List Handed
handed after s [] = []
handed after s (e ∷ es) = handed_by after (leave s e.leaves) e.made (verdict (next s e) es) ++ handed (is_submission e.made) (next s e) es

-- ---- what `step` replies, as the Rust hands it back

-- a submission comes to its own state and reply, or to those of the refusal behind it
unfoldable pub comes_to : State × Reply → List Event → State × Reply
comes_to z [] = z
comes_to z (e ∷ es) = pick (is_some (refused_by (leave z.0 e.leaves) e.made)) (next z.0 e, reply_to z.0 e) z

unfoldable pub answer_says : Bool → State × Reply → Result RawResult (Option RawError) → List (Option HandedBack)
answer_says after z (Ok result) = Option.map finishes (finish_as z.0 z.1) ∷ []
answer_says after z (Err raw) = pick after [] (Option.map finishes (finish_as z.0 z.1) ∷ [])

-- none, where the Rust has no such value
unfoldable pub said_by : Bool → State → Made → State × Reply → List Event → List (Option HandedBack)
said_by after s (calls (Call.Write q)) z es =
    Option.map submits (issued_as true (comes_to z es).0 (buf_of s q.buffer q.length) (comes_to z es).1) ∷ []
said_by after s (calls (Call.ReadPage q)) z es =
    Option.map submits (issued_as false (comes_to z es).0 (buf_of s q.buffer q.length) (comes_to z es).1) ∷ []
said_by after s (calls (Call.Answer t a back flushes)) z es = answer_says after z (as_rust a)
said_by after s (calls (Call.Flushed t result)) z es = []
said_by after s (calls Call.Take) z es = Option.map takes (front_as z.0 z.1) ∷ []
said_by after s (calls (Call.SetGate h x)) z es = []
said_by after s (calls (Call.SetReadOnly h x)) z es = []
said_by after s (calls (Call.SetForced h x)) z es = []
said_by after s (calls (Call.ReportPoison cause)) z es = []
said_by after s (looks x) z es = []

unfoldable pub said : Bool → State → List Event → List (Option HandedBack)
said after s [] = []
said after s (e ∷ es) = said_by after (leave s e.leaves) e.made (next s e, reply_to s e) es ++ said (is_submission e.made) (next s e) es

-- ---- the claim

-- a history in the domain: every call is, with the tag that the reply before it issued, and the host writes only as document 01 allows. Nothing else
-- is asked of what the host writes, and so not between a submission and the refusal of its first piece either. There the Rust is within one call: its
-- table holds no byte of a buffer that the host may write (AsStep, leaves), and the buffer that it hands back is the one that the queue gives back,
-- with what was written into a read's piece.
-- So the offset of every write call of the history is on the block, and not only that of the last: behind a write that only the Rust accepts the two
-- tables differ (OffBlock).
unfoldable pub MadeIn : Option ℕ → State → Lengths → Made → Type 0
MadeIn before s l (calls c) = InDomain before s l c
MadeIn before s l (looks x) = Unit {0}

unfoldable pub HistoryIn : Option ℕ → State → List Event → Type 0
HistoryIn before s [] = Unit {0}
HistoryIn before s (e ∷ es) =
    HostMay s e.leaves × MadeIn before (leave s e.leaves) e.lengths e.made × HistoryIn (tag_given (reply_to s e)) (next s e) es

-- the Rust's last submitter is the table's, with the flush count that it has, and what it handed back is what was said, in order
pub record Agrees (rust : Submitter × List HandedBack) (s : State) (says : List (Option HandedBack)) : Type 0 where
  pub state : rust.0 ≡ submitter_of s rust.0.store.issued
  pub replies : map some rust.1 ≡ says

-- of every opening that is admitted and every history that HistoryIn admits. Proved in proofs/Histories.antt (as-history).
abbrev pub AsHistory : Type 0
AsHistory = (x : Start) (es : List Event) → HistoryIn none (opened_by x) es
    → Agrees (rust_run (rust_opened x.opening (plans_of x)) (handed false (opened_by x) es)) (run (opened_by x) es) (said false (opened_by x) es)
