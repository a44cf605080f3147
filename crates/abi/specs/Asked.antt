-- "A request names a region handle, a position (volume, region, generation, offset), a buffer, its length, plain or durable, and the host's tag."
-- "Forms: a count; an OS error, marked media or not by the host; refused by the queue; refused with an OS error, marked likewise." What a host asks
-- for in numbers: a call, or, by a code that names nothing (a gate, a form or an operation that there is not), none.
use Rattle.std.specs.Prelude.{Bool, List, ℕ, get_or, ltb, eqb}
use Rattle.std.proofs.Math.Option.{Option, none, some}
use Rattle.layout.specs.Pick.{pick}
use Rattle.regionmap.specs.Words.{position_of}
use Rattle.domain.specs.declared.FirstCause.{FirstCause}
use Rattle.std.specs.declared.option.Option.{Option as StdOption}
use Rattle.platform.specs.declared.{Answer.Answer, Flushed.Flushed}
use Rattle.model.specs.declared.{Gate.Gate, Request.Request, Call.Call}
use Rattle.model.specs.Memory.{flag, op_in, gate_in}

-- a request in 9 words, in the order of the sentence
unfoldable pub request_in : List ℕ → Request
request_in w =
    record {
      handle = get_or w 0 0;
      volume = get_or w 1 0;
      region = get_or w 2 0;
      generation = get_or w 3 0;
      offset = position_of (get_or w 4 0);
      buffer = get_or w 5 0;
      length = get_or w 6 0;
      durable = flag (get_or w 7 0);
      tag = get_or w 8 0;
    }

-- an OS error, or none
unfoldable pub error_of : Bool → ℕ → StdOption ℕ
error_of has raw = pick has (StdOption.Some raw) StdOption.None

-- "A cause is an operation (none, read, write or flush) with an OS error or none.": 0 none, 1 read, 2 write, 3 flush
unfoldable pub cause_of : ℕ → Bool → ℕ → FirstCause
cause_of op has raw = record { op = op_in op; raw = error_of has raw }

-- forms: 0 a count, 1 an error, 2 refused, 3 refused with an error
unfoldable pub answer_form : ℕ → ℕ → ℕ → Bool → StdOption Answer
answer_form form count raw media =
    pick (eqb form 0) (StdOption.Some (Answer.Count count))
    (pick (eqb form 1) (StdOption.Some (Answer.Error raw media))
    (pick (eqb form 2) (StdOption.Some Answer.Refused) (pick (eqb form 3) (StdOption.Some (Answer.RefusedWith raw media)) StdOption.None)))

unfoldable pub answering : ℕ → Bool → ℕ → StdOption Answer → Option Call
answering qtag back flushes (StdOption.Some answer) = some (Call.Answer qtag answer back flushes)
answering qtag back flushes StdOption.None = none

abbrev pub answer_asked : ℕ → ℕ → ℕ → ℕ → Bool → Bool → ℕ → Option Call
answer_asked qtag form count raw media back flushes = answering qtag back flushes (answer_form form count raw media)

-- "A flush result is a need or a failure: DurabilityUnknown, with its operation and with or without an OS error, or Poisoned with its cause.":
-- 0 a need, 1 unknown, 2 poisoned
unfoldable pub flushed_form : ℕ → ℕ → ℕ → Bool → ℕ → StdOption Flushed
flushed_form form need op has raw =
    pick (eqb form 0) (StdOption.Some (Flushed.Need need))
    (pick (ltb op 4)
    (pick (eqb form 1) (StdOption.Some (Flushed.Unknown (cause_of op has raw)))
    (pick (eqb form 2) (StdOption.Some (Flushed.Poisoned (cause_of op has raw))) StdOption.None)) StdOption.None)

unfoldable pub flushing : ℕ → StdOption Flushed → Option Call
flushing qtag (StdOption.Some result) = some (Call.Flushed qtag result)
flushing qtag StdOption.None = none

abbrev pub flushed_asked : ℕ → ℕ → ℕ → ℕ → Bool → ℕ → Option Call
flushed_asked qtag form need op has raw = flushing qtag (flushed_form form need op has raw)

-- "recycled 4 StaleGeneration, released 5 NotReady": gates: 0 open, 1 recycled, 2 released
unfoldable pub gate_form : ℕ → StdOption Gate
gate_form gate = pick (ltb gate 3) (StdOption.Some (gate_in gate)) StdOption.None

unfoldable pub gating : ℕ → StdOption Gate → Option Call
gating handle (StdOption.Some gate) = some (Call.SetGate handle gate)
gating handle StdOption.None = none

abbrev pub gate_asked : ℕ → ℕ → Option Call
gate_asked handle gate = gating handle (gate_form gate)

-- "report poison with a cause"
unfoldable pub cause_form : ℕ → Bool → ℕ → StdOption FirstCause
cause_form op has raw = pick (ltb op 4) (StdOption.Some (cause_of op has raw)) StdOption.None

unfoldable pub poisoning : StdOption FirstCause → Option Call
poisoning (StdOption.Some cause) = some (Call.ReportPoison cause)
poisoning StdOption.None = none

abbrev pub poison_asked : ℕ → Bool → ℕ → Option Call
poison_asked op has raw = poisoning (cause_form op has raw)
