-- The lines before the table is open: TRACE.md's "Opening". "A line of another form or out of its place (an empty one, a call before `start`, a
-- second `open`) .. prints `bad` and its number in the file, from 1, and changes nothing".
use Rattle.std.specs.Prelude.{◌≡◌, List, [], ℕ, length}
use Rattle.completion.specs.declared.Refusal.TheVariants as Refusal
use Rattle.completion.specs.declared.Reply.TheVariants as Reply
use Rattle.model.specs.declared.{Counts.Counts, Opening.Opening}
use Rattle.model.specs.Memory.{Lent, lent_after}
use Rattle.model.specs.State.{fresh}
use Rattle.optable.specs.Called.{lent_of}
use Rattle.parser.specs.declared.preamble.OpenLine.{OpenLine}
use Rattle.parser.specs.Openings.{regions_after, plan_after}
use Rattle.printer.specs.Texts.{bad_text}
use Rattle.printer.specs.Replay.{replay_text}
use Rattle.fields.specs.Codes.{codes}
use Rattle.session.specs.declared.{start.Started.Started, Stage.Stage}
use Rattle.session.specs.Start.{lent_for, started_as}

-- where a trace stands: the stage, the plan as far as its lines have come, "the flush count last given, 0 at first", the counts and the program's
-- memory
pub record Stood : Type 0 where
  pub stage : Stage
  pub plan : List ℕ
  pub flushes : ℕ
  pub counts : Counts
  pub lent : Lent

abbrev pub stood_at : Stage → List ℕ → ℕ → Counts → Lent → Stood
stood_at stage plan flushes counts lent = record { stage = stage; plan = plan; flushes = flushes; counts = counts; lent = lent }

-- another stage, and nothing else
abbrev pub at_stage : Stage → Stood → Stood
at_stage stage s = stood_at stage s.plan s.flushes s.counts s.lent

-- what a line leaves, and what is printed
pub record Told : Type 0 where
  pub stood : Stood
  pub text : List ℕ

abbrev pub told : Stood → List ℕ → Told
told s text = record { stood = s; text = text }

abbrev pub Tells : Told → Stood → List ℕ → Type 0
Tells t s' text = (s' ≡ t.stood) × (text ≡ t.text)

-- `limit`
abbrev pub limit_text : List ℕ
limit_text = codes "limit\n"

-- `no 13`
unfoldable pub no_text13 : List ℕ
no_text13 = replay_text (Reply.No Refusal.Unfit)

-- before `open`
unfoldable pub before_line : OpenLine → ℕ → Stood → Told
before_line OpenLine.Comment n s = told (at_stage Stage.Before s) []
before_line (OpenLine.Open o) n s = told (at_stage (Stage.Planned o) s) []
before_line OpenLine.Region n s = told (at_stage Stage.Before s) (bad_text n)
before_line OpenLine.Start n s = told (at_stage Stage.Before s) (bad_text n)
before_line OpenLine.Bad n s = told (at_stage Stage.Before s) (bad_text n)

-- "`region` stands once for each region, in the order of the handles"
unfoldable pub with_regions : ℕ → Opening → Opening
with_regions n o = record {
  block = o.block;
  depth = o.depth;
  lifetime = o.lifetime;
  card = o.card;
  buffers = o.buffers;
  capacity = o.capacity;
  read_only = o.read_only;
  flush = o.flush;
  volume = o.volume;
  class = o.class;
  label = o.label;
  epoch = o.epoch;
  regions = n;
}

unfoldable pub with_region : Opening → List ℕ → Stood → Stood
with_region o bytes s =
    stood_at (Stage.Planned (with_regions (regions_after o.regions) o)) (plan_after bytes o.regions s.plan) s.flushes s.counts s.lent

-- the program's memory with what an opening left in it; "The pool starts as zeros": its bytes are not touched
unfoldable pub lent_opened : Opening → List ℕ → Lent → Lent
lent_opened o plan l =
    let l' = lent_after o plan (lent_for o l) in
    lent_of l'.rows l'.store l'.free l'.ready l'.owners l.pool

-- "`start` opens the table and prints `ok`, or `no 13` where the opening breaks a rule"; "An opening that keeps all rules but is larger than the
-- program's own memory .. prints `limit`, and the program ends." The first bytes of the pool are lent, as many as the stage says.
unfoldable pub start_line : Started → Opening → Stood → Told
start_line Started.Table o s =
    told (stood_at (Stage.Table (length (lent_for o s.lent).pool)) s.plan s.flushes fresh (lent_opened o s.plan s.lent))
    (replay_text Reply.Ok)
start_line Started.Refused o s = told (at_stage Stage.Refused s) no_text13
start_line Started.TooLarge o s = told (at_stage Stage.Over s) limit_text

-- between `open` and `start`
unfoldable pub planned_line : OpenLine → Opening → List ℕ → ℕ → Stood → Told
planned_line OpenLine.Comment o bytes n s = told (at_stage (Stage.Planned o) s) []
planned_line (OpenLine.Open x) o bytes n s = told (at_stage (Stage.Planned o) s) (bad_text n)
planned_line OpenLine.Region o bytes n s = told (with_region o bytes s) []
planned_line OpenLine.Start o bytes n s = start_line (started_as o s.plan s.lent) o s
planned_line OpenLine.Bad o bytes n s = told (at_stage (Stage.Planned o) s) (bad_text n)
