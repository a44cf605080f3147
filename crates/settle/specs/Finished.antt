-- What the functions on values give, beside step's rules: a turn is told by its numbers, and the rules' fate follows from it and the bytes.
use Rattle.std.specs.Prelude.{◌≡◌, ℕ, ◌+◌, ◌^◌, ◌<◌, List}
use Rattle.std.proofs.Math.Option.{Option, none, some}
use Rattle.regionmap.specs.Map.{Map}
use Rattle.iobuf.specs.Turn.{turned}
use Rattle.domain.specs.declared.FirstCause.{FirstCause}
use Rattle.std.specs.declared.option.Option.{Option as StdOption}
use Rattle.platform.specs.declared.Answer.{Answer}
use Rattle.model.specs.declared.{Split.Split, Awaits.Awaits}
use Rattle.model.specs.Opening.{Plan}
use Rattle.memory.specs.declared.liveregion.LiveRegion.{LiveRegion}
use Rattle.step.specs.Rules.{piece_length, Fate, Fate.away, Fate.awaits, Fate.ends, Fate.rejected}
use Rattle.settle.specs.declared.{Turn.Turn, Finished.Finished}

-- the cause with which the store is poisoned, if any
unfoldable pub cause_is : StdOption FirstCause → Option FirstCause
cause_is StdOption.None = none
cause_is (StdOption.Some c) = some c

-- the bytes after a turn
unfoldable pub turned_by : Turn → List ℕ → List ℕ
turned_by t bytes = turned t.total t.by bytes

-- the fate that the values tell, of the bytes of the buffer
unfoldable pub fate_by : Finished → List ℕ → Fate
fate_by (Finished.Away f) bytes = away f
fate_by (Finished.Next a t) bytes = awaits a (turned_by t bytes)
fate_by (Finished.Ended e) bytes = ends (record {
  outcome = e.outcome;
  buffer = e.buf;
  bytes = turned_by e.turn bytes;
  cause = cause_is e.cause;
})
fate_by (Finished.Rejected e b) bytes = rejected e b bytes

-- a region's numbers with a map
unfoldable pub plan_with : LiveRegion → Map → Plan
plan_with g m = record { id = g.id; generation = g.generation; map = m }

-- done + count is a number of 64 bits
unfoldable pub CountFits : Split → Answer → Type 0
CountFits s (Answer.Count n) = s.done + n < 2 ^ 64
CountFits s (Answer.Error e media) = Unit {0}
CountFits s Answer.Refused = Unit {0}
CountFits s (Answer.RefusedWith e media) = Unit {0}

-- what is supposed of a piece under way, as a sound table has it: the piece's length is the map's, done + piece a number of 64 bits, and the
-- region's generation one of 32
unfoldable pub PieceFits : LiveRegion → Map → ℕ → Awaits → Type 0
PieceFits g m piece Awaits.Nothing = Unit {0}
PieceFits g m piece (Awaits.Piece k s) = (piece ≡ piece_length (plan_with g m) k s) × (s.done + piece < 2 ^ 64) × (g.generation < 2 ^ 32)
PieceFits g m piece (Awaits.Flush t) = Unit {0}

-- the values tell this fate, of any bytes
abbrev pub Tells : Finished → (List ℕ → Fate) → Type 0
Tells r fate = (bytes : List ℕ) → fate_by r bytes ≡ fate bytes
