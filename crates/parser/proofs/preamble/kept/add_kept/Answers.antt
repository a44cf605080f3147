-- `preamble::kept::add_kept` meets its contract: a line of at most 4,096 bytes is kept whole (the reader's `Kept`).
use Rattle.fields.proofs.Kept.{kept_whole}
use Rattle.parser.proofs.preamble.kept.add_kept.Goals as goal

pub returns : goal.returns
returns c = λ bytes k h. (c.front_region.ensures.0, rw (← kept_whole k h) c.front_region.ensures.1)
