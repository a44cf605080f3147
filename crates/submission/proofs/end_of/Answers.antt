-- `submission::end_of` meets its contract, by that of the wrapping sum.
use Rattle.std.proofs.Common.{rules}
use Rattle.regionmap.specs.Found.{wrap64}
use Rattle.submission.proofs.end_of.Goals as goal

pub returns : goal.returns
unfolding wrap64
returns c = search rules
