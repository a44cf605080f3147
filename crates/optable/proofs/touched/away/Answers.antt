-- `touched::away` meets its contract, by computation.
use Rattle.std.proofs.Common.{refl}
use Rattle.optable.specs.Called.{away_with}
use Rattle.optable.proofs.touched.away.Goals as goal

pub returns : goal.returns
unfolding away_with
returns c = refl
