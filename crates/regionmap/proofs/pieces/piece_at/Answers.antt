-- `pieces::piece_at` meets its contract: one search gives the offset and the count.
use Rattle.std.proofs.Common.{arith}
use Rattle.std.proofs.lemmas.Grind.{common_steps}
use Rattle.regionmap.specs.Map.{place, map_run_left, map_run_end, piece_size}
use Rattle.regionmap.specs.Found.{found_of, piece_found}
use Rattle.regionmap.proofs.pieces.piece_at.Goals as goal

pub returns : goal.returns
unfolding piece_found piece_size map_run_left map_run_end place found_of
returns c = grind (arith, common_steps)
