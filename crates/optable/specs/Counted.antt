-- The counts after a submission, as numbers of 64 bits: those of an accepted one are the model's, since live stays below the depth and the sequence
-- number below the lifetime.
use Rattle.std.specs.Prelude.{◌+◌, ◌-◌, Bool}
use Rattle.layout.specs.Pick.{pick}
use Rattle.regionmap.specs.Found.{wrap64}
use Rattle.model.specs.declared.Counts.{Counts}
use Rattle.optable.specs.declared.Frees.{Frees}

unfoldable pub accepted_if : Bool → Counts → Counts
accepted_if accepts c = pick accepts (record { live = wrap64 (c.live + 1); ready = c.ready; submissions = wrap64 (c.submissions + 1) }) c

-- what a call frees: a live row whose first piece was refused, a live row whose completion is ready, a completion that is taken
unfoldable pub released_by : Frees → Counts → Counts
released_by Frees.Nothing c = c
released_by Frees.Rejected c = record { live = c.live - 1; ready = c.ready; submissions = c.submissions }
released_by Frees.Completed c = record { live = c.live - 1; ready = wrap64 (c.ready + 1); submissions = c.submissions }
released_by Frees.Taken c = record { live = c.live; ready = c.ready - 1; submissions = c.submissions }
