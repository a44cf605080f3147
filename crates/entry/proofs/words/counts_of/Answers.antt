-- `words::counts_of` meets its contract: each word is read where the counts have it, and they are three.
use mathlib.Core.Path.{refl}
use Rattle.entry.specs.WordCalls.{counts_in}
use Rattle.entry.proofs.words.counts_of.Goals as goal

pub returns : goal.returns
unfolding counts_in
returns c = record { value = refl; three = c.well_formed.0.1.0.1 }
