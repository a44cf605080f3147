-- `words::put_counts` meets its contract: the words are those of the counts.
use mathlib.Core.Path.{ap, ◌∙◌}
use Rattle.optable.specs.Counted.{released_by}
use Rattle.entry.specs.WordCalls.{count_words}
use Rattle.entry.proofs.words.put_counts.Goals as goal

pub returns : goal.returns
returns c =
    ap count_words (c.released-next.ensures ∙ ap (released_by _) c.accepted.ensures)
