-- `wholerows::open_whole` meets its contract: an opening over whole rows is that of words, and over others nothing is done.
use mathlib.Core.Path.{refl}
use borrow.Author.Rules.{rules}
use Rattle.entry.proofs.wholerows.open_whole.Goals as goal

pub returns-then-rows-eq0-clause-opens : goal.returns-then-rows-eq0-clause-opens
returns-then-rows-eq0-clause-opens c = record { whole = λ w. search rules; cut = λ no. absurd (no (search rules)) }

pub returns-clause-opens : goal.returns-clause-opens
returns-clause-opens c = record { whole = λ w. absurd (c.if-rows-eq0.false w); cut = λ no. (refl, refl, refl, refl, refl, refl) }
