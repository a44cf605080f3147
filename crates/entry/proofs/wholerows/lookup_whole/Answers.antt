-- `wholerows::lookup_whole` meets its contract: a lookup over whole rows is that of words, and over others nothing is done.
use mathlib.Core.Path.{refl}
use borrow.Author.Rules.{rules}
use Rattle.entry.proofs.wholerows.lookup_whole.Goals as goal

pub returns-then-rows-eq0 : goal.returns-then-rows-eq0
returns-then-rows-eq0 c = record { whole = λ w. search rules; cut = λ no. absurd (no (search rules)) }

pub returns : goal.returns
returns c = record { whole = λ w. absurd (c.if-rows-eq0.false w); cut = λ no. refl }
