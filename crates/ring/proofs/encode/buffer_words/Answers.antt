-- `encode::buffer_words` meets its contract: each arm knows the case.
use mathlib.Core.Path.{sym, ap}
use borrow.Author.Rules.{rules}
use Rattle.model.specs.Memory.{buffer_words}
use Rattle.ring.proofs.encode.buffer_words.Goals as goal

pub returns-in-Some : goal.returns-in-Some
unfolding buffer_words
returns-in-Some c = sym (ap buffer_words c.in-Some.is)

pub returns-in-None : goal.returns-in-None
unfolding buffer_words
returns-in-None c = search rules
