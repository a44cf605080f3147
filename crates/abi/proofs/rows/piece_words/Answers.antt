-- `rows::piece_words` meets its contract: each arm knows the case.
use Rattle.abi.specs.RowWords.{awaits_words}
use Rattle.abi.proofs.rows.piece_words.Goals as goal

pub returns-in-Page : goal.returns-in-Page
unfolding awaits_words
returns-in-Page c = rw c.in-Page.is

pub returns-in-Read : goal.returns-in-Read
unfolding awaits_words
returns-in-Read c = rw c.in-Read.is
