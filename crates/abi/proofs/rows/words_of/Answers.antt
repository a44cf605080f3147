-- `rows::words_of` meets its contract: the words are what the callees ensure, one by one.
use Rattle.abi.proofs.Laws.{words_are}
use borrow.Author.Rules.{rules}
use Rattle.abi.proofs.rows.words_of.Goals as goal

pub returns : goal.returns
returns c =
    let r = c.args.row in
    (words_are r _ _ c.awaits_words-a.ensures.0 c.flag_word-durable.ensures, record { generation = search rules; awaits = c.awaits_words-a.ensures.1 })
