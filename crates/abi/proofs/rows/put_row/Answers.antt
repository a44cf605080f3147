-- `rows::put_row` meets its contract: a place below the count of rows has its 16 words, and the others stay.
use mathlib.Core.Path.{◌≡◌, sym, ap, ◌∙◌}
use Prim.Native.Nat.{◌/◌, ◌<◌}
use native.Mathlib.Omega.{arith}
use lib.ListN.{length}
use lib.Seq.{set_out}
use Rattle.abi.specs.RowWords.{rows_in, row_put}
use Rattle.abi.proofs.Laws.{count, put_words_are, put_nowhere, put_rows}
use Rattle.abi.proofs.rows.put_row.Goals as goal

pub returns-then-at-words : goal.returns-then-at-words
returns-then-at-words c =
    let a = c.args in
    let w = c.words_of-w in
    let l : a.at < length a.words.now / 16 = c.if-at-words.true in
    let put : c.put_words.new.dst ≡ row_put a.at a.row a.words.now = c.put_words.ensures ∙ put_words_are a.at a.row a.words.now w.result w.ensures.0 l in
    (ap rows_in put ∙ put_rows a.at a.row a.words.now w.ensures.1, put)

pub returns-else-at-words : goal.returns-else-at-words
returns-else-at-words c =
    let a = c.args in
    let same = put_nowhere a.at a.row a.words.now c.if-at-words.false in
    (sym (set_out (rows_in a.words.now) a.at a.row (omega (arith, count a.words.now, c.if-at-words.false))), sym same)
