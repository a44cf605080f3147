-- `rows::row_at` meets its contract: a place below the count of rows has its 16 words.
use mathlib.Core.Path.{◌≡◌, sym, ap, ◌∙◌}
use Prim.Native.Nat.{ℕ, ◌+◌, ◌-◌, ◌*◌}
use native.Mathlib.Omega.{arith}
use lib.ListN.{take, drop}
use Rattle.abi.specs.RowWords.{row_in}
use Rattle.abi.proofs.Laws.{row_there, no_row}
use borrow.Author.Rules.{rules}
use Rattle.abi.proofs.rows.row_at.Goals as goal

pub returns-then-at-words : goal.returns-then-at-words
returns-then-at-words c =
    let a = c.args in
    let size : 16 * a.at + 16 - 16 * a.at ≡ 16 = omega arith in
    c.row_of.ensures ∙ ap (λ (n : ℕ). row_in (take n (drop (16 * a.at) a.words.now))) size ∙ sym (row_there a.words.now a.at (search rules))

pub returns-else-at-words : goal.returns-else-at-words
returns-else-at-words c =
    let a = c.args in
    c.freed_row.ensures ∙ sym (no_row a.words.now a.at (search rules))
