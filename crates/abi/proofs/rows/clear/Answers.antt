-- `rows::clear` meets its contract: 16 zeros are a row that awaits nothing, at generation 0.
use mathlib.Core.Path.{◌≡◌, sym, ap, ◌∙◌}
use mathlib.Core.List.{◌++◌}
use Prim.Native.Nat.{ℕ, ◌*◌, ◌/◌, min}
use native.Mathlib.Nat.{min-le_right}
use lib.ListN.{length, drop, replicate}
use Rattle.model.specs.Memory.{rows_opened}
use Rattle.abi.specs.RowWords.{rows_in, rows_cleared}
use Rattle.abi.proofs.Laws.{count, cleared_is, cleared_rows}
use Rattle.abi.proofs.rows.clear.Goals as goal

pub returns : goal.returns
unfolding rows_opened
returns c =
    let a = c.args in
    let n = min a.depth (length a.words.now / 16) in
    let done : c.zeros.new.dst ≡ rows_cleared n a.words.now =
    c.zeros.ensures ∙ ap (λ (k : ℕ). replicate (16 * k) 0 ++ drop (16 * k) a.words.now) c.min-n.ensures ∙ sym (cleared_is n a.words.now) in
    let opened : rows_opened n (rows_in a.words.now) ≡ rows_opened (min a.depth (length (rows_in a.words.now))) (rows_in a.words.now) =
    ap (λ (k : ℕ). rows_opened (min a.depth k) (rows_in a.words.now)) (sym (count a.words.now)) in
    (ap rows_in done ∙ cleared_rows n a.words.now (min-le_right _ _) ∙ opened, done)
