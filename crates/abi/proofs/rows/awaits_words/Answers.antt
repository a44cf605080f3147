-- `rows::awaits_words` meets its contract: each arm knows the case.
use mathlib.Core.Path.{◌≡◌, refl, sym, ap}
use mathlib.Core.List.{List, [], ◌∷◌}
use Prim.Native.Nat.{ℕ}
use lib.ListN.{get_or}
use Rattle.abi.proofs.Laws.{nothing_fits}
use Rattle.abi.specs.RowWords.{awaits_words, AwaitsFits}
use borrow.Author.Rules.{rules}
use Rattle.abi.proofs.rows.awaits_words.Goals as goal

abbrev zeros : List ℕ
zeros = 0 ∷ 0 ∷ 0 ∷ 0 ∷ 0 ∷ 0 ∷ 0 ∷ 0 ∷ 0 ∷ 0 ∷ []

pub returns-in-Nothing : goal.returns-in-Nothing
unfolding awaits_words AwaitsFits
returns-in-Nothing c =
    let are : zeros ≡ awaits_words c.args.awaits = search rules in
    (are, nothing_fits c.args.awaits (sym (ap (λ (w : List ℕ). get_or w 0 0) are)))

pub returns-in-Piece : goal.returns-in-Piece
unfolding AwaitsFits
returns-in-Piece c = rw c.in-Piece.is (c.piece_words.ensures, tt)

pub returns-in-Flush : goal.returns-in-Flush
unfolding awaits_words AwaitsFits
returns-in-Flush c = rw c.in-Flush.is (refl, search rules)
