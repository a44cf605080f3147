-- `replies::put_whole` meets its contract: each arm knows the case, and the words are what the callees ensure.
use mathlib.Core.Path.{◌≡◌, sym, ap, ◌∙◌}
use mathlib.Core.List.{[], ◌∷◌}
use Prim.Native.Nat.{ℕ}
use Rattle.abi.specs.ReplyWords.{filled, reply_words}
use borrow.Author.Rules.{rules}
use Rattle.abi.proofs.replies.put_whole.Goals as goal

pub returns-in-Piece : goal.returns-in-Piece
unfolding filled reply_words
returns-in-Piece c = c.five.ensures ∙ sym (ap reply_words c.in-Piece.is)

pub returns-in-No : goal.returns-in-No
returns-in-No c = c.away_words.ensures ∙ sym (ap reply_words c.in-No.is)

pub returns-in-Rejected : goal.returns-in-Rejected
returns-in-Rejected c = c.rejected_words.ensures ∙ sym (ap reply_words c.in-Rejected.is)

pub returns-in-Done : goal.returns-in-Done
unfolding filled reply_words
returns-in-Done c = c.five-in-Done.ensures ∙ sym (ap reply_words c.in-Done.is)

pub returns-in-Flush : goal.returns-in-Flush
unfolding filled reply_words
returns-in-Flush c = c.five-in-Flush.ensures ∙ sym (ap reply_words c.in-Flush.is)

pub returns-in-Took : goal.returns-in-Took
returns-in-Took c = c.took_words.ensures ∙ sym (ap reply_words c.in-Took.is)

pub returns-in-None : goal.returns-in-None
unfolding filled reply_words
returns-in-None c =
    let are : filled (7 ∷ []) ≡ reply_words c.args.r = search rules in
    c.five-in-None.ensures ∙ are

pub returns-in-Ok : goal.returns-in-Ok
unfolding filled reply_words
returns-in-Ok c =
    let are : filled (8 ∷ []) ≡ reply_words c.args.r = search rules in
    c.five-in-Ok.ensures ∙ are

pub returns-in-Writes : goal.returns-in-Writes
unfolding filled reply_words
returns-in-Writes c = c.five-in-Writes.ensures ∙ ap (λ (n : ℕ). filled (9 ∷ n ∷ [])) c.flag_word.ensures ∙ sym (ap reply_words c.in-Writes.is)

pub returns-in-Mark : goal.returns-in-Mark
unfolding filled reply_words
returns-in-Mark c = c.five-in-Mark.ensures ∙ sym (ap reply_words c.in-Mark.is)
