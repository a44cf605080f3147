-- `replies::rejected_words` meets its contract: each arm knows the case, and the words are what the callees ensure.
use mathlib.Core.Path.{◌≡◌, sym, ap}
use mathlib.Core.List.{[], ◌∷◌}
use Rattle.model.specs.Memory.{buffer_words}
use Rattle.abi.specs.ReplyWords.{filled}
use Rattle.abi.proofs.Words.{rejected_are}
use borrow.Author.Rules.{rules}
use Rattle.abi.proofs.replies.rejected_words.Goals as goal

pub returns-in-Some : goal.returns-in-Some
unfolding filled buffer_words
returns-in-Some c =
    let a = c.args in
    rejected_are a.r a.op a.raw a.buf _ _ _ (1 ∷ _ ∷ _ ∷ []) c.op_word-o.ensures c.has_word-h.ensures c.raw_word-e.ensures (sym (ap buffer_words c.in-Some.is))

pub returns-in-None : goal.returns-in-None
unfolding filled buffer_words
returns-in-None c =
    let a = c.args in
    let lost : 0 ∷ 0 ∷ 0 ∷ [] ≡ buffer_words a.buf = search rules in
    rejected_are a.r a.op a.raw a.buf _ _ _ (0 ∷ 0 ∷ 0 ∷ []) c.op_word-o.ensures c.has_word-h.ensures c.raw_word-e.ensures lost
