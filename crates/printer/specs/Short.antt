-- What optrun prints of a reply: "`piece QTAG OFFSET COUNT`, `no N`, `done QTAG`, `none`, and of a taking `took TAG` with `written START END NEED`,
-- `receipt START END NEED`, `read LENGTH`, `unknown START END OP ERR` or `poisoned OP ERR`: document 01's fields and no more." What else a reply can
-- be is printed as the section "Replies" has it, without the buffer, so that no reply is silent.
use Rattle.std.specs.Prelude.{List, [], ◌∷◌, ◌++◌, ℕ}
use Rattle.completion.specs.declared.Reply.{Reply}
use Rattle.completion.specs.Numbers.{number}
use Rattle.printer.specs.Texts.{no_word, numbered, piece_text}
use Rattle.printer.specs.Parts.{bit, refused_text, flush_text, done_word, none_word, ok_word, writes_word, mark_word}
use Rattle.printer.specs.ShortTook.{short_took}

unfoldable pub short_text : Reply → List ℕ
short_text (Reply.Piece t o n b) = piece_text t o.0 n
short_text (Reply.No f) = numbered no_word (number f)
short_text (Reply.Rejected r op raw b) = refused_text r raw ++ (10 ∷ [])
short_text (Reply.Done t) = numbered done_word t
short_text (Reply.Flush t n) = flush_text t n
short_text (Reply.Took c) = short_took c
short_text Reply.None = none_word ++ (10 ∷ [])
short_text Reply.Ok = ok_word ++ (10 ∷ [])
short_text (Reply.Writes w) = numbered writes_word (bit w)
short_text (Reply.Mark m) = numbered mark_word m
