-- What replay prints of a reply: TRACE.md's section "Replies", line by line.
use Rattle.std.specs.Prelude.{List, [], ◌∷◌, ◌++◌, ℕ}
use Rattle.completion.specs.declared.Reply.{Reply}
use Rattle.printer.specs.Texts.{piece_word, numbered}
use Rattle.printer.specs.Parts.{fields_of, bit, refused_text, flush_text, done_word, none_word, ok_word, writes_word, mark_word}
use Rattle.printer.specs.Tickets.{buffer_text}
use Rattle.printer.specs.No.{no_text}
use Rattle.printer.specs.Lines.{took_text}

-- "## Replies"
unfoldable pub replay_text : Reply → List ℕ
replay_text (Reply.Piece t o n b) = fields_of piece_word (t ∷ o.0 ∷ n ∷ b ∷ []) ++ (10 ∷ [])
replay_text (Reply.No f) = no_text f
replay_text (Reply.Rejected r op raw b) = refused_text r raw ++ buffer_text b ++ (10 ∷ [])
replay_text (Reply.Done t) = numbered done_word t
replay_text (Reply.Flush t n) = flush_text t n
replay_text (Reply.Took c) = took_text c
replay_text Reply.None = none_word ++ (10 ∷ [])
replay_text Reply.Ok = ok_word ++ (10 ∷ [])
replay_text (Reply.Writes w) = numbered writes_word (bit w)
replay_text (Reply.Mark m) = numbered mark_word m
