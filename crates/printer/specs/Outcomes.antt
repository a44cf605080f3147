-- What is printed of an outcome. By replay the whole of it: TRACE.md's section "Replies". By optrun "`written START END NEED`, `receipt START END
-- NEED`, `read LENGTH`, `unknown START END OP ERR` or `poisoned OP ERR`: document 01's fields and no more." What else an outcome can be is printed as
-- the section "Replies" has it, so that none is silent.
use Rattle.std.specs.Prelude.{Bool, List, [], ◌∷◌, ◌++◌, ℕ}
use Rattle.layout.specs.Pick.{pick}
use Rattle.completion.specs.declared.{Range.Range, Outcome.Outcome}
use Rattle.printer.specs.Spaced.{spaced}
use Rattle.printer.specs.Parts.{
  fields_of,
  cause_text,
  range_text,
  need_text,
  written_word,
  receipt_word,
  read_word,
  unknown_word,
  interrupted_word,
  media_word,
  io_word,
  full_word,
  poisoned_word,
}
use Rattle.printer.specs.Tickets.{ticket_text, receipt_text}

-- ` unknown REGION START END`, without the region where document 01's fields are told alone
unfoldable pub place_text : Bool → Range → List ℕ
place_text whole r = pick whole (range_text unknown_word r) (fields_of unknown_word (r.start.0 ∷ r.end.0 ∷ []))

-- the whole of an outcome or document 01's fields: "OUTCOME one of ..", "where NEED is the ticket's for `written` and the receipt's for `receipt`"
unfoldable pub outcome_text : Bool → Outcome → List ℕ
outcome_text whole (Outcome.Written t) = need_text written_word t t.need ++ pick whole (ticket_text t) []
outcome_text whole (Outcome.Receipt t d) = need_text receipt_word t d.need ++ pick whole (ticket_text t) [] ++ pick whole (receipt_text d) []
outcome_text whole (Outcome.Read len) = fields_of read_word (len ∷ [])
outcome_text whole (Outcome.Unknown r c) = place_text whole r ++ cause_text c
outcome_text whole (Outcome.Interrupted r) = range_text interrupted_word r
outcome_text whole (Outcome.Corruption r) = range_text media_word r
outcome_text whole (Outcome.Io r op raw) = range_text io_word r ++ spaced raw
outcome_text whole (Outcome.QueueFull r) = range_text full_word r
outcome_text whole (Outcome.Poisoned c) = poisoned_word ++ cause_text c
