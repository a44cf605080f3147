-- What replay prints of a ticket, a receipt and a buffer: TRACE.md's section "Replies".
use Rattle.std.specs.Prelude.{List, [], ◌∷◌, ℕ}
use Rattle.completion.specs.declared.{WriteTicket.WriteTicket, DurableReceipt.DurableReceipt}
use Rattle.completion.specs.Buffers.{Buffer}
use Rattle.std.specs.declared.option.Option.TheVariants.{Some as Back, None as Lost}
use Rattle.fields.specs.Codes.{codes}
use Rattle.printer.specs.Parts.{fields_of, bit, receipt_word}

-- ` ticket`, ` buffer`, ` lost`
abbrev pub ticket_word : List ℕ
ticket_word = codes " ticket"

abbrev pub buffer_word : List ℕ
buffer_word = codes " buffer"

abbrev pub lost_word : List ℕ
lost_word = codes " lost"

-- "then ` buffer B LENGTH` or ` lost`"
unfoldable pub buffer_text : Buffer → List ℕ
buffer_text (Back h) = fields_of buffer_word (h.buffer ∷ h.len ∷ [])
buffer_text Lost = lost_word

-- "TICKET is `ticket VOLUME REGION GENERATION START END NEED EPOCH`"
unfoldable pub ticket_text : WriteTicket → List ℕ
ticket_text t = fields_of ticket_word (t.volume ∷ t.region ∷ t.generation ∷ t.start.0 ∷ t.end.0 ∷ t.need ∷ t.epoch ∷ [])

-- "RECEIPT is `receipt VOLUME REGION GENERATION CLASS LABEL START THROUGH NEED UNTORN PREFIX SYNCED EPOCH`, its flags 0 or 1"
unfoldable pub receipt_text : DurableReceipt → List ℕ
receipt_text d =
    fields_of receipt_word
    (d.volume
    ∷ d.region
    ∷ d.generation
    ∷ d.class
    ∷ d.label
    ∷ d.start.0
    ∷ d.through.0
    ∷ d.need
    ∷ bit d.untorn
    ∷ bit d.prefix
    ∷ bit d.synced
    ∷ d.epoch
    ∷ [])
