-- The parts of which the lines of replies are made: words, numbers, ranges and causes.
use Rattle.std.specs.Prelude.{Bool, List, [], ◌∷◌, ◌++◌, ℕ}
use Rattle.layout.specs.Pick.{pick}
use Rattle.domain.specs.declared.{Op.Op, FirstCause.FirstCause}
use Rattle.std.specs.declared.option.Option.{Option}
use Rattle.completion.specs.declared.{Range.Range, WriteTicket.WriteTicket}
use Rattle.fields.specs.Codes.{codes}
use Rattle.printer.specs.Spaced.{spaced}

-- numbers, each behind "one space"
unfoldable pub spaced_all : List ℕ → List ℕ
spaced_all [] = []
spaced_all (n ∷ ns) = spaced n ++ spaced_all ns

-- a word and the numbers behind it
unfoldable pub fields_of : List ℕ → List ℕ → List ℕ
fields_of word ns = word ++ spaced_all ns

-- a flag: "Flags are 0 or 1."
unfoldable pub bit : Bool → ℕ
bit b = pick b 1 0

-- "OP is `-`, `read`, `write` or `flush`.", behind a space
unfoldable pub op_text : Op → List ℕ
op_text Op.None = codes " -"
op_text Op.Read = codes " read"
op_text Op.Write = codes " write"
op_text Op.Flush = codes " flush"

-- "ERR is a number below 2^32, or `-` for none.", behind a space
unfoldable pub error_text : Option ℕ → List ℕ
error_text Option.None = codes " -"
error_text (Option.Some n) = spaced n

-- `OP ERR`
unfoldable pub cause_text : FirstCause → List ℕ
cause_text c = op_text c.op ++ error_text c.raw

-- a word and `REGION START END`
unfoldable pub range_text : List ℕ → Range → List ℕ
range_text word r = fields_of word (r.region ∷ r.start.0 ∷ r.end.0 ∷ [])

-- a word and `START END NEED`, of a ticket's range
unfoldable pub need_text : List ℕ → WriteTicket → ℕ → List ℕ
need_text word t need = fields_of word (t.start.0 ∷ t.end.0 ∷ need ∷ [])

-- ` written`, ` receipt`, ` read`, ` unknown`, ` interrupted`, ` media`, ` io`, ` full`, ` poisoned`
abbrev pub written_word : List ℕ
written_word = codes " written"

abbrev pub receipt_word : List ℕ
receipt_word = codes " receipt"

abbrev pub read_word : List ℕ
read_word = codes " read"

abbrev pub unknown_word : List ℕ
unknown_word = codes " unknown"

abbrev pub interrupted_word : List ℕ
interrupted_word = codes " interrupted"

abbrev pub media_word : List ℕ
media_word = codes " media"

abbrev pub io_word : List ℕ
io_word = codes " io"

abbrev pub full_word : List ℕ
full_word = codes " full"

abbrev pub poisoned_word : List ℕ
poisoned_word = codes " poisoned"

-- `refused`, `done`, `flush`, `took`, `none`, `ok`, `writes`, `mark`
abbrev pub refused_word : List ℕ
refused_word = codes "refused"

abbrev pub done_word : List ℕ
done_word = codes "done"

abbrev pub flush_word : List ℕ
flush_word = codes "flush"

abbrev pub took_word : List ℕ
took_word = codes "took"

abbrev pub none_word : List ℕ
none_word = codes "none"

abbrev pub ok_word : List ℕ
ok_word = codes "ok"

abbrev pub writes_word : List ℕ
writes_word = codes "writes"

abbrev pub mark_word : List ℕ
mark_word = codes "mark"

-- `refused io REGION START END ERR` or `refused full REGION START END`
unfoldable pub refused_text : Range → Option ℕ → List ℕ
refused_text r Option.None = refused_word ++ range_text full_word r
refused_text r (Option.Some n) = refused_word ++ range_text io_word r ++ spaced n

-- `flush QTAG NEED`
unfoldable pub flush_text : ℕ → ℕ → List ℕ
flush_text t n = flush_word ++ spaced t ++ spaced n ++ (10 ∷ [])
