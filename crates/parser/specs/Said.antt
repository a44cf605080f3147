-- What a line of calls says: TRACE.md's section "Calls", a row for each of its forms. "Fields are decimal digits (1 to 20 of them, no sign)
-- separated by one space". "A line of another form .., a number over 2^64 − 1, or a line of more than 4,096 bytes prints `bad`".
use Rattle.std.specs.Prelude.{Bool, true, false, ◌&&◌, List, [], ◌∷◌, ℕ, get_or, leb, eqb}
use Rattle.layout.specs.Pick.{pick}
use Rattle.platform.specs.declared.Answer.{Answer as AnswerOf}
use Rattle.platform.specs.declared.Answer.TheVariants as Answer
use Rattle.platform.specs.declared.Flushed.TheVariants as Flushed
use Rattle.model.specs.declared.Call.{Call as CallOf}
use Rattle.model.specs.declared.Call.TheVariants as Call
use Rattle.model.specs.declared.Lookup.TheVariants as Lookup
use Rattle.fields.specs.Trace.{line_read}
use Rattle.fields.specs.Fields.{spaces, field, is_number, word_in, num, are_numbers, is_flag}
use Rattle.fields.specs.Codes.{codes}
use Rattle.parser.specs.Values.{is_raw, raw_in, is_cause, cause_in, gate_in, flag_in, request_in}
use Rattle.parser.specs.declared.forms.Said.{Said}

-- `w|r BUFFER POSITION LENGTH DURABLE TAG`
unfoldable pub own_in : Bool → List ℕ → Said
own_in write cs = Said.Own write (num 1 cs) (num 2 cs) (num 3 cs) (flag_in 4 cs) (num 5 cs)

-- `A QTAG FLUSHES BACK`, and an answer: "Each says whether the buffer came back. The host passes its flush count"
unfoldable pub is_answered : List ℕ → Bool
is_answered cs = are_numbers 3 cs && is_flag 3 cs

unfoldable pub answer_in : AnswerOf → List ℕ → Said
answer_in answer cs = Said.Call (Call.Answer (num 1 cs) answer (flag_in 3 cs) (num 2 cs))

-- the words
abbrev pub gate_word : List ℕ
gate_word = codes "gate"

abbrev pub ro_word : List ℕ
ro_word = codes "ro"

abbrev pub force_word : List ℕ
force_word = codes "force"

abbrev pub poison_word : List ℕ
poison_word = codes "poison"

abbrev pub writes_word : List ℕ
writes_word = codes "writes"

abbrev pub mark_word : List ℕ
mark_word = codes "mark"

abbrev pub len_word : List ℕ
len_word = codes "len"

abbrev pub fill_word : List ℕ
fill_word = codes "fill"

abbrev pub sum_word : List ℕ
sum_word = codes "sum"

abbrev pub rows_word : List ℕ
rows_word = codes "rows"

-- a form of lines: the test that a line has it, and what the line then says
pub record Form : Type 0 where
  pub fits : Bool
  pub says : Said

-- its first word, how many fields stand behind it, what is asked of those, and what it says
abbrev form : List ℕ → List ℕ → ℕ → Bool → Said → Form
form cs word n asked said = record { fits = eqb (spaces cs) n && word_in 0 word cs && asked; says = said }

-- "## Calls", row by row
unfoldable pub forms : List ℕ → List Form
forms cs =
    form cs (codes "W") 9 (are_numbers 9 cs && is_flag 8 cs) (Said.Call (Call.Write (request_in cs)))
    ∷ form cs (codes "R") 9 (are_numbers 9 cs && is_flag 8 cs) (Said.Call (Call.ReadPage (request_in cs)))
    ∷ form cs (codes "w") 5 (are_numbers 5 cs && is_flag 4 cs) (own_in true cs)
    ∷ form cs (codes "r") 5 (are_numbers 5 cs && is_flag 4 cs) (own_in false cs)
    ∷ form cs (codes "a") 2 (are_numbers 2 cs) (Said.Count (num 1 cs) (num 2 cs))
    ∷ form cs (codes "A") 5 (word_in 4 (codes "c") cs && is_number (field 5 cs) && is_answered cs) (answer_in (Answer.Count (num 5 cs)) cs)
    ∷ form cs (codes "A") 6 (word_in 4 (codes "e") cs && (is_raw 5 cs && is_flag 6 cs) && is_answered cs)
    (answer_in (Answer.Error (raw_in 5 cs) (flag_in 6 cs)) cs)
    ∷ form cs (codes "A") 4 (word_in 4 (codes "q") cs && is_answered cs) (answer_in Answer.Refused cs)
    ∷ form cs (codes "A") 6 (word_in 4 (codes "x") cs && (is_raw 5 cs && is_flag 6 cs) && is_answered cs)
    (answer_in (Answer.RefusedWith (raw_in 5 cs) (flag_in 6 cs)) cs)
    ∷ form cs (codes "f") 3 (word_in 2 (codes "n") cs && (are_numbers 1 cs && is_number (field 3 cs)))
    (Said.Call (Call.Flushed (num 1 cs) (Flushed.Need (num 3 cs))))
    ∷ form cs (codes "f") 4 (word_in 2 (codes "u") cs && (are_numbers 1 cs && is_cause 3 4 cs))
    (Said.Call (Call.Flushed (num 1 cs) (Flushed.Unknown (cause_in 3 4 cs))))
    ∷ form cs (codes "f") 4 (word_in 2 (codes "p") cs && (are_numbers 1 cs && is_cause 3 4 cs))
    (Said.Call (Call.Flushed (num 1 cs) (Flushed.Poisoned (cause_in 3 4 cs))))
    ∷ form cs (codes "t") 0 true (Said.Call Call.Take)
    ∷ form cs gate_word 2 (are_numbers 2 cs && leb (num 2 cs) 2) (Said.Call (Call.SetGate (num 1 cs) (gate_in 2 cs)))
    ∷ form cs ro_word 2 (are_numbers 2 cs && is_flag 2 cs) (Said.Call (Call.SetReadOnly (num 1 cs) (flag_in 2 cs)))
    ∷ form cs force_word 2 (are_numbers 2 cs && is_flag 2 cs) (Said.Call (Call.SetForced (num 1 cs) (flag_in 2 cs)))
    ∷ form cs poison_word 2 (is_cause 1 2 cs) (Said.Call (Call.ReportPoison (cause_in 1 2 cs)))
    ∷ form cs writes_word 0 true (Said.Look Lookup.WritesLive)
    ∷ form cs mark_word 0 true (Said.Look Lookup.Mark)
    ∷ form cs len_word 0 true Said.Len
    ∷ form cs fill_word 4 (are_numbers 4 cs) (Said.Fill (num 1 cs) (num 2 cs) (num 3 cs) (num 4 cs))
    ∷ form cs sum_word 3 (are_numbers 3 cs) (Said.Sum (num 1 cs) (num 2 cs) (num 3 cs))
    ∷ form cs rows_word 0 true Said.Rows
    ∷ []

-- what the one form that fits says; "A line of another form .. prints `bad`"
unfoldable pub says_of : List Form → Said
says_of [] = Said.Bad
says_of (f ∷ fs) = pick f.fits f.says (says_of fs)

-- "A line that starts with `#` is passed over"
unfoldable pub said_in : List ℕ → Said
said_in cs = pick (eqb (get_or cs 0 0) 35) Said.Comment (says_of (forms cs))

-- of whatever length
unfoldable pub said_read : List ℕ → Said
said_read bytes = line_read said_in Said.Comment Said.Bad bytes

-- "`optrun` reads `w`, `r`, `a` and `t` of these"; the others are of another form there
unfoldable pub take_only : CallOf → Said
take_only (Call.Write r) = Said.Bad
take_only (Call.ReadPage r) = Said.Bad
take_only (Call.Answer t a b n) = Said.Bad
take_only (Call.Flushed t f) = Said.Bad
take_only Call.Take = Said.Call Call.Take
take_only (Call.SetGate h g) = Said.Bad
take_only (Call.SetReadOnly h b) = Said.Bad
take_only (Call.SetForced h b) = Said.Bad
take_only (Call.ReportPoison c) = Said.Bad

unfoldable pub optrun_line : Said → Said
optrun_line Said.Comment = Said.Comment
optrun_line (Said.Call c) = take_only c
optrun_line (Said.Own w b p l d t) = Said.Own w b p l d t
optrun_line (Said.Count t n) = Said.Count t n
optrun_line (Said.Look l) = Said.Bad
optrun_line Said.Len = Said.Bad
optrun_line (Said.Fill b a l s) = Said.Bad
optrun_line (Said.Sum b a l) = Said.Bad
optrun_line Said.Rows = Said.Bad
optrun_line Said.Bad = Said.Bad
