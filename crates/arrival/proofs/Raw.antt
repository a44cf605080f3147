-- The numbers of an answer, a flush result and a row that the code has are numbers of 32 and of 64 bits.
use Rattle.std.proofs.Common.{◌^◌, ◌<◌, List, arith}
use mir.Val.{Val}
use denote.Laws.{Is}
use denote.Struct.Declared as struct
use denote.Enum.Declared as enum
use Rattle.platform.specs.declared.Answer.{Answer}
use Rattle.platform.specs.declared.Answer.TheVariants.{Count, Error, Refused, RefusedWith}
use Rattle.platform.specs.declared.Flushed.{Flushed}
use Rattle.platform.specs.declared.Flushed.TheVariants.{Need, Unknown as unsure, Poisoned as failedBy}
use Rattle.platform.specs.contracts.Answer as answer
use Rattle.platform.specs.contracts.Flushed as result
use Rattle.model.specs.declared.Kind.TheVariants.{Page, Read}
use Rattle.model.specs.declared.Awaits.{Awaits}
use Rattle.model.specs.declared.Awaits.TheVariants.{Nothing, Piece, Flush}
use Rattle.model.specs.declared.Row.{Row}
use Rattle.model.specs.contracts.Awaits as awaits
use Rattle.model.specs.contracts.Row as row
use Rattle.step.specs.Rules.{range_end}
use Rattle.marks.proofs.Raw.{cause_fits}
use Rattle.arrival.proofs.Wording.{AnswerFits, ResultFits}

pub answer_fits : (x : Answer) (vs : List Val) → Is (enum.row answer.the_type) x vs → AnswerFits x
unfolding AnswerFits
answer_fits (Count n) vs p = tt
answer_fits (Error e media) vs p = p.1.1.1.1.0.1
answer_fits Refused vs p = tt
answer_fits (RefusedWith e media) vs p = p.1.1.1.1.0.1

pub result_fits : (x : Flushed) (vs : List Val) → Is (enum.row result.the_type) x vs → ResultFits x
unfolding ResultFits
result_fits (Need n) vs p = tt
result_fits (unsure cause) vs p = cause_fits cause _ p.1.1.1.1.0
result_fits (failedBy cause) vs p = cause_fits cause _ p.1.1.1.1.0

-- where a field holds the range's end: of a kind, its second position; of a ticket, its fifth field
end_fits : (a : Awaits) (vs : List Val) → Is (enum.row awaits.the_type) a vs → range_end a < 2 ^ 64
unfolding range_end
end_fits Nothing vs p = omega (arith)
end_fits (Piece (Page a b) s) vs p = p.1.1.1.1.0.1.1.1.1.1.0.1.1.0.1
end_fits (Piece (Read a b) s) vs p = p.1.1.1.1.0.1.1.1.1.1.0.1.1.0.1
end_fits (Flush t) vs p = p.1.1.1.1.0.1.1.1.1.1.1.0.1.1.0.1

pub row_fits : (r : Row) (vs : List Val) → Is (struct.row row.the_type) r vs → range_end r.awaits < 2 ^ 64
row_fits r vs p = end_fits r.awaits p.0.1.1.1.1.1.1.0 p.1.1.1.1.1.1.1.1.0
