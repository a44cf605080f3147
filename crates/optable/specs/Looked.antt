-- What a walk through the rows finds, and the replies to the lookups.
use Rattle.std.specs.Prelude.{ℕ, ◌+◌, min, Bool, true, false, ◌||◌, List, ◌==◌}
use Rattle.std.specs.declared.option.Option.{Option}
use Rattle.layout.specs.Pick.{pick}
use Rattle.regionmap.specs.Found.{wrap64}
use Rattle.completion.specs.declared.Refusal.TheVariants as Refusal
use Rattle.completion.specs.declared.Reply.{Reply}
use Rattle.model.specs.declared.{Counts.Counts, Kind.Kind, Row.Row, Lookup.Lookup}
use Rattle.step.specs.Step.{writes_in, is_live, any_writes, oldest}
use Rattle.optable.specs.declared.lookup.Looked.{Looked}

unfoldable pub is_page : Kind → Bool
is_page (Kind.Page a b) = true
is_page (Kind.Read a b) = false

-- what is found with one row more
unfoldable pub seen_by : Row → Looked → Looked
seen_by r l = record { writes = writes_in r.awaits || l.writes; oldest = pick (is_live r.awaits) (min r.seq l.oldest) l.oldest }

-- what is found in rows: whether a write awaits a piece, and the oldest live sequence number, or the next
unfoldable pub looked_in : ℕ → List Row → Looked
looked_in next rows = record { writes = any_writes rows; oldest = oldest next rows }

-- the mark as a number of 64 bits
unfoldable pub mark_wrapped : Counts → ℕ → ℕ
mark_wrapped c n = pick (c.live == 0) (wrap64 (c.submissions + c.submissions)) (wrap64 (wrap64 (n + n) + 1))

unfoldable pub replies_as : Lookup → Counts → Looked → Reply
replies_as Lookup.WritesLive c l = Reply.Writes l.writes
replies_as Lookup.Mark c l = Reply.Mark (mark_wrapped c l.oldest)

-- the reply, of what is found where the lengths are the opening's
unfoldable pub answer_of : Lookup → Counts → Option Looked → Reply
answer_of x c (Option.Some l) = replies_as x c l
answer_of x c Option.None = Reply.No Refusal.Unfit
