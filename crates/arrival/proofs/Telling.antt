-- Only an operation whose first piece is refused is rejected: a flush result rejects nothing, and an answer none that awaits no piece.
use Rattle.std.proofs.Common.{◌≡◌, ℕ, Bool, List, [], sym, subst}
use Rattle.regionmap.specs.Map.{Map}
use Rattle.std.specs.declared.option.Option.{Option}
use Rattle.domain.specs.declared.FirstCause.{FirstCause}
use Rattle.platform.specs.declared.Answer.{Answer}
use Rattle.platform.specs.declared.Flushed.{Flushed}
use Rattle.model.specs.declared.Opening.{Opening}
use Rattle.model.specs.declared.Awaits.{Awaits}
use Rattle.model.specs.declared.Awaits.TheVariants.{Nothing, Piece, Flush}
use Rattle.model.specs.declared.Row.{Row}
use Rattle.step.specs.Rules.{Fate, Fate.away, Fate.awaits, Fate.ends, Fate.rejected, answer_rules, flush_ends, flush_rules}
use Rattle.step.proofs.Fates.{AwaitsPiece}
use Rattle.memory.specs.declared.liveregion.LiveRegion.{LiveRegion}
use Rattle.settle.specs.declared.Finished.{Finished}
use Rattle.settle.specs.declared.Finished.TheVariants.{Away, Next, Ended, Rejected}
use Rattle.settle.specs.Finished.{plan_with, PieceFits, fate_by, Tells}
use Rattle.arrival.proofs.Calling.{RejectsPiece}

abbrev Kept : Fate → Type 0
Kept (away f) = Unit {0}
Kept (awaits a bytes) = Unit {0}
Kept (ends ending) = Unit {0}
Kept (rejected e b bytes) = ⊥

flush_keeps : (o : Opening) (row : Row) (bytes : List ℕ) (result : Flushed) (a : Awaits) → Kept (flush_rules o row bytes result a)
unfolding flush_rules flush_ends
flush_keeps o row bytes result Nothing = tt
flush_keeps o row bytes result (Piece k s) = tt
flush_keeps o row bytes result (Flush t) = tt

-- .. so that what is told of it rejects nothing either
pub flush_rejects : (o : Opening) (row : Row) (bytes : List ℕ) (result : Flushed) (a : Awaits) (f : Finished) (b : Awaits) → fate_by f bytes ≡ flush_rules o row bytes result a → RejectsPiece f b
unfolding fate_by RejectsPiece
flush_rejects o row bytes result a (Away f) b e = tt
flush_rejects o row bytes result a (Next now t) b e = tt
flush_rejects o row bytes result a (Ended end) b e = tt
flush_rejects o row bytes result a (Rejected err buf) b e = absurd (subst Kept (sym e) (flush_keeps o row bytes result a))

pub answer_rejects : (o : Opening) (g : LiveRegion) (m : Map) (first : Option FirstCause) (row : Row) (piece : ℕ) (answer : Answer) (back : Bool) (flushes : ℕ) (f : Finished) (a : Awaits)
    → (PieceFits g m piece a → Tells f (λ bytes. answer_rules o (plan_with g m) g.forced first row bytes answer back flushes a)) → RejectsPiece f a
unfolding RejectsPiece PieceFits AwaitsPiece answer_rules fate_by
answer_rejects o g m first row piece answer back flushes (Away f) a tells = tt
answer_rejects o g m first row piece answer back flushes (Next now t) a tells = tt
answer_rejects o g m first row piece answer back flushes (Ended end) a tells = tt
answer_rejects o g m first row piece answer back flushes (Rejected e buf) Nothing tells = subst Kept (sym (tells tt [])) tt
answer_rejects o g m first row piece answer back flushes (Rejected e buf) (Piece k s) tells = tt
answer_rejects o g m first row piece answer back flushes (Rejected e buf) (Flush t) tells = subst Kept (sym (tells tt [])) tt
