-- A lost buffer. It stays lost, since a call sets the owner only of a buffer that the host or the table has: the host's that a submission names, a live row's, or a
-- completion's. So no submission that names it is accepted.
use mathlib.Core.Path.{◌≡◌, refl, sym, ap, ◌∙◌}
use mathlib.Core.Logic.{◌≢◌}
use mathlib.Core.Bool.{true}
use mathlib.Core.Option.{some}
use mathlib.Core.List.{List, [], ◌∷◌}
use Prim.Native.Nat.{ℕ, zero, suc, ◌<◌}
use native.Mathlib.Omega.{arith}
use lib.ListN.{length, get_or}
use Rattle.layout.proofs.Tests.{not_both}
use Rattle.completion.specs.Buffers.{Buffer}
use Rattle.std.specs.declared.option.Option.TheVariants.{Some as Back, None as Lost}
use Rattle.completion.specs.declared.Completion.{Completion}
use Rattle.completion.specs.declared.Reply.{Reply}
use Rattle.model.specs.declared.Lengths.{Lengths}
use Rattle.model.specs.declared.Kind.{Kind}
use Rattle.model.specs.declared.Request.{Request}
use Rattle.std.specs.declared.result.Result.TheVariants.{Ok, Err}
use Rattle.model.specs.declared.Call.{Call}
use Rattle.model.specs.declared.Call.TheVariants.{Write, ReadPage, Answer, Flushed, Take, SetGate, SetReadOnly, SetForced, ReportPoison}
use Rattle.model.specs.State.{Owner, Owner.host, Owner.lost, State}
use Rattle.step.specs.Questions.{is_host, held_at, region_at, Asked}
use Rattle.step.specs.Rules.{Input.answered, Input.flushed}
use Rattle.step.specs.Step.{row_at, row_of, names, submitted, verdict_of, write_verdict, read_verdict, with_poison, with_gate, with_read_only, with_forced, called, eq_lengths, step}
use Rattle.step.specs.Sound.{holds, table_has, ready_hold, Sound}
use Rattle.step.specs.Run.{Made, Made.calls, Made.looks, Event, leave, done, next, run, Pools}
use Rattle.step.specs.Lists.{is_away}
use Rattle.step.specs.Others.{IsLost, buffer_back, taken_from}
use Rattle.step.proofs.Picked.{by_pick}
use Rattle.step.proofs.Places.{within}
use Rattle.step.proofs.Counts.{back_holds_own, has_most}
use Rattle.step.proofs.Named.{named_live, named_below}
use Rattle.step.proofs.AloneTags.{clash}
use Rattle.step.proofs.Answers.{Passed, write_passed, read_passed}
use Rattle.step.proofs.Freed.{had}
use Rattle.step.proofs.Histories.{leaves, kept_through}
use Rattle.step.proofs.Laws.{keeps}
use Rattle.step.proofs.Owners.{submitted_same, under_same, taken_same, marked_same}

-- ---- who has a buffer

-- the table has the buffer of a live row, and that of a completion
pub row_had : (s : State) → Sound s → (t : ℕ) → names (row_at s (row_of t)) t ≡ true → table_has (get_or s.owners (row_at s (row_of t)).buffer lost) ≡ 1
row_had s sound t named = had s sound (row_of t) (named_below s sound t named) (named_live s sound t named)

pub ready_had : (s : State) → Sound s → (c : Completion) (more : List Completion) (b n : ℕ) → s.ready ≡ c ∷ more → c.buf ≡ Back (record { buffer = b; len = n }) → table_has (get_or s.owners b lost) ≡ 1
unfolding ready_hold
ready_had s sound c more b n e back =
    omega (arith, sound.holders b, ap (ready_hold b) e, ap (holds b) back, back_holds_own b n, has_most (get_or s.owners b lost))

-- a buffer that the table has is in the pool
pub had_in : (owners : List Owner) (b : ℕ) → table_has (get_or owners b lost) ≡ 1 → b < length owners
unfolding table_has
had_in owners b e = within owners b lost (λ w. table_has w ≡ 1) (λ past. omega arith) e

pub lost_in : (owners : List Owner) (b : ℕ) → get_or owners b host ≡ lost → b < length owners
lost_in owners b e = within owners b host (λ w. w ≡ lost) (λ past. clash (cc)) e

lost_there : (owners : List Owner) (b : ℕ) → get_or owners b host ≡ lost → get_or owners b lost ≡ lost
lost_there [] b e = refl
lost_there (w ∷ ws) zero e = e
lost_there (w ∷ ws) (suc b) e = lost_there ws b e

module _ (s : State) (b : ℕ) (gone : IsLost s b) where
  not_held : (k : ℕ) → held_at s k ≡ true → k ≢ b
  unfolding held_at is_host
  not_held k held e = not_both held (ap (λ (j : ℕ). is_host (get_or s.owners j lost)) e ∙ ap is_host (lost_there s.owners b gone))

  pub not_had : (k : ℕ) → table_has (get_or s.owners k lost) ≡ 1 → k ≢ b
  unfolding table_has
  not_had k has e = omega (arith, has, ap (λ (j : ℕ). table_has (get_or s.owners j lost)) e, ap table_has (lost_there s.owners b gone))

  -- ---- it stays lost

  abbrev StillLost : State × Reply → Type 0
  StillLost z = IsLost z.0 b

  module _ (sound : Sound s) where
    row_other : (t : ℕ) → names (row_at s (row_of t)) t ≡ true → (row_at s (row_of t)).buffer ≢ b
    row_other t named = not_had _ (row_had s sound t named)

    back_other : (c : Completion) (more : List Completion) → s.ready ≡ c ∷ more → (buf : Buffer) → c.buf ≡ buf → buffer_back buf ≢ some b
    unfolding buffer_back
    back_other c more e (Back h) back same = not_had h.buffer (ready_had s sound c more h.buffer h.len e back) (cc)
    back_other c more e Lost back same = clash (cc)

    ready_other : (cs : List Completion) → s.ready ≡ cs → taken_from cs ≢ some b
    unfolding taken_from
    ready_other [] e same = clash (cc)
    ready_other (c ∷ more) e same = back_other c more e c.buf refl same

    called_lost : (c : Call) → StillLost (called s c)
    unfolding called write_verdict read_verdict with_poison
    called_lost (Write q) = submitted_same s b q _ _ (λ yes. not_held q.buffer (write_passed s q yes).held) ∙ gone
    called_lost (ReadPage q) = submitted_same s b q _ _ (λ yes. not_held q.buffer (read_passed s q yes).held) ∙ gone
    called_lost (Answer t a back flushes) = under_same s b t (answered a back flushes) (row_other t) ∙ gone
    called_lost (Flushed t result) = under_same s b t (flushed result) (row_other t) ∙ gone
    called_lost Take = taken_same s b s.ready (ready_other s.ready refl) ∙ gone
    called_lost (SetGate h x) = marked_same s b h (with_gate (region_at s h) x) ∙ gone
    called_lost (SetReadOnly h x) = marked_same s b h (with_read_only (region_at s h) x) ∙ gone
    called_lost (SetForced h x) = marked_same s b h (with_forced (region_at s h) x) ∙ gone
    called_lost (ReportPoison cause) = gone

    done_lost : (l : Lengths) (m : Made) → StillLost (done s l m)
    unfolding done step
    done_lost l (calls c) = by_pick (eq_lengths l s.lengths) StillLost (λ same. called_lost c) (λ other. gone)
    done_lost l (looks x) = gone

pub stays_lost : (s : State) (es : List Event) (b : ℕ) → Sound s → Pools (length s.pool) es → IsLost s b → IsLost (run s es) b
unfolding next leave
stays_lost s es b sound pools gone =
    kept_through keeps (λ (x : State). IsLost x b) (λ s e i long now. done_lost (leave s e.leaves) b now (leaves s e.leaves i long) e.lengths e.made)
    s sound (length s.pool) (sym sound.pool) es pools gone

-- ---- no submission takes it

submitted_away : (s : State) (q : Request) (k : Kind) (a : Asked) → (a ≡ Ok tt → Passed s q) → IsLost s q.buffer → is_away (submitted s q (verdict_of a s k q)).1 ≡ true
unfolding submitted verdict_of is_away
submitted_away s q k (Err f) passes gone = refl
submitted_away s q k (Ok _) passes gone = absurd (not_held s q.buffer gone q.buffer (passes refl).held refl)

pub lost_refused : (s : State) (l : Lengths) (q : Request) → IsLost s q.buffer → (is_away (step s l (Write q)).1 ≡ true) × (is_away (step s l (ReadPage q)).1 ≡ true)
unfolding step called write_verdict read_verdict is_away
lost_refused s l q gone = (
  by_pick (eq_lengths l s.lengths) Refused (λ same. submitted_away s q _ _ (write_passed s q) gone) (λ other. refl),
  by_pick (eq_lengths l s.lengths) Refused (λ same. submitted_away s q _ _ (read_passed s q) gone) (λ other. refl),
)
  where
    Refused : State × Reply → Type 0
    Refused z = is_away z.1 ≡ true
