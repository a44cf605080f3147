-- The laws of what the other laws leave to the definitions. Who has a buffer is Owners', lost ones are Lost's, LostBytes' and Refused's. A reply that completes comes of the one fate that adds a
-- completion; a taking, a setting and a report compute; the lookups go by induction on the rows.
use mathlib.Core.Path.{◌≡◌, refl, sym, ap, ◌∙◌, subst}
use mathlib.Core.Bool.{Bool, true, false, ◌||◌}
use mathlib.Core.Option.{some}
use mathlib.Core.List.{List, [], ◌∷◌}
use Prim.Native.Nat.{ℕ, zero, suc, ◌+◌, ◌*◌, ◌≤◌, ◌<◌}
use native.Mathlib.Omega.{arith}
use borrow.Author.Tests.{lt-ltb, eq-eqb, ne_eqb}
use lib.Dec.{ltb}
use lib.ListN.{length, get_or, length-append}
use lib.Seq.{get_or-set_same, get_or-set_other}
use Rattle.layout.specs.Pick.{pick}
use Rattle.layout.proofs.Tests.{not_both, or_first, or_second}
use Rattle.regionmap.specs.declared.Position.{Position}
use Rattle.domain.specs.declared.FirstCause.{FirstCause}
use Rattle.std.specs.declared.option.Option.{Option}
use Rattle.std.specs.declared.option.Option.TheVariants.{None, Some}
use Rattle.domain.specs.Domain.{first_kept}
use Rattle.completion.specs.Buffers.{Buffer}
use Rattle.std.specs.declared.option.Option.TheVariants.{Some as Back}
use Rattle.completion.specs.declared.Completion.{Completion}
use Rattle.completion.specs.declared.Refusal.TheVariants.{Unfit}
use Rattle.completion.specs.declared.Reply.{Reply}
use Rattle.completion.specs.declared.Reply.TheVariants.{No as turnedAway, Done, Took, Ok, Writes, Mark}
use Rattle.model.specs.declared.Lengths.{Lengths}
use Rattle.model.specs.declared.Kind.TheVariants.{Page, Read}
use Rattle.model.specs.declared.Split.{Split}
use Rattle.model.specs.declared.Awaits.{Awaits}
use Rattle.model.specs.declared.Awaits.TheVariants.{Nothing, Piece, Flush}
use Rattle.model.specs.declared.Row.{Row}
use Rattle.model.specs.declared.Call.{Call}
use Rattle.model.specs.declared.Call.TheVariants.{Take, SetGate, SetReadOnly, SetForced, ReportPoison}
use Rattle.model.specs.declared.Lookup.{Lookup}
use Rattle.model.specs.declared.Lookup.TheVariants.{WritesLive, Mark as MarkNow}
use Rattle.model.specs.State.{Region, no_region, Owner.host, Owner.lost, State, freed, live_rows}
use Rattle.step.specs.Questions.{is_host, held_at, region_at}
use Rattle.step.specs.Rules.{Input, Fate, Fate.away, Fate.awaits, Fate.ends, Fate.rejected}
use Rattle.step.specs.Step.{row_at, row_of, names, is_live, going, freeing, settled, fate_of, under_tag, given_back, taken, with_regions, with_poison, marked, plan_of, with_gate, with_read_only, with_forced, called}
use Rattle.step.specs.Step.{writes_in, any_writes, oldest, mark_of, looked_up, eq_lengths, step, look}
use Rattle.step.specs.Sound.{Sound}
use Rattle.step.specs.Run.{Made.calls, done}
use Rattle.step.specs.Lists.{brought_by, brought}
use Rattle.step.specs.Others.{MarksSet, OtherLaws}
use Rattle.step.proofs.Picked.{by_pick}
use Rattle.step.proofs.Named.{live_one, live_below}
use Rattle.step.proofs.AloneTags.{clash}
use Rattle.step.proofs.Freed.{some_live}
use Rattle.step.proofs.QueueOrder.{none_live}
use Rattle.step.proofs.ProjectionHost.{live_in_table}
use Rattle.step.proofs.Asked.{called_is}
use Rattle.step.proofs.ListsBrought.{brings}
use Rattle.step.proofs.Lost.{ready_had, had_in, stays_lost, lost_refused}
use Rattle.step.proofs.Owners.{others_kept}
use Rattle.step.proofs.LostBytes.{lost_lies}
use Rattle.step.proofs.Refused.{loses, first_refused_lem}

-- ---- the reply that completes

module _ (s : State) (t : ℕ) where
  abbrev SaysDone : State × Reply → Type 0
  SaysDone z = length z.0.ready ≡ length s.ready + 1 → z.1 ≡ Done t

  settled_done : (row : Row) (f : Fate) → SaysDone (settled s t row f)
  unfolding settled going freeing
  settled_done row (away f) e = absurd (omega arith)
  settled_done row (awaits a bytes) e = absurd (omega arith)
  settled_done row (ends ending) e = refl
  settled_done row (rejected x b bytes) e = absurd (omega (arith, length-append s.ready []))

  says_done : (l : Lengths) (c : Call) (i : Input) → brought_by t c ≡ some i → SaysDone (step s l c)
  unfolding done brought under_tag
  says_done l c i e =
      subst SaysDone (sym ((brings (calls c) t i e).called_is s l))
      (by_pick (eq_lengths l s.lengths) SaysDone
      (λ same. by_pick (names (row_at s (row_of t)) t) SaysDone (λ named. settled_done (row_at s (row_of t)) (fate_of s (row_at s (row_of t)) i)) (λ unnamed n. absurd (omega arith))) (λ other n. absurd (omega arith)))

-- ---- calls with the opening's lengths

module _ (s : State) (l : Lengths) (same : eq_lengths l s.lengths ≡ true) where
  looked : (x : Lookup) → look s l x ≡ looked_up s x
  unfolding look pick
  looked x = ap (λ (b : Bool). pick b (looked_up s x) (turnedAway Unfit)) same

  take_is : (cs : List Completion) → s.ready ≡ cs → step s l Take ≡ taken s cs
  unfolding called
  take_is cs e = called_is s l same Take ∙ ap (taken s) e

  takes : (c : Completion) (more : List Completion) → Sound s → s.ready ≡ c ∷ more
      → ((step s l Take).1 ≡ Took c) × ((step s l Take).0.ready ≡ more) × ((b n : ℕ) → c.buf ≡ Back (record { buffer = b; len = n }) → held_at (step s l Take).0 b ≡ true)
  unfolding taken held_at is_host given_back
  takes c more sound e =
      (ap (λ (z : State × Reply). z.1) (take_is (c ∷ more) e), ap (λ (z : State × Reply). z.0.ready) (take_is (c ∷ more) e), λ b n back. held b n back)
    where
      held : (b n : ℕ) → c.buf ≡ Back (record { buffer = b; len = n }) → held_at (step s l Take).0 b ≡ true
      held b n back =
          ap (λ (z : State × Reply). held_at z.0 b) (take_is (c ∷ more) e)
          ∙ ap (λ (buf : Buffer). is_host (get_or (given_back s.owners buf) b lost)) back
          ∙ ap is_host (get_or-set_same s.owners b host lost (had_in s.owners b (ready_had s sound c more b n e back)))

  -- a region in the place of one that the opening was given so
  sets : (c : Call) (h : ℕ) (g : Region) → Sound s → h < s.settings.regions → called s c ≡ marked s h g → plan_of g ≡ plan_of (region_at s h) → MarksSet s (step s l c).0 (step s l c).1 h g.gate g.read_only g.forced
  unfolding with_regions plan_of region_at marked
  sets c h g sound known call plan =
      subst Set (sym (called_is s l same c ∙ call))
      (by_pick (ltb h s.settings.regions) Set
      (λ named. record {
        here = get_or-set_same s.regions h g no_region (rw sound.regions known)
            ∙ (λ i. record { id = (plan i).id; generation = (plan i).generation; map = (plan i).map; gate = g.gate; read_only = g.read_only; forced = g.forced });
        others = λ k n. get_or-set_other s.regions h k g no_region n;
        rest = refl;
        reply = refl;
      })
      (λ unnamed. absurd (not_both (lt-ltb h s.settings.regions known) unnamed)))
    where
      Set : State × Reply → Type 0
      Set z = MarksSet s z.0 z.1 h g.gate g.read_only g.forced

  reports : (p : Option FirstCause) (cause : FirstCause) → s.poison ≡ p → step s l (ReportPoison cause) ≡ (with_poison s (first_kept p cause), Ok)
  unfolding called
  reports p cause e = called_is s l same (ReportPoison cause) ∙ ap (λ (p : Option FirstCause). (with_poison s (first_kept p cause), Ok)) e

  reports_later : (cause first : FirstCause) → s.poison ≡ Some first → step s l (ReportPoison cause) ≡ (s, Ok)
  unfolding with_poison
  reports_later cause first e = reports (Some first) cause e ∙ ap (λ (p : Option FirstCause). (with_poison s p, Ok)) (sym e)

-- ---- the lookups

some_write : (rows : List Row) (r : ℕ) (a b : Position) (sp : Split) → (get_or rows r (freed 0)).awaits ≡ Piece (Page a b) sp → any_writes rows ≡ true
unfolding any_writes writes_in freed
some_write [] r a b sp e = clash (cc)
some_write (x ∷ xs) zero a b sp e = or_first (writes_in x.awaits) (any_writes xs) (ap writes_in e)
some_write (x ∷ xs) (suc r) a b sp e = or_second (writes_in x.awaits) (any_writes xs) (some_write xs r a b sp e)

not_written : (w : Awaits) → ((a b : Position) (sp : Split) → w ≡ Piece (Page a b) sp → ⊥) → writes_in w ≡ false
unfolding writes_in
not_written Nothing n = refl
not_written (Piece (Page a b) sp) n = absurd (n a b sp refl)
not_written (Piece (Read a b) sp) n = refl
not_written (Flush t) n = refl

no_write : (rows : List Row) → ((r : ℕ) (a b : Position) (sp : Split) → (get_or rows r (freed 0)).awaits ≡ Piece (Page a b) sp → ⊥) → any_writes rows ≡ false
unfolding any_writes
no_write [] h = refl
no_write (x ∷ xs) h = ap (λ (b : Bool). b || any_writes xs) (not_written x.awaits (h 0)) ∙ no_write xs (λ r. h (suc r))

-- the oldest is at most each live row's number, and no less than what is at most each
oldest_most : (n : ℕ) (rows : List Row) (r : ℕ) → is_live (get_or rows r (freed 0)).awaits ≡ true → oldest n rows ≤ (get_or rows r (freed 0)).seq
unfolding oldest is_live freed
oldest_most n [] r e = absurd (not_both e refl)
oldest_most n (x ∷ xs) zero e = by_pick (is_live x.awaits) (λ (k : ℕ). k ≤ x.seq) (λ live. omega arith) (λ dead. absurd (not_both e dead))
oldest_most n (x ∷ xs) (suc r) e =
    by_pick (is_live x.awaits) (λ (k : ℕ). k ≤ (get_or xs r (freed 0)).seq) (λ live. omega (arith, oldest_most n xs r e)) (λ dead. oldest_most n xs r e)

oldest_least : (n m : ℕ) (rows : List Row) → m ≤ n → ((r : ℕ) → is_live (get_or rows r (freed 0)).awaits ≡ true → m ≤ (get_or rows r (freed 0)).seq) → m ≤ oldest n rows
unfolding oldest
oldest_least n m [] le h = le
oldest_least n m (x ∷ xs) le h =
    let behind = oldest_least n m xs le (λ r. h (suc r)) in
    by_pick (is_live x.awaits) (λ (k : ℕ). m ≤ k) (λ live. omega (arith, h 0 live, behind)) (λ dead. behind)

mark : (s : State) (l : Lengths) (r : ℕ) → Sound s → eq_lengths l s.lengths ≡ true → is_live (row_at s r).awaits ≡ true
    → ((k : ℕ) → is_live (row_at s k).awaits ≡ true → (row_at s r).seq ≤ (row_at s k).seq) → look s l MarkNow ≡ Mark (2 * (row_at s r).seq + 1)
unfolding looked_up mark_of row_at pick
mark s l r sound same live least =
    let n = s.counts.submissions in
    let it : oldest n s.rows ≡ (row_at s r).seq = omega (arith, oldest_most n s.rows r live, oldest_least n (row_at s r).seq s.rows (omega (arith, (live_in_table s sound r live).before)) least) in
    let one = some_live s sound r (live_below s sound r live) (live_one (row_at s r).awaits live) in
    looked s l same MarkNow ∙ rw (ne_eqb (live_rows s.rows) 0 (λ none. omega (arith, one, sound.live)), it)

mark_none : (s : State) (l : Lengths) → eq_lengths l s.lengths ≡ true → ((r : ℕ) → is_live (row_at s r).awaits ≡ false) → look s l MarkNow ≡ Mark (2 * s.counts.submissions)
unfolding looked_up mark_of row_at pick
mark_none s l same dead = looked s l same MarkNow ∙ rw (eq-eqb (live_rows s.rows) 0 (none_live s.rows dead))

pub other_laws : OtherLaws
unfolding with_gate with_read_only with_forced plan_of called looked_up row_at taken
other_laws = record {
  others_kept = others_kept;
  loses = λ s l t a flushes. loses s t a flushes l;
  stays_lost = stays_lost;
  lost_refused = lost_refused;
  lost_lies = lost_lies;
  first_refused_lem = λ s l t k sp a back flushes sound same named waits begins refused. first_refused_lem s l t k sp a back flushes same named waits begins refused sound;
  done = λ s l c t i e. says_done s t l c i e;
  takes = λ s l c more sound same e. takes s l same c more sound e;
  takes_none = λ s l same e. take_is s l same [] e;
  sets_gate = λ s l h x sound same known. sets s l same (SetGate h x) h (with_gate (region_at s h) x) sound known refl refl;
  sets_read_only = λ s l h x sound same known. sets s l same (SetReadOnly h x) h (with_read_only (region_at s h) x) sound known refl refl;
  sets_forced = λ s l h x sound same known. sets s l same (SetForced h x) h (with_forced (region_at s h) x) sound known refl refl;
  reports = λ s l cause same e. reports s l same None cause e;
  reports_later = λ s l cause first same e. reports_later s l same cause first e;
  writes = λ s l r a b sp same e. looked s l same WritesLive ∙ ap Writes (some_write s.rows r a b sp e);
  no_writes = λ s l same h. looked s l same WritesLive ∙ ap Writes (no_write s.rows h);
  mark = mark;
  mark_none = mark_none;
}
