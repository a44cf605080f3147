-- As long as an operation is open, the last reply under its queue tag asks for what its row awaits. By induction over the events: the reply to an input under the
-- tag asks for what the row then awaits or leaves no row under it, and any other event leaves the row as it was and replies under no tag or another.
use mathlib.Core.Path.{◌≡◌, refl, sym, ap, ◌∙◌, subst}
use mathlib.Core.Logic.{◌≢◌}
use mathlib.Core.Bool.{Bool, true, false}
use mathlib.Core.Option.{Option, none, some}
use mathlib.Core.List.{List, [], ◌∷◌}
use Prim.Native.Nat.{ℕ}
use borrow.Author.Tests.{eq-eqb, ne_eqb}
use lib.Dec.{eqb, ltb}
use Rattle.layout.specs.Pick.{pick}
use Rattle.std.specs.declared.option.Option.{Option as StdOption}
use Rattle.completion.specs.Buffers.{Buffer}
use Rattle.completion.specs.declared.Completion.{Completion}
use Rattle.completion.specs.declared.Reply.{Reply}
use Rattle.model.specs.declared.Lengths.{Lengths}
use Rattle.model.specs.declared.Lookup.{Lookup}
use Rattle.model.specs.declared.Lookup.TheVariants.{WritesLive, Mark as MarkNow}
use Rattle.model.specs.declared.Kind.{Kind}
use Rattle.model.specs.declared.Awaits.{Awaits}
use Rattle.model.specs.declared.Awaits.TheVariants.{Nothing, Piece, Flush}
use Rattle.model.specs.declared.Row.{Row}
use Rattle.model.specs.declared.Request.{Request}
use Rattle.std.specs.declared.result.Result.TheVariants.{Ok, Err}
use Rattle.model.specs.declared.Call.{Call}
use Rattle.model.specs.declared.Call.TheVariants.{Write, ReadPage, Answer, Flushed, Take, SetGate, SetReadOnly, SetForced, ReportPoison}
use Rattle.model.specs.State.{State, Region}
use Rattle.model.specs.Opening.{Plan}
use Rattle.step.specs.Questions.{region_at, Asked}
use Rattle.step.specs.Rules.{Input, Input.answered, Input.flushed, Fate, Fate.away, Fate.awaits, Fate.ends, Fate.rejected}
use Rattle.step.specs.Step.{begun, top_of, row_at, row_of, names, plan_of, claimed_by, awaits_now, submitted, verdict_of, write_verdict, read_verdict, going, freeing, asks_for, rejection, settled, fate_of, under_tag, taken}
use Rattle.step.specs.Step.{marked, with_gate, with_read_only, with_forced, called, looked_up, eq_lengths, step, look}
use Rattle.step.specs.Sound.{Sound}
use Rattle.step.specs.Run.{Made, Made.calls, Made.looks, Event, leave, done, next, run, reply_to, Start}
use Rattle.step.specs.Lists.{brought_by, brought, plan_at, HostMay}
use Rattle.step.specs.Asked.{first_reply}
use Rattle.step.specs.Demand2.{Followed, under, last_reply, asks_under}
use Rattle.step.proofs.Picked.{by_pick}
use Rattle.step.proofs.AloneTags.{small_row, row_of_tag}
use Rattle.step.proofs.Answers.{Passed, write_passed, read_passed}
use Rattle.step.proofs.Taken.{top_row}
use Rattle.step.proofs.Histories.{leaves, keeps_next}
use Rattle.step.proofs.Laws.{keeps}
use Rattle.step.proofs.ListsBrought.{brings}
use Rattle.step.proofs.ProjectionFixed.{Fixed, next_plans}
use Rattle.step.proofs.Asked.{row_then, gone}
use Rattle.step.proofs.Demand2Others.{not_top, kept_out, done_row}
use Rattle.step.proofs.Demand2Begun.{Begun, row_is}

-- ---- an event that brings the operation nothing replies under no tag or another

asks_under_lem : (g : Plan) (u t b : ℕ) (a : Awaits) → under t (asks_for g u b a) ≡ eqb u t
unfolding under asks_for
asks_under_lem g u t b Nothing = refl
asks_under_lem g u t b (Piece k s) = refl
asks_under_lem g u t b (Flush w) = refl

module _ (s : State) (sound : Sound s) (t : ℕ) (named : names (row_at s (row_of t)) t ≡ true) where
  abbrev Silent : State × Reply → Type 0
  Silent z = under t z.1 ≡ false

  rejection_silent : (g : Plan) (a : Awaits) (e : StdOption ℕ) (b : Buffer) → under t (rejection g a e b) ≡ false
  unfolding under rejection
  rejection_silent g Nothing e b = refl
  rejection_silent g (Piece k sp) e b = refl
  rejection_silent g (Flush w) e b = refl

  settled_silent : (u : ℕ) → u ≢ t → (r : Row) (f : Fate) → Silent (settled s u r f)
  unfolding under settled
  settled_silent u n r (away f) = refl
  settled_silent u n r (awaits a bytes) = asks_under_lem (plan_of (region_at s r.handle)) u t r.buffer a ∙ ne_eqb u t n
  settled_silent u n r (ends ending) = ne_eqb u t n
  settled_silent u n r (rejected e b bytes) = rejection_silent (plan_of (region_at s r.handle)) r.awaits e b

  under_silent : (u : ℕ) → u ≢ t → (i : Input) → Silent (under_tag s u i)
  unfolding under under_tag
  under_silent u n i = by_pick (names (row_at s (row_of u)) u) Silent (λ here. settled_silent u n (row_at s (row_of u)) (fate_of s (row_at s (row_of u)) i)) (λ unnamed. refl)

  -- a new tag is that of a row that was free
  submitted_silent : (q : Request) (k : Kind) (a : Asked) → (a ≡ Ok tt → Passed s q) → Silent (submitted s q (verdict_of a s k q))
  unfolding under submitted verdict_of
  submitted_silent q k (Err f) passes = refl
  submitted_silent q k (Ok _) passes =
      let passed = passes refl in
      ne_eqb _ t (λ e. not_top s sound t named q passed (ap row_of (sym e) ∙ row_of_tag (top_of s.free) (row_at s (top_of s.free)).generation (small_row s sound (top_of s.free) (top_row s sound passed.room))))

  taken_silent : (l : List Completion) → Silent (taken s l)
  unfolding under taken
  taken_silent [] = refl
  taken_silent (c ∷ more) = refl

  marked_silent : (h : ℕ) (g : Region) → Silent (marked s h g)
  unfolding under marked
  marked_silent h g = by_pick (ltb h s.settings.regions) Silent (λ known. refl) (λ unknown. refl)

  called_silent : (c : Call) → brought_by t c ≡ none → Silent (called s c)
  unfolding under called write_verdict read_verdict brought_by
  called_silent (Write q) n = submitted_silent q _ _ (write_passed s q)
  called_silent (ReadPage q) n = submitted_silent q _ _ (read_passed s q)
  called_silent (Answer u a back flushes) n = under_silent u (kept_out s sound t named u _ n) (answered a back flushes)
  called_silent (Flushed u result) n = under_silent u (kept_out s sound t named u _ n) (flushed result)
  called_silent Take n = taken_silent s.ready
  called_silent (SetGate h x) n = marked_silent h (with_gate (region_at s h) x)
  called_silent (SetReadOnly h x) n = marked_silent h (with_read_only (region_at s h) x)
  called_silent (SetForced h x) n = marked_silent h (with_forced (region_at s h) x)
  called_silent (ReportPoison cause) n = refl

  looked_silent : (x : Lookup) → under t (looked_up s x) ≡ false
  unfolding under looked_up
  looked_silent WritesLive = refl
  looked_silent MarkNow = refl

  done_silent : (l : Lengths) (m : Made) → brought t m ≡ none → Silent (done s l m)
  unfolding under done step look brought
  done_silent l (calls c) n = by_pick (eq_lengths l s.lengths) Silent (λ same. called_silent c n) (λ other. refl)
  done_silent l (looks x) n = by_pick (eq_lengths l s.lengths) (λ (r : Reply). under t r ≡ false) (λ same. looked_silent x) (λ other. refl)

-- ---- one event

module _ (t : ℕ) (last : Reply) where
  -- the last reply with that to a call asks for what the row under the tag then awaits, if there is one
  abbrev StillAsks : State × Reply → Type 0
  StillAsks z = names (row_at z.0 (row_of t)) t ≡ true → pick (under t z.1) z.1 last ≡ asks_under z.0 t

  module _ (s : State) (named : names (row_at s (row_of t)) t ≡ true) (was : last ≡ asks_under s t) where
    settled_still : (f : Fate) → StillAsks (settled s t (row_at s (row_of t)) f)
    unfolding settled going freeing awaits_now under pick plan_at region_at
    settled_still (away f) live = was
    settled_still (awaits a bytes) live =
        let r = row_at s (row_of t) in
        let s' = going s (row_of t) r a bytes in
        let now : row_at s' (row_of t) ≡ awaits_now r a = row_then s t r named refl s' (awaits_now r a) refl in
        ap (λ (b : Bool). pick b (asks_for (plan_of (region_at s r.handle)) t r.buffer a) last) (asks_under_lem (plan_of (region_at s r.handle)) t t r.buffer a ∙ eq-eqb t t refl)
        ∙ (λ j. asks_for (plan_of (region_at s (sym now j).handle)) t (sym now j).buffer (sym now j).awaits)
    settled_still (ends ending) live = absurd (gone s t (row_at s (row_of t)) named refl _ _ refl live)
    settled_still (rejected e b bytes) live = absurd (gone s t (row_at s (row_of t)) named refl _ _ refl live)

    own_still : (l : Lengths) (m : Made) (i : Input) → brought t m ≡ some i → StillAsks (done s l m)
    unfolding under_tag under pick
    own_still l m i bt =
        subst StillAsks (sym ((brings m t i bt).called_is s l))
        (by_pick (eq_lengths l s.lengths) StillAsks
        (λ same. by_pick (names (row_at s (row_of t)) t) StillAsks (λ here. settled_still (fate_of s (row_at s (row_of t)) i)) (λ unnamed live. was)) (λ other live. was))

  module _ (s : State) (sound : Sound s) (e : Event) (host : HostMay s e.leaves) (named : names (row_at s (row_of t)) t ≡ true) (was : last ≡ asks_under s t) where
    event_still : names (row_at (next s e) (row_of t)) t ≡ true → pick (under t (reply_to s e)) (reply_to s e) last ≡ asks_under (next s e) t
    unfolding next reply_to row_at leave plan_at region_at pick
    event_still = by_brought (brought t e.made) refl
      where
        left : State
        left = leave s e.leaves

        by_brought : (v : Option Input) → brought t e.made ≡ v → StillAsks (done left e.lengths e.made)
        by_brought (some i) bt live = own_still left named was e.lengths e.made i bt live
        by_brought none bt live =
            let sound₁ = leaves s e.leaves sound host.count in
            let same : row_at (next s e) (row_of t) ≡ row_at s (row_of t) = done_row left sound₁ t named e.lengths e.made bt in
            ap (λ (b : Bool). pick b (reply_to s e) last) (done_silent left sound₁ t named e.lengths e.made bt) ∙ was
            ∙ (λ j. asks_for (sym (next_plans s e (row_at s (row_of t)).handle) j) t (row_at s (row_of t)).buffer (row_at s (row_of t)).awaits)
            ∙ (λ j. asks_for (plan_of (region_at (next s e) (sym same j).handle)) t (sym same j).buffer (sym same j).awaits)

-- ---- a list of events

open_before : (t : ℕ) (es : List Event) (s : State) → Followed s es t → names (row_at (run s es) (row_of t)) t ≡ true → names (row_at s (row_of t)) t ≡ true
unfolding Followed run
open_before t [] s f live = live
open_before t (e ∷ es) s f live = f.0

pub asked_from : (t : ℕ) (es : List Event) (s : State) → Sound s → Followed s es t → names (row_at (run s es) (row_of t)) t ≡ true → (last : Reply) → last ≡ asks_under s t
    → last_reply s es t last ≡ asks_under (run s es) t
unfolding Followed run last_reply
asked_from t [] s sound f live last was = was
asked_from t (e ∷ es) s sound f live last was =
    asked_from t es (next s e) (keeps_next keeps s e sound f.1.count) f.2 live _ (event_still t last s sound e f.1 f.0 was (open_before t es (next s e) f.2 live))

-- ---- the first reply

module _ (x : Start) (s : State) (sound : Sound s) (fixed : Fixed x s) (e : Event) (host : HostMay s e.leaves) (q : Request) (k : Kind) (t : ℕ) (g : Begun (leave s e.leaves) q k t (done (leave s e.leaves) e.lengths e.made)) where
  pub first_asks : reply_to s e ≡ asks_under (next s e) t
  unfolding reply_to first_reply plan_at claimed_by region_at leave
  first_asks =
      let r = row_is x s sound fixed e host q k t g in
      g.reply
      ∙ (λ j. asks_for (sym (next_plans s e q.handle) j) (g.tag j) q.buffer (Piece k (begun q.length)))
      ∙ (λ j. asks_for (plan_of (region_at (next s e) (sym r j).handle)) t (sym r j).buffer (sym r j).awaits)
