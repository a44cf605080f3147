-- What an event leaves as it was: the card bytes that its operation's range is not mapped to, the bytes of every buffer but its operation's, and the row that
-- another queue tag names.
use mathlib.Core.Path.{◌≡◌, refl, sym, ap, ◌∙◌, subst}
use mathlib.Core.Logic.{◌≢◌}
use mathlib.Core.Bool.{true}
use mathlib.Core.Option.{none, some}
use mathlib.Core.List.{List, [], ◌∷◌}
use Prim.Native.Nat.{ℕ, ◌<◌}
use native.Mathlib.Omega.{arith}
use borrow.Author.Tests.{eq-eqb}
use lib.Dec.{eqb, ltb}
use lib.Seq.{get_or-set_other}
use Rattle.layout.specs.Pick.{pick}
use Rattle.posix.specs.Posix.{Card}
use Rattle.completion.specs.declared.Completion.{Completion}
use Rattle.completion.specs.declared.Reply.{Reply}
use Rattle.model.specs.declared.Lengths.{Lengths}
use Rattle.model.specs.declared.Kind.{Kind}
use Rattle.model.specs.declared.Request.{Request}
use Rattle.std.specs.declared.result.Result.TheVariants.{Ok, Err}
use Rattle.model.specs.declared.Call.{Call}
use Rattle.model.specs.declared.Call.TheVariants.{Write, ReadPage, Answer, Flushed, Take, SetGate, SetReadOnly, SetForced, ReportPoison}
use Rattle.model.specs.State.{Region, State, freed, awaiting}
use Rattle.step.specs.Questions.{region_at, Asked}
use Rattle.step.specs.Rules.{Input, Input.answered, Input.flushed, Fate, Fate.away, Fate.awaits, Fate.ends, Fate.rejected}
use Rattle.step.specs.Step.{top_of, row_at, row_of, names, bytes_at, raised, awaits_now, accepted, submitted, verdict_of, write_verdict, read_verdict, going, freeing, settled, fate_of, under_tag, taken}
use Rattle.step.specs.Step.{with_regions, with_poison, marked, with_gate, with_read_only, with_forced, called, eq_lengths, step}
use Rattle.step.specs.Sound.{Sound}
use Rattle.step.specs.Run.{Made, Made.calls, Made.looks, Event, leave, done, next, reply_to}
use Rattle.step.specs.Lists.{brought_by, brought, is_away, plan_at, tag_in, card_by}
use Rattle.step.specs.Demand2.{BeingWritten}
use Rattle.step.proofs.Picked.{by_pick}
use Rattle.step.proofs.Named.{live_one}
use Rattle.step.proofs.AloneTags.{clash, names_live, one_tag}
use Rattle.step.proofs.Answers.{Passed, write_passed, read_passed}
use Rattle.step.proofs.Taken.{awaits_nothing}
use Rattle.step.proofs.Buffers.{bytes_length}
use Rattle.step.proofs.Fates.{Fitting, FateFits, fate_fits}
use Rattle.step.proofs.CardBytes.{wrote_beside}
use Rattle.step.proofs.ProjectionHost.{live_in_table}
use Rattle.step.proofs.ProjectionSet.{bytes_there}

-- ---- the card

pub card_others : (s : State) (e : Event) (card : Card) (y : ℕ) → let r = row_at s (row_of (tag_in e.made)) in (BeingWritten (plan_at s r) r.awaits y → ⊥) → card_by s e card y ≡ card y
unfolding card_by
card_others s e card y n =
    by_pick (is_away (reply_to s e)) (λ (after : Card). after y ≡ card y) (λ gone. refl)
    (λ heard. wrote_beside (plan_at s (row_at s (row_of (tag_in e.made)))) (row_at s (row_of (tag_in e.made))).awaits _ (brought (tag_in e.made) e.made) card y n)

-- ---- the pool

module _ (s : State) (sound : Sound s) (b : ℕ) where
  abbrev SameBytes : State × Reply → Type 0
  SameBytes z = bytes_at z.0 b ≡ bytes_at s b

  settled_bytes : (t : ℕ) → names (row_at s (row_of t)) t ≡ true → (row_at s (row_of t)).buffer ≢ b → (f : Fate) → FateFits s (row_at s (row_of t)) f → SameBytes (settled s t (row_at s (row_of t)) f)
  unfolding settled going freeing Fitting
  settled_bytes t named n (away f) z = refl
  settled_bytes t named n (awaits a bytes) z =
      let row = row_at s (row_of t) in
      let lt = (live_in_table s sound (row_of t) (names_live row t named)).buffer in
      bytes_there s (going s (row_of t) row a bytes) (row_of t) row.buffer (awaits_now row a) bytes (record { settings = refl; regions = refl; rows = refl; pool = refl }) sound lt (z.1 ∙ bytes_length s sound row.buffer lt) b (λ e. n (sym e))
  settled_bytes t named n (ends ending) z =
      let row = row_at s (row_of t) in
      let lt = (live_in_table s sound (row_of t) (names_live row t named)).buffer in
      bytes_there s (settled s t row (ends ending)).0 (row_of t) row.buffer (freed (raised row.generation)) ending.bytes (record { settings = refl; regions = refl; rows = refl; pool = refl }) sound lt (z.1 ∙ bytes_length s sound row.buffer lt) b (λ e. n (sym e))
  settled_bytes t named n (rejected f buf bytes) z =
      let row = row_at s (row_of t) in
      let lt = (live_in_table s sound (row_of t) (names_live row t named)).buffer in
      bytes_there s (settled s t row (rejected f buf bytes)).0 (row_of t) row.buffer (freed row.generation) bytes (record { settings = refl; regions = refl; rows = refl; pool = refl }) sound lt (z.2 ∙ bytes_length s sound row.buffer lt) b (λ e. n (sym e))

  under_bytes : (t : ℕ) (i : Input) → (names (row_at s (row_of t)) t ≡ true → (row_at s (row_of t)).buffer ≢ b) → SameBytes (under_tag s t i)
  unfolding under_tag
  under_bytes t i n =
      let row = row_at s (row_of t) in
      by_pick (names row t) SameBytes (λ named. settled_bytes t named (n named) (fate_of s row i) (fate_fits s row i)) (λ unnamed. refl)

  submitted_bytes : (q : Request) (k : Kind) (a : Asked) → SameBytes (submitted s q (verdict_of a s k q))
  unfolding submitted verdict_of accepted bytes_at
  submitted_bytes q k (Err f) = refl
  submitted_bytes q k (Ok _) = refl

  taken_bytes : (l : List Completion) → SameBytes (taken s l)
  unfolding taken bytes_at
  taken_bytes [] = refl
  taken_bytes (c ∷ more) = refl

  marked_bytes : (h : ℕ) (g : Region) → SameBytes (marked s h g)
  unfolding marked with_regions bytes_at
  marked_bytes h g = by_pick (ltb h s.settings.regions) SameBytes (λ known. refl) (λ unknown. refl)

  -- an answer under a tag is not the buffer's
  abbrev NotOf : Made → Type 0
  NotOf m = (i : Input) → brought (tag_in m) m ≡ some i → names (row_at s (row_of (tag_in m))) (tag_in m) ≡ true → (row_at s (row_of (tag_in m))).buffer ≢ b

  called_bytes : (c : Call) → NotOf (calls c) → SameBytes (called s c)
  unfolding called write_verdict read_verdict with_poison bytes_at tag_in brought brought_by pick
  called_bytes (Write q) n = submitted_bytes q _ _
  called_bytes (ReadPage q) n = submitted_bytes q _ _
  called_bytes (Answer t a back flushes) n = under_bytes t (answered a back flushes) (n (answered a back flushes) (rw (eq-eqb t t refl)))
  called_bytes (Flushed t result) n = under_bytes t (flushed result) (n (flushed result) (rw (eq-eqb t t refl)))
  called_bytes Take n = taken_bytes s.ready
  called_bytes (SetGate h x) n = marked_bytes h (with_gate (region_at s h) x)
  called_bytes (SetReadOnly h x) n = marked_bytes h (with_read_only (region_at s h) x)
  called_bytes (SetForced h x) n = marked_bytes h (with_forced (region_at s h) x)
  called_bytes (ReportPoison cause) n = refl

  done_bytes : (l : Lengths) (m : Made) → NotOf m → SameBytes (done s l m)
  unfolding done step
  done_bytes l (calls c) n = by_pick (eq_lengths l s.lengths) SameBytes (λ same. called_bytes c n) (λ other. refl)
  done_bytes l (looks x) n = refl

pub pool_others : (s : State) (e : Event) (b : ℕ) → Sound (leave s e.leaves) → b < s.settings.buffers
    → ((i : Input) → brought (tag_in e.made) e.made ≡ some i → names (row_at s (row_of (tag_in e.made))) (tag_in e.made) ≡ true → (row_at s (row_of (tag_in e.made))).buffer ≢ b)
    → bytes_at (next s e) b ≡ bytes_at (leave s e.leaves) b
unfolding next row_at leave
pool_others s e b sound lt n = done_bytes (leave s e.leaves) sound b e.lengths e.made n

-- ---- the row that a tag names

module _ (s : State) (sound : Sound s) (t : ℕ) (named : names (row_at s (row_of t)) t ≡ true) where
  abbrev SameRow : State × Reply → Type 0
  SameRow z = row_at z.0 (row_of t) ≡ row_at s (row_of t)

  -- another tag that names a row names another
  pub other_row : (u : ℕ) → u ≢ t → names (row_at s (row_of u)) u ≡ true → row_of u ≢ row_of t
  other_row u n here e = n (one_tag (row_at s (row_of t)) u t e (ap (λ (r : ℕ). names (row_at s r) u) (sym e) ∙ here) named)

  settled_row : (u : ℕ) → row_of u ≢ row_of t → (f : Fate) → SameRow (settled s u (row_at s (row_of u)) f)
  unfolding settled going freeing row_at
  settled_row u n (away f) = refl
  settled_row u n (awaits a bytes) = get_or-set_other s.rows (row_of u) (row_of t) _ (freed 0) (λ e. n (sym e))
  settled_row u n (ends ending) = get_or-set_other s.rows (row_of u) (row_of t) _ (freed 0) (λ e. n (sym e))
  settled_row u n (rejected f buf bytes) = get_or-set_other s.rows (row_of u) (row_of t) _ (freed 0) (λ e. n (sym e))

  under_row : (u : ℕ) (i : Input) → u ≢ t → SameRow (under_tag s u i)
  unfolding under_tag
  under_row u i n =
      let row = row_at s (row_of u) in
      by_pick (names row u) SameRow (λ here. settled_row u (other_row u n here) (fate_of s row i)) (λ unnamed. refl)

  -- the row that a submission takes is free
  pub not_top : (q : Request) → Passed s q → row_of t ≢ top_of s.free
  not_top q passed e =
      let live = live_one (row_at s (row_of t)).awaits (names_live (row_at s (row_of t)) t named) in
      omega (arith, subst (λ (r : ℕ). awaiting (row_at s r).awaits ≡ 1) e live, awaits_nothing s sound passed.room)

  submitted_row : (q : Request) (k : Kind) (a : Asked) → (a ≡ Ok tt → Passed s q) → SameRow (submitted s q (verdict_of a s k q))
  unfolding submitted verdict_of accepted row_at
  submitted_row q k (Err f) passes = refl
  submitted_row q k (Ok _) passes = get_or-set_other s.rows (top_of s.free) (row_of t) _ (freed 0) (not_top q (passes refl))

  taken_row : (l : List Completion) → SameRow (taken s l)
  unfolding taken row_at
  taken_row [] = refl
  taken_row (c ∷ more) = refl

  marked_row : (h : ℕ) (g : Region) → SameRow (marked s h g)
  unfolding marked with_regions row_at
  marked_row h g = by_pick (ltb h s.settings.regions) SameRow (λ known. refl) (λ unknown. refl)

  -- nothing is brought to the tag
  pub kept_out : {A : Type 0} (u : ℕ) (y : A) → pick (eqb u t) (some y) none ≡ none → u ≢ t
  unfolding pick
  kept_out u y e same = clash (let z : some y ≡ none = (rw (eq-eqb u t same) at e) in cc)

  called_row : (c : Call) → brought_by t c ≡ none → SameRow (called s c)
  unfolding called write_verdict read_verdict with_poison row_at brought_by
  called_row (Write q) n = submitted_row q _ _ (write_passed s q)
  called_row (ReadPage q) n = submitted_row q _ _ (read_passed s q)
  called_row (Answer u a back flushes) n = under_row u (answered a back flushes) (kept_out u _ n)
  called_row (Flushed u result) n = under_row u (flushed result) (kept_out u _ n)
  called_row Take n = taken_row s.ready
  called_row (SetGate h x) n = marked_row h (with_gate (region_at s h) x)
  called_row (SetReadOnly h x) n = marked_row h (with_read_only (region_at s h) x)
  called_row (SetForced h x) n = marked_row h (with_forced (region_at s h) x)
  called_row (ReportPoison cause) n = refl

  pub done_row : (l : Lengths) (m : Made) → brought t m ≡ none → SameRow (done s l m)
  unfolding done step brought
  done_row l (calls c) n = by_pick (eq_lengths l s.lengths) SameRow (λ same. called_row c n) (λ other. refl)
  done_row l (looks x) n = refl
