-- A call is turned away exactly by the first of its questions that fails. A submission's verdict is their answer. Where an answer's or a flush result's tag names
-- a live row the rules are gone through by what the row awaits: 15 and 16 are the only fates that turn away.
use mathlib.Core.Path.{◌≡◌, refl, sym, ap, ◌∙◌}
use mathlib.Core.Bool.{Bool, true, false, not, ◌||◌}
use mathlib.Core.Option.{some}
use mathlib.Core.List.{List, [], ◌∷◌}
use Prim.Native.Nat.{ℕ, ◌<◌}
use lib.ListN.{length, get_or, set}
use lib.Seq.{get_or-set_same}
use lib.Dec.{ltb}
use Rattle.layout.specs.Pick.{pick}
use Rattle.layout.proofs.Tests.{not_both}
use Rattle.iobuf.specs.Turn.{turned}
use Rattle.domain.specs.declared.FirstCause.{FirstCause}
use Rattle.std.specs.declared.option.Option.{Option}
use Rattle.platform.specs.declared.Answer.{Answer}
use Rattle.platform.specs.declared.Flushed.{Flushed}
use Rattle.completion.specs.declared.Completion.{Completion}
use Rattle.completion.specs.declared.Context.TheVariants.{None as bare}
use Rattle.completion.specs.declared.Refusal.TheVariants.{ForeignPosition, Unfit, UnknownTag, NotAwaited, AbovePiece}
use Rattle.completion.specs.declared.Reply.{Reply}
use Rattle.completion.specs.declared.Reply.TheVariants.{No as turnedAway, Done}
use Rattle.completion.specs.Numbers.{number}
use Rattle.model.specs.declared.Opening.{Opening}
use Rattle.model.specs.declared.Lengths.{Lengths}
use Rattle.model.specs.declared.Kind.{Kind}
use Rattle.model.specs.declared.Kind.TheVariants.{Page, Read}
use Rattle.model.specs.declared.Split.{Split}
use Rattle.model.specs.declared.Awaits.{Awaits}
use Rattle.model.specs.declared.Awaits.TheVariants.{Nothing, Piece, Flush}
use Rattle.model.specs.declared.Row.{Row}
use Rattle.model.specs.declared.Request.{Request}
use Rattle.std.specs.declared.result.Result.TheVariants.{Ok, Err}
use Rattle.model.specs.declared.Call.{Call}
use Rattle.model.specs.declared.Call.TheVariants.{Write, ReadPage, Answer as answer, Flushed as flushResult, Take, SetGate, SetReadOnly, SetForced, ReportPoison}
use Rattle.model.specs.State.{State, Region, freed}
use Rattle.model.specs.Opening.{Plan, among}
use Rattle.step.specs.Questions.{ask, first_no, region_at, write_questions, read_questions, Asked}
use Rattle.step.specs.Rules.{first_of, error_of, buffer_as, split_after, piece_length, above_piece, first_refused, goes_on, is_written, written_as, last_piece, piece_answered, answer_rules, flush_rules, flush_ends, rules, Input, Input.answered, Input.flushed, Fate, Fate.away, Fate.awaits, Fate.ends, Fate.rejected}
use Rattle.step.specs.Step.{start_of, end_of, top_of, verdict_of, write_verdict, read_verdict, accepted, submitted, row_at, row_of, is_live, names, bytes_at, awaits_now, going, freeing, plan_of, asks_for, rejection, settled, fate_of, under_tag, taken, marked, eq_lengths, called, step}
use Rattle.step.specs.Laws.{SaysEach}
use Rattle.step.specs.Asked.{awaits_piece, at_most_piece, answer_questions, awaits_flush, flush_questions, sets_mark, first_reply, asked_by, AskedLaws}
use Rattle.step.proofs.Picked.{by_pick}
use Rattle.step.proofs.Numbers.{asked}
use Rattle.step.proofs.AloneTags.{clash, live_in, names_live}

-- ---- what the rules say

module _ (s : State) (t : ℕ) (r : Row) where
  -- what the table's reply says of a fate
  abbrev Heard : Fate → Asked
  Heard f = asked_by (settled s t r f).1

  -- the end of a piece after which none is issued
  last_on : (o : Opening) (g : Plan) (forced : Bool) (first : Option FirstCause) (k : Kind) (sp : Split) (bytes : List ℕ) (x : Answer) (back : Bool) (flushes : ℕ)
      → Heard (last_piece o g forced first r k sp bytes x back flushes) ≡ Ok tt
  unfolding last_piece written_as settled asks_for asked_by
  last_on o g forced first (Read a b) sp bytes x back flushes = refl
  last_on o g forced first (Page a b) sp bytes x back flushes =
      by_pick (is_written sp x back) (λ (f : Fate). Heard f ≡ Ok tt)
      (λ w. by_pick r.durable (λ (f : Fate). Heard f ≡ Ok tt) (λ d. by_pick (o.flush || forced) (λ (f : Fate). Heard f ≡ Ok tt) (λ z. refl) (λ z. refl)) (λ d. refl)) (λ w. refl)

  -- an answer, by what the row awaits
  answer_heard : (o : Opening) (g : Plan) (forced : Bool) (first : Option FirstCause) (bytes : List ℕ) (x : Answer) (back : Bool) (flushes : ℕ) (a : Awaits) → r.awaits ≡ a
      → Heard (answer_rules o g forced first r bytes x back flushes a) ≡ first_no (ask (awaits_piece a) NotAwaited ∷ ask (at_most_piece g a x) AbovePiece ∷ [])
  unfolding answer_rules piece_answered settled asks_for rejection asked_by first_no ask awaits_piece at_most_piece pick
  answer_heard o g forced first bytes x back flushes Nothing e = refl
  answer_heard o g forced first bytes x back flushes (Flush t) e = refl
  answer_heard o g forced first bytes x back flushes (Piece k sp) e = by_above (above_piece (piece_length g k sp) x)
    where
      on : Fate
      on = pick (first_refused sp x) (rejected (error_of x) (buffer_as back r.buffer sp.total) bytes)
          (pick (goes_on (piece_length g k sp) sp x back) (awaits (Piece k (split_after (piece_length g k sp) sp)) (turned sp.total (piece_length g k sp) bytes)) (last_piece o g forced first r k sp bytes x back flushes))

      goes_on_lem : Heard on ≡ Ok tt
      goes_on_lem =
          by_pick (first_refused sp x) (λ (f : Fate). Heard f ≡ Ok tt) (λ refused. ap (λ (a : Awaits). asked_by (rejection (plan_of (region_at s r.handle)) a (error_of x) (buffer_as back r.buffer sp.total))) e)
          (λ taken. by_pick (goes_on (piece_length g k sp) sp x back) (λ (f : Fate). Heard f ≡ Ok tt) (λ whole. refl) (λ over. last_on o g forced first k sp bytes x back flushes))

      by_above : (b : Bool) → Heard (pick b (away AbovePiece) on) ≡ first_no (ask (not b) AbovePiece ∷ [])
      by_above true = refl
      by_above false = goes_on_lem

  flush_heard : (o : Opening) (bytes : List ℕ) (result : Flushed) (a : Awaits) → Heard (flush_rules o r bytes result a) ≡ first_no (ask (awaits_flush a) NotAwaited ∷ [])
  unfolding flush_rules flush_ends settled asked_by first_no ask awaits_flush
  flush_heard o bytes result Nothing = refl
  flush_heard o bytes result (Piece k sp) = refl
  flush_heard o bytes result (Flush t) = refl

-- ---- the calls

module _ (s : State) (l : Lengths) (t : ℕ) (same : eq_lengths l s.lengths ≡ true) where
  abbrev row : Row
  row = row_at s (row_of t)

  -- the first question, then the others where the tag names a live row
  named : (i : Input) (more : List Asked) → asked_by (settled s t row (fate_of s row i)).1 ≡ first_no more → asked_by (under_tag s t i).1 ≡ first_no (ask (names row t) UnknownTag ∷ more)
  unfolding under_tag pick first_no ask asked_by
  named i more e = by_name (names row t)
    where
      by_name : (b : Bool) → asked_by (pick b (settled s t row (fate_of s row i)) (s, turnedAway UnknownTag)).1 ≡ first_no (ask b UnknownTag ∷ more)
      by_name true = e
      by_name false = refl

  answer_asked_lem : (x : Answer) (back : Bool) (flushes : ℕ) → asked_by (step s l (answer t x back flushes)).1 ≡ first_no (answer_questions s t x)
  unfolding step called pick fate_of rules answer_questions
  answer_asked_lem x back flushes =
      ap (λ (b : Bool). asked_by (pick b (under_tag s t (answered x back flushes)) (s, turnedAway Unfit)).1) same
      ∙ named (answered x back flushes) _
      (answer_heard s t row s.settings (plan_of (region_at s row.handle)) (region_at s row.handle).forced s.poison (bytes_at s row.buffer) x back flushes row.awaits refl)

  flush_asked : (result : Flushed) → asked_by (step s l (flushResult t result)).1 ≡ first_no (flush_questions s t)
  unfolding step called pick fate_of rules flush_questions
  flush_asked result =
      ap (λ (b : Bool). asked_by (pick b (under_tag s t (flushed result)) (s, turnedAway Unfit)).1) same
      ∙ named (flushed result) _ (flush_heard s t row s.settings (bytes_at s row.buffer) result row.awaits)

-- ---- what the reply asks for

abbrev AsksIt : ℕ → State × Reply → Type 0
AsksIt t z = asked_by z.1 ≡ Ok tt → names (row_at z.0 (row_of t)) t ≡ true
    → z.1 ≡ asks_for (plan_of (region_at z.0 (row_at z.0 (row_of t)).handle)) t (row_at z.0 (row_of t)).buffer (row_at z.0 (row_of t)).awaits

module _ (s : State) (t : ℕ) (r : Row) (named : names r t ≡ true) (here : row_at s (row_of t) ≡ r) where
  in_rows : row_of t < length s.rows
  in_rows = live_in s (row_of t) (ap (λ (x : Row). is_live x.awaits) here ∙ names_live r t named)

  -- the row as a fate leaves it
  pub row_then : (s' : State) (new : Row) → s'.rows ≡ set s.rows (row_of t) new → row_at s' (row_of t) ≡ new
  unfolding row_at
  row_then s' new e = ap (λ (l : List Row). get_or l (row_of t) (freed 0)) e ∙ get_or-set_same s.rows (row_of t) new (freed 0) in_rows

  pub gone : (s' : State) (g : ℕ) → s'.rows ≡ set s.rows (row_of t) (freed g) → names (row_at s' (row_of t)) t ≡ true → ⊥
  gone s' g e live = not_both (ap (λ (x : Row). names x t) (sym (row_then s' (freed g) e)) ∙ live) (unfold names freed is_live in refl)

  settled_asks : (f : Fate) → AsksIt t (settled s t r f)
  unfolding settled going freeing asked_by awaits_now region_at
  settled_asks (away f) e live = clash (cc)
  settled_asks (awaits a bytes) e live =
      let z = row_then (going s (row_of t) r a bytes) (awaits_now r a) refl in
      λ j. asks_for (plan_of (region_at s (sym z j).handle)) t (sym z j).buffer (sym z j).awaits
  settled_asks (ends ending) e live = absurd (gone _ _ refl live)
  settled_asks (rejected x b bytes) e live = absurd (gone _ _ refl live)

answer_asks : (s : State) (l : Lengths) (t : ℕ) (a : Answer) (back : Bool) (flushes : ℕ) → AsksIt t (step s l (answer t a back flushes))
unfolding step called under_tag asked_by
answer_asks s l t a back flushes =
    let row = row_at s (row_of t) in
    by_pick (eq_lengths l s.lengths) (AsksIt t)
    (λ same. by_pick (names row t) (AsksIt t) (λ named. settled_asks s t row named refl (fate_of s row (answered a back flushes))) (λ unnamed e live. clash (cc))) (λ other e live. clash (cc))

flush_done_lem : (s : State) (l : Lengths) (t : ℕ) (result : Flushed) → asked_by (step s l (flushResult t result)).1 ≡ Ok tt → (step s l (flushResult t result)).1 ≡ Done t
unfolding step called under_tag fate_of rules flush_rules flush_ends settled asked_by
flush_done_lem s l t result = by_pick (eq_lengths l s.lengths) Finishes (λ same. by_pick (names row t) Finishes (λ named. by_awaits row.awaits) (λ unnamed e. clash (cc))) (λ other e. clash (cc))
  where
    row : Row
    row = row_at s (row_of t)

    Finishes : State × Reply → Type 0
    Finishes z = asked_by z.1 ≡ Ok tt → z.1 ≡ Done t

    by_awaits : (a : Awaits) → Finishes (settled s t row (flush_rules s.settings row (bytes_at s row.buffer) result a))
    by_awaits Nothing e = clash (cc)
    by_awaits (Piece k sp) e = clash (cc)
    by_awaits (Flush ticket) e = refl

-- ---- the other calls

module _ (s : State) (l : Lengths) (same : eq_lengths l s.lengths ≡ true) where
  -- a call with the opening's lengths
  pub called_is : (c : Call) → step s l c ≡ called s c
  unfolding step pick
  called_is c = ap (λ (b : Bool). pick b (called s c) (s, turnedAway Unfit)) same

  verdict_asked : (q : Request) (k : Kind) (a : Asked) → asked_by (submitted s q (verdict_of a s k q)).1 ≡ a
  unfolding submitted verdict_of asked_by
  verdict_asked q k (Err f) = refl
  verdict_asked q k (Ok _) = refl

  marked_asked : (h : ℕ) (g : Region) → asked_by (marked s h g).1 ≡ ask (ltb h s.settings.regions) (ForeignPosition bare)
  unfolding marked pick ask asked_by
  marked_asked h g = by_known (ltb h s.settings.regions) _ refl
    where
      by_known : (b : Bool) (z : State × Reply) → asked_by z.1 ≡ Ok tt → asked_by (pick b z (s, turnedAway (ForeignPosition bare))).1 ≡ ask b (ForeignPosition bare)
      by_known true z said = said
      by_known false z said = refl

  taken_asked : (cs : List Completion) → asked_by (taken s cs).1 ≡ Ok tt
  unfolding taken asked_by
  taken_asked [] = refl
  taken_asked (c ∷ more) = refl

  write_asked : (q : Request) → asked_by (step s l (Write q)).1 ≡ first_no (write_questions s (region_at s q.handle) q)
  unfolding called write_verdict
  write_asked q = ap (λ (z : State × Reply). asked_by z.1) (called_is (Write q)) ∙ verdict_asked q _ _

  read_asked : (q : Request) → asked_by (step s l (ReadPage q)).1 ≡ first_no (read_questions s (region_at s q.handle) q)
  unfolding called read_verdict
  read_asked q = ap (λ (z : State × Reply). asked_by z.1) (called_is (ReadPage q)) ∙ verdict_asked q _ _

  write_accepted : (q : Request) → first_no (write_questions s (region_at s q.handle) q) ≡ Ok tt
      → step s l (Write q) ≡ (accepted s (top_of s.free) (Page (start_of q) (end_of q)) q, first_reply s (Page (start_of q) (end_of q)) q)
  unfolding called write_verdict submitted verdict_of first_reply asks_for plan_of piece_length first_of
  write_accepted q e = called_is (Write q) ∙ ap (λ (a : Asked). submitted s q (verdict_of a s (Page (start_of q) (end_of q)) q)) e

  read_accepted : (q : Request) → first_no (read_questions s (region_at s q.handle) q) ≡ Ok tt
      → step s l (ReadPage q) ≡ (accepted s (top_of s.free) (Read (start_of q) (end_of q)) q, first_reply s (Read (start_of q) (end_of q)) q)
  unfolding called read_verdict submitted verdict_of first_reply asks_for plan_of piece_length first_of
  read_accepted q e = called_is (ReadPage q) ∙ ap (λ (a : Asked). submitted s q (verdict_of a s (Read (start_of q) (end_of q)) q)) e

  set_called : (c : Call) (h : ℕ) → sets_mark c ≡ some h → asked_by (called s c).1 ≡ ask (ltb h s.settings.regions) (ForeignPosition bare)
  unfolding called sets_mark
  set_called (Write q) h e = clash (cc)
  set_called (ReadPage q) h e = clash (cc)
  set_called (answer t a back flushes) h e = clash (cc)
  set_called (flushResult t result) h e = clash (cc)
  set_called Take h e = clash (cc)
  set_called (SetGate k x) h e = marked_asked k _ ∙ (let z : k ≡ h = cc in ap (λ (n : ℕ). ask (ltb n s.settings.regions) (ForeignPosition bare)) z)
  set_called (SetReadOnly k x) h e = marked_asked k _ ∙ (let z : k ≡ h = cc in ap (λ (n : ℕ). ask (ltb n s.settings.regions) (ForeignPosition bare)) z)
  set_called (SetForced k x) h e = marked_asked k _ ∙ (let z : k ≡ h = cc in ap (λ (n : ℕ). ask (ltb n s.settings.regions) (ForeignPosition bare)) z)
  set_called (ReportPoison cause) h e = clash (cc)

  set_asked : (c : Call) (h : ℕ) → sets_mark c ≡ some h → asked_by (step s l c).1 ≡ ask (ltb h s.settings.regions) (ForeignPosition bare)
  set_asked c h e = ap (λ (z : State × Reply). asked_by z.1) (called_is c) ∙ set_called c h e

  take_asked : asked_by (step s l Take).1 ≡ Ok tt
  unfolding called
  take_asked = ap (λ (z : State × Reply). asked_by z.1) (called_is Take) ∙ taken_asked s.ready

  report_asked : (cause : FirstCause) → asked_by (step s l (ReportPoison cause)).1 ≡ Ok tt
  unfolding called asked_by
  report_asked cause = ap (λ (z : State × Reply). asked_by z.1) (called_is (ReportPoison cause))

-- ---- the numbers

answer_numbers : (s : State) (t : ℕ) (a : Answer) → SaysEach ((14 ∷ []) ∷ (15 ∷ []) ∷ (16 ∷ []) ∷ []) (answer_questions s t a)
unfolding answer_questions SaysEach among number
answer_numbers s t a = (asked (14 ∷ []) _ _ refl, (asked (15 ∷ []) _ _ refl, (asked (16 ∷ []) _ _ refl, tt)))

flush_numbers : (s : State) (t : ℕ) → SaysEach ((14 ∷ []) ∷ (15 ∷ []) ∷ []) (flush_questions s t)
unfolding flush_questions SaysEach among number
flush_numbers s t = (asked (14 ∷ []) _ _ refl, (asked (15 ∷ []) _ _ refl, tt))

pub asked_laws : AskedLaws
asked_laws = record {
  write_asked = λ s l q same. write_asked s l same q;
  read_asked = λ s l q same. read_asked s l same q;
  write_accepted = λ s l q same e. write_accepted s l same q e;
  read_accepted = λ s l q same e. read_accepted s l same q e;
  set_asked = λ s l c h e same. set_asked s l same c h e;
  take_asked = take_asked;
  report_asked = λ s l cause same. report_asked s l same cause;
  answer_asked_lem = λ s l t a back flushes same. answer_asked_lem s l t same a back flushes;
  flush_asked = λ s l t result same. flush_asked s l t same result;
  answer_asks = answer_asks;
  flush_done_lem = flush_done_lem;
  answer_numbers = answer_numbers;
  flush_numbers = flush_numbers;
}
