-- The Rust's run over a history: by induction over the events, each by its square of AsStep. Before a refusal of a first piece the Rust is an event ahead, since it
-- learned of it with the submission.
use mathlib.Core.Path.{◌≡◌, refl, sym, ap, ◌∙◌, subst}
use mathlib.Core.Bool.{Bool, true, false, ◌&&◌}
use mathlib.Core.List.{List, [], ◌∷◌, ◌++◌, map, map-append}
use mathlib.Core.Option
use mathlib.Core.Option.{Option, none, some}
use Prim.Native.Nat.{ℕ}
use lib.Dec.{ltb}
use lib.ListN.{set}
use Rattle.layout.specs.Pick.{pick}
use Rattle.layout.proofs.Tests.{not_both}
use Rattle.domain.specs.declared.FirstCause.{FirstCause}
use Rattle.domain.specs.Domain.{first_kept}
use Rattle.platform.specs.declared.Answer.{Answer}
use Rattle.completion.specs.declared.Context.TheVariants.{None as bare}
use Rattle.completion.specs.declared.Refusal.TheVariants.{ForeignPosition}
use Rattle.completion.specs.declared.Completion.{Completion}
use Rattle.completion.specs.declared.Reply.{Reply}
use Rattle.completion.specs.declared.Reply.TheVariants.{No as turnedAway, Ok as isOk}
use Rattle.model.specs.declared.Lengths.{Lengths}
use Rattle.model.specs.declared.Lookup.{Lookup}
use Rattle.model.specs.declared.Lookup.TheVariants.{WritesLive, Mark as MarkNow}
use Rattle.model.specs.declared.Request.{Request}
use Rattle.model.specs.declared.Call.{Call}
use Rattle.model.specs.declared.Call.TheVariants.{Write, ReadPage, Answer as Answers, Flushed as FlushedCall, Take, SetGate, SetReadOnly, SetForced, ReportPoison}
use Rattle.model.specs.State.{Region, State}
use Rattle.model.specs.Opening.{opened}
use Rattle.step.specs.Questions.{region_at}
use Rattle.step.specs.Step.{row_at, row_of, taken, with_regions, with_poison, marked, with_gate, with_read_only, with_forced, called, look, looked_up, step}
use Rattle.step.specs.Sound.{Sound}
use Rattle.step.specs.Run.{Made, Made.calls, Made.looks, Event, leave, done, next, reply_to, run, plans_of, opened_by}
use Rattle.step.specs.Alone.{tag_given}
use Rattle.step.specs.Lists.{HostMay}
use Rattle.step.proofs.Picked.{by_pick}
use Rattle.step.proofs.AloneTags.{clash}
use Rattle.step.proofs.Histories.{leaves}
use Rattle.step.proofs.Laws.{keeps, step_laws}
use Rattle.rusttable.specs.Table.{Result, Result.Ok, Result.Err, IoBuf, RawError, RawResult, Finish, Submitter, Issued}
use Rattle.rusttable.specs.Table.{Completion as RustCompletion}
use Rattle.rusttable.specs.Functions.{is_some, returned, with_table, with_store, write as rustWrite, read_page, finish as rustFinish, refused_next, poison as rustPoison}
use Rattle.rusttable.specs.Domain.{compared, known_handle, InDomain}
use Rattle.rusttable.specs.AsStep.{buf_of, store_of, submitter_of, in_flight, flushed_of, pos_of, is_later, finish_as, issued_as, Finishes, Submits, is_setting}
use Rattle.rusttable.specs.Histories.{Handed, Handed.ToWrite, Handed.ToReadPage, Handed.ToFinish, Handed.ToRefusedNext, Handed.ToFlushed, Handed.ToNext, Handed.ToGate, Handed.ToReadOnly, Handed.ToForced, Handed.ToPoison, HandedBack, HandedBack.submits, HandedBack.finishes, HandedBack.takes}
use Rattle.rusttable.specs.Histories.{with_issued, with_mark, rust_step, rust_run, rust_opened, as_rust, is_submission, refusal, refused_by, verdict, answer_to, handed_by, handed, comes_to, answer_says, said_by, said, MadeIn, HistoryIn, Agrees, AsHistory}
use Rattle.rusttable.proofs.Within.{called_step}
use Rattle.rusttable.proofs.AsStep.{as_step}
use Rattle.rusttable.proofs.LaterPieces.{later_piece}
use Rattle.rusttable.proofs.Refusing.{answer_is, refusal_is, tag_issued, submitted}

-- ---- where the Rust is

-- an event refuses a first piece: the event before submitted it
unfoldable refuses_first : Bool → State → Made → Bool
refuses_first after s m = is_some (refused_by s m) && after

ahead : Bool → State → List Event → State
ahead after s [] = s
ahead after s (e ∷ es) = pick (refuses_first after (leave s e.leaves) e.made) (next s e) s

-- only behind a submission
not_ahead : (s : State) (es : List Event) → ahead false s es ≡ s
unfolding ahead refuses_first pick
not_ahead s [] = refl
not_ahead s (e ∷ es) = by_test (is_some (refused_by (leave s e.leaves) e.made))
  where
    by_test : (b : Bool) → pick (b && false) (next s e) s ≡ s
    by_test true = refl
    by_test false = refl

ahead_comes : (z : State × Reply) (es : List Event) → ahead true z.0 es ≡ (comes_to z es).0
unfolding ahead refuses_first comes_to pick
ahead_comes z [] = refl
ahead_comes z (e ∷ es) = by_test (is_some (refused_by (leave z.0 e.leaves) e.made))
  where
    by_test : (b : Bool) → pick (b && true) (next z.0 e) z.0 ≡ (pick b (next z.0 e, reply_to z.0 e) z).0
    by_test true = refl
    by_test false = refl

abbrev Goal : Bool → State → List Event → ℕ → Type 0
Goal after s es issued = Agrees (rust_run (submitter_of (ahead after s es) issued) (handed after s es)) (run s es) (said after s es)

-- behind an event that is no submission, the piece that was issued is a later one
abbrev Later : Bool → Option ℕ → State → Type 0
Later after before s = (t : ℕ) → after ≡ false → before ≡ some t → is_later (row_at s (row_of t)).awaits ≡ true

one_more_lem : (r r' : Submitter) (h : Handed) (hs : List Handed) (s : State) (now later : List (Option HandedBack)) → (rust_step r h).0 ≡ r' → map some (rust_step r h).1 ≡ now → Agrees (rust_run r' hs) s later → Agrees (rust_run r (h ∷ hs)) s (now ++ later)
unfolding rust_run
one_more_lem r r' h hs s now later q says behind =
    let z = subst (λ (x : Submitter). Agrees (rust_run x hs) s later) (sym q) behind in
    record { state = z.state; replies = map-append some (rust_step r h).1 (rust_run (rust_step r h).0 hs).1 ∙ (λ j. says j ++ z.replies j) }

-- ---- settings and reports

module _ (s : State) (l : Lengths) (issued : ℕ) where
  set_marked : (h : ℕ) (g : Region) → ltb h s.settings.regions ≡ true → marked s h g ≡ (with_regions s (set s.regions h g), isOk)
  unfolding marked pick
  set_marked h g known = ap (λ (b : Bool). pick b (with_regions s (set s.regions h g), isOk) (s, turnedAway (ForeignPosition bare))) known

  -- the Rust's own region gets the mark that step's gets
  store_marked : (h : ℕ) (mark : Region → Region) → (with_mark (submitter_of s issued) h mark).store ≡ store_of (with_regions s (set s.regions h (mark (region_at s h)))) issued
  unfolding with_mark with_store submitter_of store_of with_regions region_at
  store_marked h mark = refl

  region_set : (c : Call) (h : ℕ) (mark : Region → Region) → is_setting c ≡ true → step s l c ≡ (with_regions s (set s.regions h (mark (region_at s h))), isOk) → with_mark (submitter_of s issued) h mark ≡ submitter_of (step s l c).0 issued
  unfolding with_mark with_store submitter_of
  region_set c h mark sets q = λ j. record { store = (store_marked h mark ∙ ap (λ (y : State × Reply). store_of y.0 issued) (sym q)) j; table = sym (as_step.settings s l c sets) j }

  poison_set : (c : Call) (cause : FirstCause) → is_setting c ≡ true → step s l c ≡ (with_poison s (first_kept s.poison cause), isOk) → (rust_step (submitter_of s issued) (ToPoison cause)).0 ≡ submitter_of (step s l c).0 issued
  unfolding rust_step rustPoison with_store submitter_of store_of with_poison
  poison_set c cause sets q = λ j. record { store = store_of (sym q j).0 issued; table = sym (as_step.settings s l c sets) j }

taken_none : (s : State) (cs : List Completion) → tag_given (taken s cs).1 ≡ none
unfolding taken tag_given
taken_none s [] = refl
taken_none s (c ∷ cs) = refl

looked_none : (s : State) (l : Lengths) (x : Lookup) → tag_given (look s l x) ≡ none
unfolding look looked_up tag_given
looked_none s l x = by_pick _ (λ (y : Reply). tag_given y ≡ none) (λ same. by_lookup x) (λ other. refl)
  where
    by_lookup : (y : Lookup) → tag_given (looked_up s y) ≡ none
    by_lookup WritesLive = refl
    by_lookup MarkNow = refl

-- ---- an event

module _ (after : Bool) (before : Option ℕ) (s : State) (i : Sound s) (later : Later after before s) (issued : ℕ) (pool : List ℕ) (host : HostMay s pool) (l : Lengths) (es : List Event)
    (behind : (after' : Bool) (before' : Option ℕ) (s' : State) (issued' : ℕ) → Sound s' → Later after' before' s' → HistoryIn before' s' es → Goal after' s' es issued') where
  abbrev left : State
  left = leave s pool

  sound_left : Sound left
  sound_left = leaves s pool i host.count

  same : (n : ℕ) → submitter_of s n ≡ submitter_of left n
  unfolding submitter_of store_of leave
  same n = λ j. record { store = store_of s n; table = sym (as_step.leaves s pool i host) j }

  -- behind an event that is no submission
  onward : (c : Call) (n : ℕ) → ((t : ℕ) → tag_given (step left l c).1 ≡ some t → is_later (row_at (step left l c).0 (row_of t)).awaits ≡ true) → HistoryIn (tag_given (step left l c).1) (step left l c).0 es
      → Agrees (rust_run (submitter_of (step left l c).0 n) (handed false (step left l c).0 es)) (run (step left l c).0 es) (said false (step left l c).0 es)
  onward c n next-later h =
      let to = (step left l c).0 in
      subst (λ (y : State). Agrees (rust_run (submitter_of y n) (handed false to es)) (run to es) (said false to es)) (not_ahead to es)
      (behind false (tag_given (step left l c).1) to n (keeps left l c sound_left) (λ t no. next-later t) h)

  none_later : (c : Call) → tag_given (step left l c).1 ≡ none → (t : ℕ) → tag_given (step left l c).1 ≡ some t → is_later (row_at (step left l c).0 (row_of t)).awaits ≡ true
  none_later c q t e = clash (cc)

  -- the host's writes change nothing of the Rust's
  from_left : (hs : List Handed) (to : State) (says : List (Option HandedBack)) → Agrees (rust_run (submitter_of left issued) hs) to says → Agrees (rust_run (submitter_of s issued) hs) to says
  from_left hs to says = subst (λ (r : Submitter). Agrees (rust_run r hs) to says) (sym (same issued))

  abbrev Stepped : Made → Type 0
  Stepped m = Agrees (rust_run (submitter_of (pick (refuses_first after left m) (done left l m).0 s) issued) (handed_by after left m (verdict (done left l m).0 es) ++ handed (is_submission m) (done left l m).0 es))
      (run (done left l m).0 es) (said_by after left m (done left l m) es ++ said (is_submission m) (done left l m).0 es)

  -- ---- a submission

  submission : (c : Call) (w : Bool) (buf : IoBuf) (rust : Submitter × Issued) (hand : Handed) → rust_step (submitter_of left issued) hand ≡ (rust.0, submits rust.1 ∷ []) → Submits issued w buf rust (comes_to (step left l c) es)
      → HistoryIn (tag_given (step left l c).1) (step left l c).0 es
      → Agrees (rust_run (submitter_of s issued) (hand ∷ handed true (step left l c).0 es)) (run (step left l c).0 es)
      ((Option.map submits (issued_as w (comes_to (step left l c) es).0 buf (comes_to (step left l c) es).1) ∷ []) ++ said true (step left l c).0 es)
  submission c w buf rust hand is z h =
      let to = (step left l c).0 in
      from_left _ _ _
      (one_more_lem (submitter_of left issued) (submitter_of (ahead true to es) issued) hand (handed true to es) (run to es) _ (said true to es)
      (ap (λ (y : Submitter × List HandedBack). y.0) is ∙ z.state ∙ ap (λ (y : State). submitter_of y issued) (sym (ahead_comes (step left l c) es)))
      (ap (λ (y : Submitter × List HandedBack). map some y.1) is ∙ ap (λ (o : Option Issued). Option.map submits o ∷ []) z.reply)
      (behind true (tag_given (step left l c).1) to issued (keeps left l c sound_left) (λ t no e. absurd (not_both refl no)) h))

  on_write : (q : Request) → InDomain before left l (Write q) → HistoryIn (tag_given (step left l (Write q)).1) (step left l (Write q)).0 es → Stepped (calls (Write q))
  unfolding done refuses_first refused_by is_some pick handed_by said_by is_submission rust_step
  on_write q d h =
      let buf = buf_of left q.buffer q.length in
      submission (Write q) true buf (rustWrite (submitter_of left issued) q.handle (pos_of q) buf q.durable q.tag (verdict (step left l (Write q)).0 es)) (ToWrite q.handle (pos_of q) buf q.durable q.tag (verdict (step left l (Write q)).0 es)) refl
      (submitted left l (Write q) d.numbers true buf issued (rustWrite (submitter_of left issued) q.handle (pos_of q) buf q.durable q.tag) (as_step.write before left l q issued sound_left d)
      (as_step.write_refused before left l q issued sound_left d) es h) h

  on_read : (q : Request) → InDomain before left l (ReadPage q) → HistoryIn (tag_given (step left l (ReadPage q)).1) (step left l (ReadPage q)).0 es → Stepped (calls (ReadPage q))
  unfolding done refuses_first refused_by is_some pick handed_by said_by is_submission rust_step
  on_read q d h =
      let buf = buf_of left q.buffer q.length in
      submission (ReadPage q) false buf (read_page (submitter_of left issued) q.handle (pos_of q) buf q.tag (verdict (step left l (ReadPage q)).0 es)) (ToReadPage q.handle (pos_of q) buf q.tag (verdict (step left l (ReadPage q)).0 es)) refl
      (submitted left l (ReadPage q) d.numbers false buf issued (read_page (submitter_of left issued) q.handle (pos_of q) buf q.tag) (as_step.read before left l q issued sound_left d)
      (as_step.read_refused before left l q issued sound_left d) es h) h

  -- ---- an answer

  module _ (t : ℕ) (a : Answer) (back : Bool) (flushes : ℕ) (d : InDomain before left l (Answers t a back flushes))
      (h : HistoryIn (tag_given (step left l (Answers t a back flushes)).1) (step left l (Answers t a back flushes)).0 es) where
    abbrev z : State × Reply
    z = step left l (Answers t a back flushes)

    abbrev buf : Option IoBuf
    buf = returned back (in_flight left t)

    answer_on : (n : ℕ) → Agrees (rust_run (submitter_of z.0 n) (handed false z.0 es)) (run z.0 es) (said false z.0 es)
    answer_on n = onward (Answers t a back flushes) n (later_piece left l t a back flushes sound_left d.numbers) h

    finished : (hand : Handed) (rust : Submitter × Finish) → rust_step (submitter_of left issued) hand ≡ (rust.0, finishes rust.1 ∷ []) → Finishes flushes rust z
        → Agrees (rust_run (submitter_of s issued) (hand ∷ handed false z.0 es)) (run z.0 es) ((Option.map finishes (finish_as z.0 z.1) ∷ []) ++ said false z.0 es)
    finished hand rust is f =
        from_left _ _ _
        (one_more_lem (submitter_of left issued) (submitter_of z.0 flushes) hand (handed false z.0 es) (run z.0 es) _ (said false z.0 es) (ap (λ (y : Submitter × List HandedBack). y.0) is ∙ f.state)
        (ap (λ (y : Submitter × List HandedBack). map some y.1) is ∙ ap (λ (o : Option Finish). Option.map finishes o ∷ []) f.reply) (answer_on flushes))

    abbrev Answered : Bool → Result RawResult (Option RawError) → Type 0
    Answered b r = Agrees (rust_run (submitter_of (pick (is_some (refusal left t back r) && b) z.0 s) issued) (answer_to b left t back flushes r ++ handed false z.0 es)) (run z.0 es) (answer_says b z r ++ said false z.0 es)

    by_answer : (b : Bool) → after ≡ b → (r : Result RawResult (Option RawError)) → as_rust a ≡ r → Answered b r
    unfolding refusal is_some pick answer_to answer_says rust_step with_issued with_store submitter_of store_of row_at leave
    by_answer b qb (Ok result) q =
        let is = answer_is a result q in
        finished (ToFinish t buf result flushes) (rustFinish (submitter_of left flushes) t buf result) refl
        (subst (λ (x : Answer). Finishes flushes (rustFinish (submitter_of left flushes) t buf result) (step left l (Answers t x back flushes))) (sym is)
        (as_step.finish before left l t result back flushes sound_left (subst (λ (x : Answer). InDomain before left l (Answers t x back flushes)) is d)))
    by_answer true qb (Err raw) q = answer_on issued
    by_answer false qb (Err raw) q =
        let is = refusal_is a raw q in
        let in_it = subst (λ (x : Answer). InDomain before left l (Answers t x back flushes)) is d in
        finished (ToRefusedNext t buf raw flushes) (refused_next (submitter_of left flushes) t buf raw) refl
        (subst (λ (x : Answer). Finishes flushes (refused_next (submitter_of left flushes) t buf raw) (step left l (Answers t x back flushes))) (sym is)
        (as_step.refused_next_lem before left l t raw back flushes sound_left in_it (later t qb (tag_issued before t raw back flushes in_it.refusal))))

    on_answer : Stepped (calls (Answers t a back flushes))
    unfolding done refuses_first refused_by handed_by said_by is_submission
    on_answer = by_answer after refl (as_rust a) refl

  -- ---- the other calls

  -- a call whose reply issues no piece
  other : (c : Call) (hand : Handed) (now : List (Option HandedBack)) → (rust_step (submitter_of left issued) hand).0 ≡ submitter_of (step left l c).0 issued → map some (rust_step (submitter_of left issued) hand).1 ≡ now
      → tag_given (step left l c).1 ≡ none → HistoryIn (tag_given (step left l c).1) (step left l c).0 es
      → Agrees (rust_run (submitter_of s issued) (hand ∷ handed false (step left l c).0 es)) (run (step left l c).0 es) (now ++ said false (step left l c).0 es)
  other c hand now q says none_issued h =
      from_left _ _ _ (one_more_lem (submitter_of left issued) (submitter_of (step left l c).0 issued) hand _ _ now _ q says (onward c issued (none_later c none_issued) h))

  setting : (c : Call) (j : ℕ) (mark : Region → Region) (hand : Handed) → is_setting c ≡ true → compared (step left l c).1 ≡ true → called left c ≡ marked left j (mark (region_at left j)) → ltb j left.settings.regions ≡ true
      → rust_step (submitter_of left issued) hand ≡ (with_mark (submitter_of left issued) j mark, []) → HistoryIn (tag_given (step left l c).1) (step left l c).0 es
      → Agrees (rust_run (submitter_of s issued) (hand ∷ handed false (step left l c).0 es)) (run (step left l c).0 es) (said false (step left l c).0 es)
  unfolding tag_given
  setting c j mark hand sets numbers is known does h =
      let q = called_step left l c numbers ∙ is ∙ set_marked left l issued j (mark (region_at left j)) known in
      other c hand [] (ap (λ (y : Submitter × List HandedBack). y.0) does ∙ region_set left l issued c j mark sets q) (ap (λ (y : Submitter × List HandedBack). map some y.1) does) (ap (λ (y : State × Reply). tag_given y.1) q) h

  event : (m : Made) → MadeIn before left l m → HistoryIn (tag_given (done left l m).1) (done left l m).0 es → Stepped m
  unfolding done refuses_first refused_by is_some pick handed_by said_by is_submission MadeIn rust_step submitter_of with_table called known_handle is_setting tag_given
  event (calls (Write q)) d h = on_write q d h
  event (calls (ReadPage q)) d h = on_read q d h
  event (calls (Answers t a back flushes)) d h = on_answer t a back flushes d h
  event (calls (FlushedCall t result)) d h =
      let z = as_step.flushed before left l t result issued sound_left d in other (FlushedCall t result) (ToFlushed t (flushed_of result)) [] z.0 refl (ap tag_given z.1) h
  event (calls Take) d h =
      let z = as_step.take before left l issued d in
      other Take ToNext _ (λ j. record { store = sym z.store j; table = z.table j }) (ap (λ (o : Option (Option RustCompletion)). Option.map takes o ∷ []) z.front)
      (ap (λ (y : State × Reply). tag_given y.1) (called_step left l Take d.numbers) ∙ taken_none left left.ready) h
  event (calls (SetGate j x)) d h = setting (SetGate j x) j (λ g. with_gate g x) (ToGate j x) refl d.numbers refl d.handle refl h
  event (calls (SetReadOnly j x)) d h = setting (SetReadOnly j x) j (λ g. with_read_only g x) (ToReadOnly j x) refl d.numbers refl d.handle refl h
  event (calls (SetForced j x)) d h = setting (SetForced j x) j (λ g. with_forced g x) (ToForced j x) refl d.numbers refl d.handle refl h
  event (calls (ReportPoison cause)) d h =
      let q = called_step left l (ReportPoison cause) d.numbers in
      other (ReportPoison cause) (ToPoison cause) [] (poison_set left l issued (ReportPoison cause) cause refl q) refl (ap (λ (y : State × Reply). tag_given y.1) q) h
  event (looks x) d h =
      from_left _ _ _
      (subst (λ (y : State). Agrees (rust_run (submitter_of y issued) (handed false left es)) (run left es) (said false left es)) (not_ahead left es)
      (behind false (tag_given (look left l x)) left issued sound_left (λ t no e. clash (let z = looked_none left l x in cc)) h))

-- ---- the history

follows : (es : List Event) (after : Bool) (before : Option ℕ) (s : State) (issued : ℕ) → Sound s → Later after before s → HistoryIn before s es → Goal after s es issued
unfolding ahead HistoryIn handed said run rust_run next reply_to submitter_of store_of
follows [] after before s issued i later h = record { state = refl; replies = refl }
follows (e ∷ es) after before s issued i later h =
    event after before s i later issued e.leaves h.0 e.lengths es (λ after' before' s' issued'. follows es after' before' s' issued') e.made h.1 h.2

pub as_history : AsHistory
unfolding opened_by plans_of opened rust_opened submitter_of store_of
as_history x es h =
    let s = opened_by x in
    let sound = step_laws.opening x.opening x.plan x.lengths x.pool x.admitted x.whole in
    let first : rust_opened x.opening (plans_of x) ≡ submitter_of s 0 = λ j. record { store = store_of s 0; table = as_step.new x.opening (plans_of x) x.lengths x.pool j } in
    subst (λ (r : Submitter). Agrees (rust_run r (handed false s es)) (run s es) (said false s es)) (ap (λ (y : State). submitter_of y 0) (not_ahead s es) ∙ sym first)
    (follows es false none s 0 sound (λ t no e. clash (cc)) h)
