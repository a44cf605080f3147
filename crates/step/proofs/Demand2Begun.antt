-- An accepted submission: the operation stands at the start of its range, and its buffer is as at acceptance.
use mathlib.Core.Path.{◌≡◌, refl, sym, ap, ◌∙◌, subst}
use mathlib.Core.Bool.{Bool, true, false}
use mathlib.Core.Option.{some}
use mathlib.Core.List.{List, [], ◌∷◌, ◌++◌}
use Prim.Native.Nat.{ℕ, ◌+◌, ◌≤◌, ◌<◌, ◌^◌}
use native.Mathlib.Nat.{add_left_cancel}
use native.Mathlib.Omega.{arith}
use lib.ListN.{length, take, drop, get_or, take-append-drop}
use lib.Seq.{length-take-le, get_or-set_same}
use Rattle.layout.proofs.Tests.{not_both}
use Rattle.regionmap.specs.declared.Position.{Position}
use Rattle.regionmap.specs.Map.{Map, place}
use Rattle.iobuf.specs.Turn.{stretch}
use Rattle.posix.specs.Posix.{Card}
use Rattle.completion.specs.declared.Reply.{Reply}
use Rattle.completion.specs.declared.Reply.TheVariants.{Piece}
use Rattle.model.specs.declared.Opening.{Opening}
use Rattle.model.specs.declared.Kind.{Kind}
use Rattle.model.specs.declared.Kind.TheVariants.{Page, Read}
use Rattle.model.specs.declared.Lengths.{Lengths}
use Rattle.model.specs.declared.Row.{Row}
use Rattle.model.specs.declared.Request.{Request}
use Rattle.std.specs.declared.result.Result.TheVariants.{Ok, Err}
use Rattle.model.specs.declared.Call.TheVariants.{Write, ReadPage}
use Rattle.model.specs.State.{State, freed}
use Rattle.model.specs.Opening.{Plan}
use Rattle.step.specs.Questions.{region_at, Asked}
use Rattle.step.specs.Rules.{first_of, last_of, piece_of, piece_length}
use Rattle.step.specs.Step.{start_of, end_of, begun, durable_as, queue_tag, top_of, row_at, row_of, generation_of, is_live, bytes_at, plan_of, asks_for, claimed_by, accepted, submitted, verdict_of, write_verdict, read_verdict, called, eq_lengths, step}
use Rattle.step.specs.Sound.{Sound}
use Rattle.step.specs.Run.{Made.calls, Event, leave, done, next, run, Start, opened_by, after}
use Rattle.step.specs.Lists.{HostMay, Hosted}
use Rattle.step.specs.Asked.{first_reply}
use Rattle.step.specs.Alone.{tag_given}
use Rattle.step.specs.Demand3.{alones_after}
use Rattle.step.specs.Demand2.{buffer_then}
use Rattle.step.proofs.Picked.{by_pick}
use Rattle.step.proofs.Answers.{Passed, write_passed, read_passed}
use Rattle.step.proofs.Taken.{top_row}
use Rattle.step.proofs.Buffers.{bytes_length}
use Rattle.step.proofs.Histories.{leaves, keeps_next}
use Rattle.step.proofs.Laws.{keeps}
use Rattle.step.proofs.AloneTags.{clash, small_row, row_of_tag, generation_of_tag, names_by}
use Rattle.step.proofs.ProjectionFixed.{Fixed, fixed_next, next_plans}
use Rattle.step.proofs.ProjectionReached.{Reached}
use Rattle.step.proofs.Projection.{reached_after}
use Rattle.step.proofs.Demand2Fate.{pages}
use Rattle.step.proofs.Demand2Task.{Task, hosts_of, Stage.piece, InRow, Open}

-- ---- the call

-- a submission of a kind that got the queue tag t was accepted
pub record Begun (s : State) (q : Request) (k : Kind) (t : ℕ) (z : State × Reply) : Type 0 where
  pub passed : Passed s q
  pub state : z.0 ≡ accepted s (top_of s.free) k q
  pub reply : z.1 ≡ first_reply s k q
  pub tag : queue_tag (top_of s.free) (row_at s (top_of s.free)).generation ≡ t

module _ (s : State) (q : Request) (t : ℕ) where
  begun_by_lem : (k : Kind) → first_of k ≡ q.offset → (a : Asked) → (a ≡ Ok tt → Passed s q) → tag_given (submitted s q (verdict_of a s k q)).1 ≡ some t → Begun s q k t (submitted s q (verdict_of a s k q))
  unfolding submitted verdict_of tag_given first_reply asks_for plan_of piece_length
  begun_by_lem k first (Err f) passes e = clash (cc)
  begun_by_lem k first (Ok _) passes e = record { passed = passes refl; state = refl; reply = ap (λ (p : Position). let f = piece_of (region_at s q.handle).map p.0 (begun q.length) in Piece (queue_tag (top_of s.free) (row_at s (top_of s.free)).generation) f.offset f.count q.buffer) (sym first); tag = cc }

  pub begun_write : (l : Lengths) → tag_given (done s l (calls (Write q))).1 ≡ some t → Begun s q (Page (start_of q) (end_of q)) t (done s l (calls (Write q)))
  unfolding done step called write_verdict tag_given first_of
  begun_write l =
      by_pick (eq_lengths l s.lengths) (λ (z : State × Reply). tag_given z.1 ≡ some t → Begun s q (Page (start_of q) (end_of q)) t z) (λ same. begun_by_lem _ refl _ (write_passed s q)) (λ other e. clash (cc))

  pub begun_read : (l : Lengths) → tag_given (done s l (calls (ReadPage q))).1 ≡ some t → Begun s q (Read (start_of q) (end_of q)) t (done s l (calls (ReadPage q)))
  unfolding done step called read_verdict tag_given first_of
  begun_read l =
      by_pick (eq_lengths l s.lengths) (λ (z : State × Reply). tag_given z.1 ≡ some t → Begun s q (Read (start_of q) (end_of q)) t z) (λ same. begun_by_lem _ refl _ (read_passed s q)) (λ other e. clash (cc))

-- ---- the history before it

hosted_parts : (s : State) (h l : List Event) → Hosted s (h ++ l) → Hosted s h × Hosted (run s h) l
unfolding Hosted run
hosted_parts s [] l m = (tt, m)
hosted_parts s (e ∷ h) l m = let z = hosted_parts (next s e) h l m.1 in ((m.0, z.0), z.1)

module _ (x : Start) (h : List Event) (e : Event) (hosted : Hosted (opened_by x) (h ++ (e ∷ []))) where
  pub before : Reached x (after x h) (alones_after x h)
  before = reached_after x h (hosted_parts (opened_by x) h (e ∷ []) hosted).0

  pub may : HostMay (after x h) e.leaves
  unfolding after Hosted
  may = (hosted_parts (opened_by x) h (e ∷ []) hosted).1.0

-- ---- the operation

-- a write keeps its durable mark
durable_is : (k : Kind) (d : Bool) → pages k ≡ true → durable_as k d ≡ d
unfolding pages durable_as
durable_is (Page a b) d page = refl
durable_is (Read a b) d page = absurd (not_both page refl)

module _ (x : Start) (s : State) (sound : Sound s) (fixed : Fixed x s) (e : Event) (host : HostMay s e.leaves) (q : Request) (k : Kind) (t : ℕ) (g : Begun (leave s e.leaves) q k t (done (leave s e.leaves) e.lengths e.made)) where
  abbrev s₁ : State
  s₁ = leave s e.leaves

  abbrev top : ℕ
  top = top_of s₁.free

  abbrev m : Map
  m = (region_at s q.handle).map

  -- the buffer at acceptance
  abbrev then : List ℕ
  then = buffer_then x e q

  sound₁ : Sound s₁
  sound₁ = leaves s e.leaves sound host.count

  pub region : q.handle < s.settings.regions
  unfolding leave
  region = g.passed.region

  pub in_data_lem : q.offset.0 + q.length ≤ m.data_length
  unfolding leave region_at
  in_data_lem = g.passed.in_data_lem

  then_is : bytes_at s₁ q.buffer ≡ then
  unfolding bytes_at leave buffer_then
  then_is = ap (λ (o : Opening). stretch o.capacity q.buffer e.leaves) fixed.settings

  pub then_length : q.length ≤ length then
  then_length = let fits = g.passed.fits in let long = bytes_length s₁ sound₁ q.buffer g.passed.buffer in let same = ap length then_is in omega (arith, fits, long, same)

  pub in_capacity : (j : ℕ) → j < q.length → q.offset.0 + j < m.capacity
  in_capacity j l = let w = (sound.each q.handle region).lawful.within in let d = in_data_lem in omega (arith, d, w, l)

  small : top < 2 ^ 32
  small = small_row s₁ sound₁ top (top_row s₁ sound₁ g.passed.room)

  next_is : next s e ≡ accepted s₁ top k q
  unfolding next
  next_is = g.state

  pub row_is : row_at (next s e) (row_of t) ≡ claimed_by (row_at s₁ top).generation s₁.counts.submissions k q
  unfolding row_at accepted
  row_is =
      (λ j. row_at (next_is j) ((ap row_of (sym g.tag) ∙ row_of_tag top (row_at s₁ top).generation small) j))
      ∙ get_or-set_same s₁.rows top (claimed_by (row_at s₁ top).generation s₁.counts.submissions k q) (freed 0) (let lt = top_row s₁ sound₁ g.passed.room in let rows = sound₁.rows in omega (arith, lt, rows))

  module _ (first : first_of k ≡ q.offset) (last : (last_of k).0 ≡ q.offset.0 + q.length) (new : List ℕ) (long : length new ≡ q.length) (of_write : pages k ≡ true → new ≡ take q.length then)
      (watched : ℕ → Bool) (of_read : pages k ≡ false → (i : ℕ) → watched i ≡ true) where
    abbrev pub task : Task
    task = record {
      tag = t;
      request = q;
      opening = x.opening;
      plan = plan_of (region_at s q.handle);
      map = m;
      kind = k;
      new = new;
      old = take q.length then;
      tail = drop q.length then;
      first = first;
      last = last;
      long_new = long;
      long_old = length-take-le q.length then then_length;
      of_write = of_write;
      watched = watched;
      of_read = of_read;
      lawful = (sound.each q.handle region).lawful;
      in_data_lem = in_data_lem;
      distinct = λ i j li lj same. add_left_cancel q.offset.0 (sound.apart q.handle q.handle (q.offset.0 + i) (q.offset.0 + j) region region (in_capacity i li) (in_capacity j lj) same).1;
    }

    in_row : InRow task (claimed_by (row_at s₁ top).generation s₁.counts.submissions k q) 0 0
    unfolding claimed_by is_live
    in_row = record {
      named = names_by (claimed_by (row_at s₁ top).generation s₁.counts.submissions k q) t refl (sym (generation_of_tag top (row_at s₁ top).generation small) ∙ ap generation_of g.tag);
      handle = refl;
      buffer = refl;
      tag = refl;
      durable = durable_is k q.durable;
      stage = piece refl g.passed.some;
    }

    bytes_are : bytes_at (next s e) q.buffer ≡ then
    unfolding bytes_at accepted
    bytes_are = ap (λ (y : State). bytes_at y q.buffer) next_is ∙ then_is

    pub opens : (card : Card) → (pages k ≡ false → (i : ℕ) → i < q.length → card (place m (q.offset.0 + i)) ≡ get_or new i 0) → Open task (next s e) card 0 0
    unfolding plan_of
    opens card reads = record {
      sound = keeps_next keeps s e sound host.count;
      in_row = subst (λ (r : Row). InRow task r 0 0) (sym row_is) in_row;
      settings_are = (fixed_next x s e fixed).settings;
      plan_is = next_plans s e q.handle;
      map_is = ap (λ (p : Plan). p.map) (next_plans s e q.handle);
      bytes = ap (drop (hosts_of task 0)) (bytes_are ∙ sym (take-append-drop q.length then));
      card_is = λ i. by_pick (pages k) (λ (n : ℕ). i < n → watched i ≡ true → card (place m (q.offset.0 + i)) ≡ get_or new i 0) (λ page lt on. absurd (omega (arith, lt))) (λ read lt on. reads read i lt);
    }
