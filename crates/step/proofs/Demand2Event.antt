-- One event of a list through which an operation is served as demand 2 supposes: it leaves the operation as it stands, or takes its piece whole and the operation
-- stands behind that piece, or the operation completes.
use mathlib.Core.Path.{◌≡◌, refl, sym, ap, ◌∙◌, subst, subst₂}
use mathlib.Core.Logic.{◌≢◌, ◌⊎◌, inl, inr}
use mathlib.Core.Bool.{Bool, true, false, ◌||◌}
use mathlib.Core.Option.{Option, none, some}
use mathlib.Core.List.{List, [], ◌∷◌, ◌++◌}
use Prim.Native.Nat.{ℕ, ◌+◌, ◌-◌, ◌≤◌, ◌<◌}
use native.Mathlib.Omega.{arith}
use lib.ListN.{length, take, drop, get_or}
use lib.Seq.{drop-length, drop-append_seam}
use Rattle.layout.specs.Pick.{pick}
use Rattle.layout.proofs.Tests.{not_both, true_or_false}
use Rattle.regionmap.specs.declared.Position.{Position}
use Rattle.regionmap.specs.Map.{place}
use Rattle.posix.specs.Posix.{Card, pwrite}
use Rattle.platform.specs.declared.Answer.{Answer}
use Rattle.platform.specs.declared.Flushed.{Flushed}
use Rattle.completion.specs.declared.Refusal.{Refusal}
use Rattle.completion.specs.declared.Refusal.TheVariants.{Unfit, UnknownTag, NotAwaited}
use Rattle.completion.specs.declared.Reply.{Reply}
use Rattle.completion.specs.declared.Reply.TheVariants.{Piece as pieceReply, No as turnedAway, Rejected, Done, Flush as flushAsked, Took, None as noneReady, Ok, Writes, Mark}
use Rattle.completion.specs.declared.Outcome.{Outcome}
use Rattle.completion.specs.declared.Outcome.TheVariants.{Read as readTo}
use Rattle.std.specs.declared.option.Option.TheVariants.{Some as Back}
use Rattle.completion.specs.declared.Completion.{Completion}
use Rattle.completion.specs.declared.WriteTicket.{WriteTicket}
use Rattle.model.specs.declared.Opening.{Opening}
use Rattle.model.specs.declared.Kind.{Kind}
use Rattle.model.specs.declared.Kind.TheVariants.{Page, Read}
use Rattle.model.specs.declared.Lengths.{Lengths}
use Rattle.model.specs.declared.Split.{Split}
use Rattle.model.specs.declared.Awaits.{Awaits}
use Rattle.model.specs.declared.Awaits.TheVariants.{Piece, Flush}
use Rattle.model.specs.declared.Row.{Row}
use Rattle.model.specs.State.{State, freed}
use Rattle.model.specs.Opening.{Plan}
use Rattle.step.specs.Questions.{byte_at, region_at}
use Rattle.step.specs.Rules.{first_of, piece_length, is_whole, split_after, Input, Input.answered, Input.flushed, Fate, Fate.away, Fate.awaits, Fate.ends, answer_rules, flush_rules, flush_ends, flush_outcome, ticket_of, rules}
use Rattle.step.specs.Step.{row_at, row_of, is_live, names, bytes_at, raised, awaits_now, completion_of, poison_with, plan_of, going, freeing, settled, fate_of, under_tag, eq_lengths}
use Rattle.step.specs.Sound.{Sound}
use Rattle.step.specs.Run.{Made, Made.calls, Made.looks, Event, leave, done, next, reply_to}
use Rattle.step.specs.Lists.{brought, is_away, plan_at, left_in, Given, given_as, given_by, Completed, with_bytes, added_by, is_brought, takes_whole, wrote_by, tag_in, card_by, HostMay}
use Rattle.step.specs.Demand2.{WholeTo, count_of, count_given, result_of, result_given, answers_of, answers_in, durably_to, written_to}
use Rattle.step.proofs.Picked.{by_pick}
use Rattle.step.proofs.Away.{turned_away}
use Rattle.step.proofs.AloneTags.{clash, live_in, names_live, names_generation, names_by}
use Rattle.step.proofs.Buffers.{bytes_length}
use Rattle.step.proofs.Histories.{leaves, keeps_next, done_stays}
use Rattle.step.proofs.Laws.{keeps}
use Rattle.step.proofs.Fates.{Fitting, FateFits, fate_fits}
use Rattle.step.proofs.ListsBrought.{brings}
use Rattle.step.proofs.ProjectionFixed.{next_plans}
use Rattle.step.proofs.ProjectionHost.{sole, live_in_table, left_alike}
use Rattle.step.proofs.ProjectionSet.{Changed, row_here, bytes_here}
use Rattle.step.proofs.CardBytes.{wrote_none, wrote_beside}
use Rattle.step.proofs.Demand2Others.{pool_others, other_row, done_row}
use Rattle.step.proofs.Demand2Bytes.{lying, lying_last, turned_on, turned_last, piece_written}
use Rattle.step.proofs.Demand2Fate.{pages, Whole, Whole.next_piece, Whole.its_flush, Whole.completes, answer_whole}
use Rattle.step.proofs.Demand2Task.{Task, mapped_to, split_of, size_of, hosts_of, on_card, ItsTicket, Stage, Stage.piece, Stage.flush, InRow, Open, piece_ends, rest, rest_first, rest_none, consecutive, piece_place, piece_size_lem, loose_is, is_new}
use Rattle.step.proofs.Demand2Served.{Taken, Clear, map_next}

-- ---- an event that is turned away, or not

record IsTurned (x : Reply) : Type 0 where
  f : Refusal
  is : x ≡ turnedAway f

is_turned : (x : Reply) → is_away x ≡ true → IsTurned x
unfolding is_away
is_turned (pieceReply t o n b) e = absurd (not_both e refl)
is_turned (turnedAway f) e = record { f = f; is = refl }
is_turned (Rejected g o x b) e = absurd (not_both e refl)
is_turned (Done t) e = absurd (not_both e refl)
is_turned (flushAsked t n) e = absurd (not_both e refl)
is_turned (Took c) e = absurd (not_both e refl)
is_turned noneReady e = absurd (not_both e refl)
is_turned Ok e = absurd (not_both e refl)
is_turned (Writes x) e = absurd (not_both e refl)
is_turned (Mark m) e = absurd (not_both e refl)

away_done : (s : State) (l : Lengths) (m : Made) → is_away (done s l m).1 ≡ true → (done s l m).0 ≡ s
unfolding done
away_done s l (calls c) e = let z = is_turned _ e in turned_away s l c z.f z.is
away_done s l (looks x) e = refl

pub away_same : (s : State) (e : Event) → is_away (reply_to s e) ≡ true → next s e ≡ leave s e.leaves
unfolding next reply_to
away_same s e gone = away_done (leave s e.leaves) e.lengths e.made gone

away_card : (s : State) (e : Event) (card : Card) → is_away (reply_to s e) ≡ true → card_by s e card ≡ card
unfolding card_by
away_card s e card gone = by_pick (is_away (reply_to s e)) (λ (after : Card). after ≡ card) (λ z. refl) (λ heard. absurd (not_both gone heard))

module _ (s : State) (e : Event) (t : ℕ) (i : Input) (bt : brought t e.made ≡ some i) where
  abbrev s₁ : State
  s₁ = leave s e.leaves

  -- a tag that names no row
  unnamed_away : names (row_at s (row_of t)) t ≡ false → is_away (reply_to s e) ≡ true
  unfolding reply_to under_tag is_away pick row_at leave
  unnamed_away n =
      ap (λ (z : State × Reply). is_away z.1) ((brings e.made t i bt).called_is s₁ e.lengths)
      ∙ by_pick (eq_lengths e.lengths s₁.lengths) (λ (z : State × Reply). is_away z.1 ≡ true)
      (λ same. ap (λ (b : Bool). is_away (pick b (settled s₁ t (row_at s₁ (row_of t)) (fate_of s₁ (row_at s₁ (row_of t)) i)) (s₁, turnedAway UnknownTag)).1) n) (λ other. refl)

  -- a tag that names one, where the event is not turned away
  pub heard_settles : names (row_at s (row_of t)) t ≡ true → is_away (reply_to s e) ≡ false → done s₁ e.lengths e.made ≡ settled s₁ t (row_at s (row_of t)) (fate_of s₁ (row_at s (row_of t)) i)
  unfolding reply_to under_tag is_away pick row_at leave
  heard_settles n heard = by_lengths (eq_lengths e.lengths s₁.lengths) refl
    where
      by_lengths : (b : Bool) → eq_lengths e.lengths s₁.lengths ≡ b → done s₁ e.lengths e.made ≡ settled s₁ t (row_at s (row_of t)) (fate_of s₁ (row_at s (row_of t)) i)
      by_lengths true q =
          (brings e.made t i bt).called_is s₁ e.lengths ∙ ap (λ (b : Bool). pick b (under_tag s₁ t i) (s₁, turnedAway Unfit)) q
          ∙ ap (λ (b : Bool). pick b (settled s₁ t (row_at s₁ (row_of t)) (fate_of s₁ (row_at s₁ (row_of t)) i)) (s₁, turnedAway UnknownTag)) n
      by_lengths false q =
          absurd (not_both (ap (λ (z : State × Reply). is_away z.1) ((brings e.made t i bt).called_is s₁ e.lengths ∙ ap (λ (b : Bool). pick b (under_tag s₁ t i) (s₁, turnedAway Unfit)) q)) heard)

-- ---- what the event comes to

-- the whole range is on the card, of the bytes that are followed
abbrev pub Arrived : Task → Card → Type 0
Arrived w card = (i : ℕ) → i < w.request.length → w.watched i ≡ true → card (mapped_to w i) ≡ get_or w.new i 0

-- the completion, of the table s as it leaves it, by the flush count last given and the flush result, if there was one
pub record Finished (w : Task) (s : State) (flushes : ℕ) (result : Option Flushed) (c : Completion) : Type 0 where
  pub buf : c.buf ≡ Back (record { buffer = w.request.buffer; len = w.request.length })
  pub tag : c.tag ≡ w.request.tag
  pub outcome : pages w.kind ≡ false → c.outcome ≡ readTo w.request.length
  pub wrote : pages w.kind ≡ true → c.outcome ≡ written_to w.opening s.poison w.request.durable (ticket_of w.opening w.plan w.kind flushes) result
  pub policy : pages w.kind ≡ true → w.request.durable ≡ true → result ≡ none → w.opening.flush || (region_at s w.request.handle).forced ≡ false

-- what the operation gets of the event
abbrev pub gets_of : State → Event → ℕ → ℕ → List Completed
gets_of s e t b = pick (is_brought (brought t e.made)) (with_bytes (bytes_at (next s e) b) (added_by s e)) []

-- what the event gives to the operation behind d bytes, with the flush count n last given before: another count is last given then, and no flush result; and it stands
-- behind as many pieces more as were answered
abbrev Counts : Task → ℕ → ℕ → List Given → ℕ → ℕ → Type 0
Counts w d n now d' n' =
    (gs : List Given) → (count_given n (now ++ gs) ≡ count_given n' gs) × (result_given (now ++ gs) ≡ result_given gs) × (drop (answers_in (now ++ gs)) (rest w d) ≡ drop (answers_in gs) (rest w d'))

pub data Came (w : Task) (s : State) (card : Card) (d n : ℕ) (e : Event) : Type 0 where
  still : (d' n' : ℕ) → Open w (next s e) (card_by s e card) d' n' → gets_of s e w.tag w.request.buffer ≡ [] → Counts w d n (given_by s e w.tag) d' n' → Came w s card d n e
  over : names (row_at (next s e) (row_of w.tag)) w.tag ≡ false → Arrived w (card_by s e card) → (c : Completion) (g : Given) → given_by s e w.tag ≡ g ∷ []
      → Finished w (next s e) (count_given n (g ∷ [])) (result_given (g ∷ [])) c → gets_of s e w.tag w.request.buffer ≡ (c, w.new ++ w.tail) ∷ [] → drop (answers_in (g ∷ [])) (rest w d) ≡ [] → Came w s card d n e

stage_live : (w : Task) (d c : ℕ) (a : Awaits) → Stage w d c a → is_live a ≡ true
unfolding is_live
stage_live w d c a (piece e left) = ap is_live e
stage_live w d c a (flush t e page all long) = ap is_live e

stage_most : (w : Task) (d c : ℕ) (a : Awaits) → Stage w d c a → d ≤ w.request.length
stage_most w d c a (piece e left) = omega (arith, left)
stage_most w d c a (flush t e page all long) = omega (arith, all)

on_card_most : (w : Task) (d i : ℕ) → d ≤ w.request.length → i < on_card w d → i < w.request.length
on_card_most w d i most = by_pick (pages w.kind) (λ (n : ℕ). i < n → i < w.request.length) (λ page lt. omega (arith, most, lt)) (λ reads lt. lt)

-- all bytes are on the card when all are done
pub on_card_all : (w : Task) (d i : ℕ) → d ≡ w.request.length → i < w.request.length → i < on_card w d
on_card_all w d i all lt = by_pick (pages w.kind) (λ (n : ℕ). i < n) (λ page. omega (arith, all, lt)) (λ reads. lt)

-- the ticket with which a write awaits its flush
its_ticket : (w : Task) (flushes : ℕ) → w.request.durable ≡ true → ItsTicket w flushes (ticket_of w.opening w.plan w.kind flushes)
unfolding ticket_of
its_ticket w flushes durable =
    let a : (first_of w.kind).0 ≡ w.request.offset.0 = ap (λ (p : Position). p.0) w.first in
    let z = w.last in
    record { long = omega (arith, a, z); is = refl; durable = durable }

-- what a whole piece writes, of a write and of a read
wrote_page : (g : Plan) (k : Kind) (sp : Split) (bytes : List ℕ) (x : Answer) (back : Bool) (flushes : ℕ) (card : Card) → pages k ≡ true → is_whole (piece_length g k sp) x ≡ true
    → wrote_by g (Piece k sp) bytes (some (answered x back flushes)) card ≡ pwrite card (place g.map (byte_at (first_of k).0 sp.done)) (take (piece_length g k sp) bytes)
unfolding wrote_by takes_whole first_of pages pick
wrote_page g (Page a b) sp bytes x back flushes card page whole = ap (λ (t : Bool). pick t (pwrite card (place g.map (byte_at a.0 sp.done)) (take (piece_length g (Page a b) sp) bytes)) card) whole
wrote_page g (Read a b) sp bytes x back flushes card page whole = absurd (not_both page refl)

wrote_read : (g : Plan) (k : Kind) (sp : Split) (bytes : List ℕ) (v : Option Input) (card : Card) → pages k ≡ false → wrote_by g (Piece k sp) bytes v card ≡ card
unfolding wrote_by pages
wrote_read g (Page a b) sp bytes v card reads = absurd (not_both refl reads)
wrote_read g (Read a b) sp bytes v card reads = refl

module _ (w : Task) (s : State) (card : Card) (d given : ℕ) (o : Open w s card d given) (e : Event) (host : HostMay s e.leaves) (taken : Taken w s e card) (alone : Clear w s) where
  abbrev t : ℕ
  t = w.tag

  abbrev r : Row
  r = row_at s (row_of w.tag)

  abbrev b : ℕ
  b = w.request.buffer

  abbrev left : State
  left = leave s e.leaves

  abbrev lies : ℕ → List ℕ
  lies n = lying w.new w.old w.tail n

  sound_left : Sound left
  sound_left = leaves s e.leaves o.sound host.count

  sound_next : Sound (next s e)
  sound_next = keeps_next keeps s e o.sound host.count

  map_left : (region_at left w.request.handle).map ≡ w.map
  unfolding region_at leave
  map_left = o.map_is

  settings_next : (next s e).settings ≡ w.opening
  unfolding next leave
  settings_next = (done_stays left e.lengths e.made).settings ∙ o.settings_are

  plan_next : plan_of (region_at (next s e) w.request.handle) ≡ w.plan
  plan_next = next_plans s e w.request.handle ∙ o.plan_is

  live : is_live r.awaits ≡ true
  live = names_live r t o.in_row.named

  in_buffers : r.buffer < s.settings.buffers
  in_buffers = (live_in_table s o.sound (row_of t) live).buffer

  -- the buffer as the host leaves it
  bytes_left : drop (hosts_of w d) (bytes_at left b) ≡ drop (hosts_of w d) (lies d)
  unfolding bytes_at leave
  bytes_left =
      (λ j. drop (sym (loose_is w s r o.in_row.handle o.map_is d given o.in_row.stage) j) (bytes_at left (sym o.in_row.buffer j)))
      ∙ left_alike s o.sound e.leaves host (row_of t) live
      ∙ (λ j. drop (loose_is w s r o.in_row.handle o.map_is d given o.in_row.stage j) (bytes_at s (o.in_row.buffer j)))
      ∙ o.bytes

  -- nothing is given
  nothing_given : (now : List Given) → now ≡ [] → Counts w d given now d given
  nothing_given now q gs = (ap (λ (l : List Given). count_given given (l ++ gs)) q, ap (λ (l : List Given). result_given (l ++ gs)) q, ap (λ (l : List Given). drop (answers_in (l ++ gs)) (rest w d)) q)

  -- ---- the operation stays as it stands

  stays : row_at (next s e) (row_of t) ≡ r → bytes_at (next s e) b ≡ bytes_at left b → ((i : ℕ) → i < w.request.length → w.watched i ≡ true → card_by s e card (mapped_to w i) ≡ card (mapped_to w i)) → Open w (next s e) (card_by s e card) d given
  stays row bytes same = record {
    sound = sound_next;
    in_row = subst (λ (x : Row). InRow w x d given) (sym row) o.in_row;
    settings_are = settings_next;
    plan_is = plan_next;
    map_is = map_next w s e o.map_is;
    bytes = ap (drop (hosts_of w d)) bytes ∙ bytes_left;
    card_is = λ i lt on. same i (on_card_most w d i (stage_most w d given r.awaits o.in_row.stage) lt) on ∙ o.card_is i lt on;
  }

  -- an event for another
  module _ (bt : brought t e.made ≡ none) where
    other_tag : (i : Input) → brought (tag_in e.made) e.made ≡ some i → tag_in e.made ≢ t
    other_tag i bu same = clash (let z : some i ≡ none = sym bu ∙ ap (λ (u : ℕ). brought u e.made) same ∙ bt in cc)

    other_card : (i : ℕ) → i < w.request.length → w.watched i ≡ true → card_by s e card (mapped_to w i) ≡ card (mapped_to w i)
    unfolding card_by Clear
    other_card i lt on = by_pick (is_away (reply_to s e)) (λ (after : Card). after y ≡ card y) (λ gone. refl) (λ heard. by_brought (brought u e.made) refl heard)
      where
        u : ℕ
        u = tag_in e.made

        y : ℕ
        y = mapped_to w i

        its : Row
        its = row_at s (row_of u)

        by_name : (j : Input) → brought u e.made ≡ some j → is_away (reply_to s e) ≡ false → (n : Bool) → names its u ≡ n → wrote_by (plan_at s its) its.awaits (bytes_at left its.buffer) (some j) card y ≡ card y
        by_name j q heard true here =
            wrote_beside (plan_at s its) its.awaits (bytes_at left its.buffer) (some j) card y
            (alone i lt on (row_of u) (other_row s o.sound t o.in_row.named u (other_tag j q) here))
        by_name j q heard false n = absurd (not_both (unnamed_away s e u j q n) heard)

        by_brought : (v : Option Input) → brought u e.made ≡ v → is_away (reply_to s e) ≡ false → wrote_by (plan_at s its) its.awaits (bytes_at left its.buffer) v card y ≡ card y
        by_brought none q heard = ap (λ (after : Card). after y) (wrote_none (plan_at s its) its.awaits (bytes_at left its.buffer) card)
        by_brought (some j) q heard = by_name j q heard (names its u) refl

    other_bytes : bytes_at (next s e) b ≡ bytes_at left b
    other_bytes =
        pool_others s e b sound_left (subst (λ (n : ℕ). n < s.settings.buffers) o.in_row.buffer in_buffers)
        (λ i bu here same. other_row s o.sound t o.in_row.named (tag_in e.made) (other_tag i bu) here
        (sole s o.sound (row_of t) (row_of (tag_in e.made)) live (names_live (row_at s (row_of (tag_in e.made))) (tag_in e.made) here) (same ∙ sym o.in_row.buffer)))

    other_kept : row_at (next s e) (row_of t) ≡ r
    unfolding next row_at leave
    other_kept = done_row left sound_left t o.in_row.named e.lengths e.made bt

    pub came_other : Came w s card d given e
    unfolding is_brought pick given_by given_as
    came_other =
        still d given (stays other_kept other_bytes other_card) (ap (λ (v : Option Input). pick (is_brought v) (with_bytes (bytes_at (next s e) b) (added_by s e)) []) bt)
        (nothing_given (given_by s e t) (ap (λ (v : Option Input). given_as v (is_away (reply_to s e)) (left_in left r)) bt))

  -- ---- an event for it

  module _ (i : Input) (bt : brought t e.made ≡ some i) where
    gets_with : (added : List Completion) → added_by s e ≡ added → (bytes : List ℕ) → bytes_at (next s e) b ≡ bytes → gets_of s e t b ≡ with_bytes bytes added
    unfolding is_brought pick
    gets_with added q bytes z =
        ap (λ (v : Option Input). pick (is_brought v) (with_bytes (bytes_at (next s e) b) (added_by s e)) []) bt ∙ (λ j. with_bytes (z j) (q j))

    gets_none : (next s e).ready ≡ s.ready → gets_of s e t b ≡ []
    unfolding with_bytes added_by
    gets_none q = gets_with [] (ap (drop (length s.ready)) q ∙ drop-length s.ready) (bytes_at (next s e) b) refl

    pub came_away : is_away (reply_to s e) ≡ true → Came w s card d given e
    unfolding row_at leave given_by given_as pick
    came_away gone =
        let same = away_same s e gone in
        still d given (stays (ap (λ (z : State). row_at z (row_of t)) same) (ap (λ (z : State). bytes_at z b) same) (λ j lt on. ap (λ (after : Card). after (mapped_to w j)) (away_card s e card gone))) (gets_none (ap (λ (z : State). z.ready) same))
        (nothing_given (given_by s e t) ((λ j. given_as (bt j) (gone j) (left_in left r))))

    module _ (heard : is_away (reply_to s e) ≡ false) where
      abbrev f : Fate
      f = fate_of left r i

      -- what is given
      given_is : given_by s e t ≡ (i, left_in left r) ∷ []
      unfolding given_by given_as pick
      given_is = λ j. given_as (bt j) (heard j) (left_in left r)

      next_is : (g : Fate) → f ≡ g → next s e ≡ (settled left t r g).0
      unfolding next
      next_is g q = ap (λ (z : State × Reply). z.0) (heard_settles s e t i bt o.in_row.named heard) ∙ ap (λ (h : Fate). (settled left t r h).0) q

      not_away : (x : Refusal) → f ≡ away x → ⊥
      unfolding reply_to settled is_away
      not_away x q = not_both (ap (λ (z : State × Reply). is_away z.1) (heard_settles s e t i bt o.in_row.named heard ∙ ap (settled left t r) q)) heard

      card_own : card_by s e card ≡ wrote_by (plan_at s r) r.awaits (bytes_at left r.buffer) (some i) card
      unfolding card_by pick
      card_own =
          ap (λ (c : Bool). pick c card (writes (tag_in e.made) (brought (tag_in e.made) e.made))) heard
          ∙ ap (λ (u : ℕ). writes u (brought u e.made)) (brings e.made t i bt).tag
          ∙ ap (writes t) bt
        where
          writes : ℕ → Option Input → Card
          writes u v = wrote_by (plan_at s (row_at s (row_of u))) (row_at s (row_of u)).awaits (bytes_at left (row_at s (row_of u)).buffer) v card

      in_pool_lem : r.buffer < left.settings.buffers
      unfolding leave
      in_pool_lem = in_buffers

      in_rows : row_of t < length left.rows
      unfolding leave
      in_rows = live_in s (row_of t) live

      fits : (g : Fate) → f ≡ g → FateFits left r g
      fits g q = subst (FateFits left r) q (fate_fits left r i)

      -- it goes on
      goes_on_lem : (a : Awaits) (bytes : List ℕ) (d' n' : ℕ) → f ≡ awaits a bytes → Counts w d given ((i, left_in left r) ∷ []) d' n' → Stage w d' n' a → drop (hosts_of w d') bytes ≡ drop (hosts_of w d') (lies d')
          → ((j : ℕ) → j < on_card w d' → w.watched j ≡ true → card_by s e card (mapped_to w j) ≡ get_or w.new j 0) → Came w s card d given e
      unfolding settled going Fitting awaits_now leave
      goes_on_lem a bytes d' n' q counts stage held same =
          let z = next_is (awaits a bytes) q in
          let to = going left (row_of t) r a bytes in
          let ch : Changed left to (row_of t) r.buffer (awaits_now r a) bytes = record { settings = refl; regions = refl; rows = refl; pool = refl } in
          let long : length bytes ≡ left.settings.capacity = (fits (awaits a bytes) q).1 ∙ bytes_length left sound_left r.buffer in_pool_lem in
          let row : row_at (next s e) (row_of t) ≡ awaits_now r a = ap (λ (y : State). row_at y (row_of t)) z ∙ row_here left to (row_of t) r.buffer (awaits_now r a) bytes ch in_rows in
          let there : bytes_at (next s e) b ≡ bytes = (λ j. bytes_at (z j) (sym o.in_row.buffer j)) ∙ bytes_here left to (row_of t) r.buffer (awaits_now r a) bytes ch sound_left in_pool_lem long in
          still d' n'
          (record {
            sound = sound_next;
            in_row = subst (λ (x : Row). InRow w x d' n') (sym row)
                (record {
                  named = names_by (awaits_now r a) t (stage_live w d' n' a stage) (names_generation r t o.in_row.named);
                  handle = o.in_row.handle;
                  buffer = o.in_row.buffer;
                  tag = o.in_row.tag;
                  durable = o.in_row.durable;
                  stage = stage;
                });
            settings_are = settings_next;
            plan_is = plan_next;
            map_is = map_next w s e o.map_is;
            bytes = ap (drop (hosts_of w d')) there ∙ held;
            card_is = same;
          })
          (gets_none (ap (λ (y : State). y.ready) z))
          (subst (λ (l : List Given). Counts w d given l d' n') (sym given_is) counts)

      -- it completes
      ends_with : (x : Outcome) (n : ℕ) (bytes : List ℕ) → f ≡ ends (record { outcome = x; buffer = Back (record { buffer = r.buffer; len = n }); bytes = bytes; cause = none }) → n ≡ w.request.length → bytes ≡ w.new ++ w.tail
          → (pages w.kind ≡ false → x ≡ readTo w.request.length) → (pages w.kind ≡ true → x ≡ written_to w.opening s.poison w.request.durable (ticket_of w.opening w.plan w.kind (count_given given ((i, left_in left r) ∷ []))) (result_given ((i, left_in left r) ∷ [])))
          → (pages w.kind ≡ true → w.request.durable ≡ true → result_given ((i, left_in left r) ∷ []) ≡ none → w.opening.flush || (region_at s w.request.handle).forced ≡ false)
          → Arrived w (card_by s e card) → drop (answers_in ((i, left_in left r) ∷ [])) (rest w d) ≡ [] → Came w s card d given e
      unfolding settled freeing Fitting completion_of with_bytes added_by names leave poison_with region_at
      ends_with x n bytes q all new outcome wrote policy arrived none_left =
          let to = (settled left t r (ends (record { outcome = x; buffer = Back (record { buffer = r.buffer; len = n }); bytes = bytes; cause = none }))).0 in
          let z = next_is (ends (record { outcome = x; buffer = Back (record { buffer = r.buffer; len = n }); bytes = bytes; cause = none })) q in
          let gone = freed (raised r.generation) in
          let c = completion_of r x (Back (record { buffer = r.buffer; len = n })) in
          let ch : Changed left to (row_of t) r.buffer gone bytes = record { settings = refl; regions = refl; rows = refl; pool = refl } in
          let long : length bytes ≡ left.settings.capacity = (fits (ends (record { outcome = x; buffer = Back (record { buffer = r.buffer; len = n }); bytes = bytes; cause = none })) q).1 ∙ bytes_length left sound_left r.buffer in_pool_lem in
          let row : row_at (next s e) (row_of t) ≡ gone = ap (λ (y : State). row_at y (row_of t)) z ∙ row_here left to (row_of t) r.buffer gone bytes ch in_rows in
          let there : bytes_at (next s e) b ≡ bytes = (λ j. bytes_at (z j) (sym o.in_row.buffer j)) ∙ bytes_here left to (row_of t) r.buffer gone bytes ch sound_left in_pool_lem long in
          over (ap (λ (y : Row). names y t) row ∙ freed_unnamed (raised r.generation)) arrived c (i, left_in left r) given_is
          (record { buf = (λ j. Back (record { buffer = (o.in_row.buffer j); len = (all j) })); tag = o.in_row.tag; outcome = outcome; wrote = λ page. wrote page ∙ (λ j. written_to w.opening (sym z j).poison w.request.durable (ticket_of w.opening w.plan w.kind (count_given given ((i, left_in left r) ∷ []))) (result_given ((i, left_in left r) ∷ []))); policy = λ page durable none. ap (λ (y : State). w.opening.flush || (region_at y w.request.handle).forced) z ∙ policy page durable none })
          (gets_with (c ∷ []) (ap (λ (y : State). drop (length s.ready) y.ready) z ∙ drop-append_seam s.ready (c ∷ [])) (w.new ++ w.tail) (there ∙ new))
          none_left
        where
          freed_unnamed : (g : ℕ) → names (freed g) t ≡ false
          freed_unnamed g = unfold freed is_live in refl

      -- ---- a piece, taken whole

      module _ (at : r.awaits ≡ Piece w.kind (split_of w d)) (more : d < w.request.length) (x : Answer) (back : Bool) (flushes : ℕ) (is : i ≡ answered x back flushes) where
        abbrev n : ℕ
        n = size_of w d

        abbrev bytes : List ℕ
        bytes = bytes_at left b

        is_whole_lem : (is_whole (piece_length (plan_at s r) w.kind (split_of w d)) x ≡ true) × (back ≡ true)
        unfolding Taken WholeTo
        is_whole_lem = subst₂ (WholeTo s r) at is (taken i bt heard).0

        new_is : (take n bytes ≡ take n (drop d w.new)) × (drop n bytes ≡ drop n (lies d))
        unfolding Taken
        new_is = is_new w left r d given o.in_row map_left at more card bytes_left o.card_is (taken i bt heard).1

        its_whole : Whole w.opening w.plan (region_at s w.request.handle).forced s.poison flushes r w.kind (split_of w d) n bytes f
        unfolding fate_of rules answer_rules plan_at region_at leave
        its_whole =
            let g = plan_at s r in
            let forced = (region_at s r.handle).forced in
            let now = bytes_at left r.buffer in
            let fate : f ≡ answer_rules s.settings g forced s.poison r now x back flushes (Piece w.kind (split_of w d)) =
            ap (fate_of left r) is ∙ ap (answer_rules s.settings g forced s.poison r now x back flushes) at in
            let its : g ≡ w.plan = ap (λ (h : ℕ). plan_of (region_at s h)) o.in_row.handle ∙ o.plan_is in
            subst₂ (λ (so : Opening) (p : Plan). Whole so p (region_at s w.request.handle).forced s.poison flushes r w.kind (split_of w d) n bytes f) o.settings_are its
            (subst (λ (h : ℕ). Whole s.settings g (region_at s h).forced s.poison flushes r w.kind (split_of w d) n bytes f) o.in_row.handle
            (subst₂ (λ (m : ℕ) (l : List ℕ). Whole s.settings g forced s.poison flushes r w.kind (split_of w d) m l f) (piece_size_lem w s r o.in_row.handle o.map_is d) (ap (bytes_at left) o.in_row.buffer)
            (subst (Whole s.settings g forced s.poison flushes r w.kind (split_of w d) (piece_length g w.kind (split_of w d)) now) (sym fate)
            (answer_whole s.settings g forced s.poison r (split_of w d) now w.kind x back flushes more is_whole_lem.0 is_whole_lem.1))))

        -- what is given is this answer
        one_count : Counts w d given ((i, left_in left r) ∷ []) (d + n) flushes
        unfolding count_given count_of result_given result_of answers_in answers_of
        one_count gs =
            (ap (λ (v : Input). count_given (count_of v given) gs) is, ap (λ (v : Input). result_of v (result_given gs)) is, (λ j. drop (answers_of (is j) (answers_in gs)) (rest_first w d more j)))

        one_last : count_given given ((i, left_in left r) ∷ []) ≡ flushes
        unfolding count_given count_of
        one_last = ap (λ (v : Input). count_of v given) is

        one_result : result_given ((i, left_in left r) ∷ []) ≡ none
        unfolding result_given result_of
        one_result = ap (λ (v : Input). result_of v none) is

        -- on the card
        card_after_lem : (j : ℕ) → j < on_card w (d + n) → w.watched j ≡ true → card_by s e card (mapped_to w j) ≡ get_or w.new j 0
        unfolding pick
        card_after_lem = by_kind (true_or_false (pages w.kind))
          where
            came_to : card_by s e card ≡ wrote_by (plan_at s r) (Piece w.kind (split_of w d)) (bytes_at left b) (some (answered x back flushes)) card
            came_to = card_own ∙ (λ j. wrote_by (plan_at s r) (at j) (bytes_at left (o.in_row.buffer j)) (some (is j)) card)

            by_kind : (pages w.kind ≡ true) ⊎ (pages w.kind ≡ false) → (j : ℕ) → j < on_card w (d + n) → w.watched j ≡ true → card_by s e card (mapped_to w j) ≡ get_or w.new j 0
            by_kind (inl page) j lt on =
                ap (λ (after : Card). after (mapped_to w j))
                (came_to ∙ wrote_page (plan_at s r) w.kind (split_of w d) (bytes_at left b) x back flushes card page is_whole_lem.0
                ∙ (λ k. pwrite card (piece_place w s r o.in_row.handle o.map_is d k) (take (piece_size_lem w s r o.in_row.handle o.map_is d k) (bytes_at left b)))
                ∙ ap (pwrite card (mapped_to w d)) new_is.0)
                ∙ piece_written (mapped_to w) w.new d n (let z = w.long_new in let y = piece_ends w d more in omega (arith, z, y)) (consecutive w d more) card
                (λ k l lk ll. w.distinct k l (let z = w.long_new in omega (arith, z, lk)) (let z = w.long_new in omega (arith, z, ll)))
                j (λ lk. o.card_is j (rw page lk) on) (rw page at lt)
            by_kind (inr reads) j lt on =
                ap (λ (after : Card). after (mapped_to w j)) (came_to ∙ wrote_read (plan_at s r) w.kind (split_of w d) (bytes_at left b) (some (answered x back flushes)) card reads)
                ∙ o.card_is j (rw reads (rw reads at lt)) on

        came_whole : Whole w.opening w.plan (region_at s w.request.handle).forced s.poison flushes r w.kind (split_of w d) n bytes f → Came w s card d given e
        unfolding split_after pick
        came_whole (next_piece lt q) =
            goes_on_lem _ _ (d + n) flushes q one_count (piece refl lt)
            (ap (drop (hosts_of w (d + n))) (turned_on w.new w.old w.tail w.request.length w.long_new w.long_old d n (piece_ends w d more) bytes new_is.0 new_is.1)) card_after_lem
        came_whole (its_flush page durable all q) =
            goes_on_lem _ _ w.request.length flushes q (subst (λ (m : ℕ). Counts w d given ((i, left_in left r) ∷ []) m flushes) all one_count) (flush _ refl page refl (its_ticket w flushes (sym (o.in_row.durable page) ∙ durable)))
            (ap (drop (hosts_of w w.request.length))
            (turned_last w.new w.old w.tail w.request.length w.long_new w.long_old d n (piece_ends w d more) bytes new_is.0 new_is.1 all
            ∙ sym (lying_last w.new w.old w.tail w.request.length w.long_new w.long_old)))
            (subst (λ (m : ℕ). (j : ℕ) → j < on_card w m → w.watched j ≡ true → card_by s e card (mapped_to w j) ≡ get_or w.new j 0) all card_after_lem)
        came_whole (completes all y outcome wrote q) =
            ends_with y w.request.length _ q refl
            (turned_last w.new w.old w.tail w.request.length w.long_new w.long_old d n (piece_ends w d more) bytes new_is.0 new_is.1 all) outcome
            (λ page. (wrote page).outcome ∙ (λ j. written_to w.opening s.poison (o.in_row.durable page j) (ticket_of w.opening w.plan w.kind (sym one_last j)) (sym one_result j)))
            (λ page durable z. (wrote page).policy (o.in_row.durable page ∙ durable))
            (λ j lt on. card_after_lem j (on_card_all w (d + n) j all lt) on) (unfold answers_in in (one_count []).2 ∙ rest_none w (d + n) all)

        came_piece : Came w s card d given e
        came_piece = came_whole its_whole

      -- ---- a flush result

      module _ (tk : WriteTicket) (at : r.awaits ≡ Flush tk) (page : pages w.kind ≡ true) (all : d ≡ w.request.length) (its : ItsTicket w given tk) (result : Flushed) (is : i ≡ flushed result) where
        came_flush : Came w s card d given e
        unfolding fate_of rules flush_rules flush_ends wrote_by pick leave count_given count_of result_given result_of answers_in answers_of durably_to written_to
        came_flush =
            let held : bytes_at left b ≡ lies d = rw page at bytes_left in
            ends_with (flush_outcome left.settings tk result) (tk.end.0 - tk.start.0) (bytes_at left r.buffer)
            (ap (fate_of left r) is ∙ ap (flush_rules left.settings r (bytes_at left r.buffer) result) at) its.long
            (ap (bytes_at left) o.in_row.buffer ∙ held ∙ ap lies all ∙ lying_last w.new w.old w.tail w.request.length w.long_new w.long_old)
            (λ reads. absurd (not_both page reads))
            (λ writes.
            (λ j. flush_outcome (o.settings_are j) (its.is j) result)
            ∙ (λ j. written_to w.opening s.poison (sym its.durable j) (ticket_of w.opening w.plan w.kind (count_of (sym is j) given)) (result_of (sym is j) none)))
            (λ writes durable z. clash (let y : some result ≡ none = sym (ap (λ (v : Input). result_of v none) is) ∙ z in cc))
            (λ j lt on. ap (λ (after : Card). after (mapped_to w j)) (card_own ∙ ap (λ (a : Awaits). wrote_by (plan_at s r) a (bytes_at left r.buffer) (some i) card) at)
            ∙ o.card_is j (on_card_all w d j all lt) on)
            ((λ j. drop (answers_of (is j) 0) (rest w d)) ∙ rest_none w d all)

      came_heard : Stage w d given r.awaits → (v : Input) → i ≡ v → Came w s card d given e
      unfolding fate_of rules answer_rules flush_rules
      came_heard (piece at more) (answered x back flushes) is = came_piece at more x back flushes is
      came_heard (piece at more) (flushed result) is = absurd (not_away NotAwaited (ap (fate_of left r) is ∙ ap (flush_rules left.settings r (bytes_at left r.buffer) result) at))
      came_heard (flush tk at page all long) (answered x back flushes) is =
          absurd (not_away NotAwaited (ap (fate_of left r) is ∙ ap (answer_rules left.settings (plan_of (region_at left r.handle)) (region_at left r.handle).forced left.poison r (bytes_at left r.buffer) x back flushes) at))
      came_heard (flush tk at page all long) (flushed result) is = came_flush tk at page all long result is

    came_own : (b : Bool) → is_away (reply_to s e) ≡ b → Came w s card d given e
    came_own true gone = came_away gone
    came_own false heard = came_heard heard o.in_row.stage i refl

  pub came : Came w s card d given e
  came = by_brought (brought t e.made) refl
    where
      by_brought : (v : Option Input) → brought t e.made ≡ v → Came w s card d given e
      by_brought none q = came_other q
      by_brought (some i) q = came_own i q (is_away (reply_to s e)) refl
