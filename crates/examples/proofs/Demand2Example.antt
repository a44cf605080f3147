-- The suppositions of demand 2 can be met: with the opening of document 01's figures a write of two pieces, and a read of two pieces, are served, with a lookup,
-- another submission, its answer, a flush result too early and a count above the piece in between.
use mathlib.Core.Logic.{◌≢◌}
use mathlib.Core.Path.{◌≡◌, refl, sym, ap, ◌∙◌, subst}
use mathlib.Core.Bool.{true, false}
use mathlib.Core.Option.{none, some}
use mathlib.Core.List.{List, [], ◌∷◌}
use Prim.Native.Nat.{ℕ, zero, suc}
use lib.ListN.{length, replicate, length-replicate}
use Rattle.layout.specs.Pick.{pick}
use Rattle.layout.proofs.Tests.{not_both}
use Rattle.layout.specs.Block.{on_block}
use Rattle.regionmap.specs.Map.{span_from, map_run, map_run_end, map_run_left, place, piece_size}
use Rattle.regionmap.specs.Words.{position_of, runs_in, map_in}
use Rattle.iobuf.specs.Turn.{turned, stretch, with_stretch}
use Rattle.posix.specs.Posix.{Card, pread}
use Rattle.platform.specs.declared.Answer.TheVariants.{Count}
use Rattle.platform.specs.declared.Flushed.TheVariants.{Need}
use Rattle.model.specs.declared.Request.{Request}
use Rattle.model.specs.declared.Call.TheVariants.{Write, ReadPage, Answer, Flushed}
use Rattle.model.specs.declared.Lookup.TheVariants.{Mark as MarkNow}
use Rattle.model.specs.State.{State, freed, up_from}
use Rattle.model.specs.Opening.{at_first, opened, plan_in, plans_in}
use Rattle.step.specs.Questions.{ask, first_no, handle_names_region, buffer_in_pool, is_host, held_at, host_holds_buffer, room_in_table, lifetime_left, gate_open, store_writable, unpoisoned}
use Rattle.step.specs.Questions.{region_writable, volume_and_region_match, generation_matches, length_above0, aligned, within_data, region_at}
use Rattle.step.specs.Questions.{write_questions, read_questions}
use Rattle.step.specs.Rules.{op_of, first_of, last_of, range_of, piece_of, piece_length, Input, Input.answered, buffer_as, error_of, turned_back, is_written, cause_of, read_outcome, read_length, ticket_of, written_as, last_piece, above_piece, is_refusal, first_refused, is_whole, goes_on, split_after, piece_answered, flush_ends, answer_rules, flush_rules, rules}
use Rattle.step.specs.Step.{queue_tag, top_of, row_at, verdict_of, write_verdict, read_verdict, durable_as, claimed_by, one_more, accepted, submitted, row_of, generation_of, is_live, names, bytes_at, raised, awaits_now, one_less, kept_by, poison_with}
use Rattle.step.specs.Step.{going, freeing, plan_of, asks_for, completion_of, rejection, settled, fate_of, under_tag, looked_up, eq_lengths, called, step, look}
use Rattle.step.specs.Run.{Made, Made.calls, Made.looks, Event, leave, done, next, reply_to, run, Start, plans_of, opened_by, after}
use Rattle.step.specs.Lists.{brought_by, brought, is_away, loose, plan_at, left_in, takes_whole, wrote_by, tag_in, card_by, Hosted}
use Rattle.step.specs.Alone.{tag_given}
use Rattle.step.specs.Figures.{figures_opening, figures_plan, figures_lengths}
use Rattle.step.specs.Demand2.{WholeTo, HoldsCard, TakenWhole, Undisturbed, Served, Accepted, Wrote, DidRead, gets_in, BeingWritten}
use Rattle.step.proofs.AloneTags.{clash}
use Rattle.step.proofs.Figures.{figures}
use Rattle.step.proofs.Demand2.{demand2}
use Rattle.examples.proofs.Quiet.{quiet, quietly, may}

-- what is left to suppose of them
unfoldable ServedAll : State → List Made → ℕ → Request → Card → Type 0
ServedAll s [] t q card = Unit {0}
ServedAll s (m ∷ ms) t q card =
    (names (row_at s (row_of t)) t ≡ true) × TakenWhole s (quiet s m) t card × ((r y : ℕ) → r ≢ row_of t → BeingWritten (plan_at s (row_at s r)) (row_at s r).awaits y → ⊥) × ServedAll (next s (quiet s m)) ms t q (card_by s (quiet s m) card)

quiet_served : (s : State) (ms : List Made) (t : ℕ) (q : Request) (card : Card) → ServedAll s ms t q card → Served s (quietly s ms) t q card
unfolding Served quietly ServedAll Undisturbed
quiet_served s [] t q card f = tt
quiet_served s (m ∷ ms) t q card f = (f.0, may s, f.1, λ r i y other written lt at. f.2 r y other written, quiet_served (next s (quiet s m)) ms t q (card_by s (quiet s m) card) f.3)

-- an input that is taken whole, one that is turned away, and none at all
taken_input : (s : State) (m : Made) (t : ℕ) (card : Card) (i : Input) → brought t m ≡ some i → WholeTo s (row_at s (row_of t)) (row_at s (row_of t)).awaits i
    → HoldsCard (leave s s.pool) (row_at s (row_of t)) (row_at s (row_of t)).awaits card → TakenWhole s (quiet s m) t card
unfolding TakenWhole
taken_input s m t card i e whole holds j q heard = (subst (WholeTo s (row_at s (row_of t)) (row_at s (row_of t)).awaits) (let z = sym e ∙ q in cc) whole, holds)

taken_away : (s : State) (m : Made) (t : ℕ) (card : Card) → is_away (reply_to s (quiet s m)) ≡ true → TakenWhole s (quiet s m) t card
unfolding TakenWhole
taken_away s m t card gone j q heard = absurd (not_both gone heard)

taken_none : (s : State) (m : Made) (t : ℕ) (card : Card) → brought t m ≡ none → TakenWhole s (quiet s m) t card
unfolding TakenWhole
taken_none s m t card e j q heard = clash (let z = sym e ∙ q in cc)

-- ---- the example

abbrev start : Start
start = record { opening = figures_opening; plan = figures_plan; lengths = figures_lengths; pool = replicate 6144 0; admitted = figures.opens_them; whole = unfold figures_lengths in length-replicate {A = ℕ} 6144 0 }

abbrev asked : ℕ → ℕ → ℕ → Request
asked buffer offset length = record { handle = 0; volume = 1; region = 7; generation = 3; offset = position_of offset; buffer = buffer; length = length; durable = false; tag = 70 }

abbrev its : Request
its = asked 0 512 1024

abbrev submits : Made → Event
submits m = quiet (opened_by start) m

abbrev begun_by : Made → State
begun_by m = next (opened_by start) (submits m)

abbrev whole : ℕ → Made
whole t = calls (Answer t (Count 512) true 0)

-- the queue tags are 0, of the operation, and 1, of the read that is submitted between
abbrev between : List Made
between = looks MarkNow ∷ calls (ReadPage (asked 1 1536 512)) ∷ whole 0 ∷ calls (Flushed 0 (Need 9)) ∷ whole 1 ∷ calls (Answer 0 (Count 513) true 0) ∷ whole 0 ∷ []

abbrev blank : Card
blank z = 0

-- no other row writes
others : (P : ℕ → ℕ → Type 0) → ((y : ℕ) → P 1 y → ⊥) → ((r y : ℕ) → P (suc (suc r)) y → ⊥) → (r y : ℕ) → r ≢ 0 → P r y → ⊥
others P b c zero y n z = n refl
others P b c (suc zero) y n z = b y z
others P b c (suc (suc r)) y n z = c r y z

record Computed : Type 0 where
  writes : tag_given (reply_to (opened_by start) (submits (calls (Write its)))) ≡ some 0
  reads : tag_given (reply_to (opened_by start) (submits (calls (ReadPage its)))) ≡ some 0
  write_over : names (row_at (run (begun_by (calls (Write its))) (quietly (begun_by (calls (Write its))) between)) (row_of 0)) 0 ≡ false
  write_served : ServedAll (begun_by (calls (Write its))) between 0 its blank
  read_served : ServedAll (begun_by (calls (ReadPage its))) between 0 its blank

computed : Computed
unfolding quietly ServedAll figures_opening figures_plan figures_lengths opened_by plans_of
    next run done leave reply_to step look looked_up called eq_lengths submitted verdict_of write_verdict read_verdict accepted claimed_by one_more top_of row_at queue_tag durable_as
    under_tag names is_live row_of generation_of settled going freeing raised awaits_now one_less kept_by poison_with plan_of asks_for completion_of rejection fate_of bytes_at
    rules answer_rules flush_rules piece_answered above_piece first_refused is_refusal is_whole goes_on split_after last_piece turned_back is_written read_outcome read_length buffer_as written_as flush_ends
    piece_of piece_length first_of last_of range_of op_of error_of cause_of ticket_of turned stretch with_stretch
    ask first_no handle_names_region buffer_in_pool is_host held_at host_holds_buffer room_in_table lifetime_left gate_open store_writable unpoisoned
    region_writable volume_and_region_match generation_matches length_above0 aligned within_data region_at write_questions read_questions
    plan_in plans_in at_first opened freed up_from runs_in map_in span_from map_run map_run_end map_run_left place piece_size pick on_block
    brought brought_by tag_in tag_given is_away left_in loose plan_at BeingWritten WholeTo HoldsCard card_by wrote_by takes_whole pread
computed = record {
  writes = refl;
  reads = refl;
  write_over = refl;
  write_served = (
    refl,
    taken_none _ _ 0 _ refl,
    others _ (λ y z. z) (λ r y z. z),
    (
      refl,
      taken_none _ _ 0 _ refl,
      others _ (λ y z. z) (λ r y z. z),
      (
        refl,
        taken_input _ _ 0 _ (answered (Count 512) true 0) refl (refl, refl) tt,
        others _ (λ y z. z) (λ r y z. z),
        (
          refl,
          taken_away _ _ 0 _ refl,
          others _ (λ y z. z) (λ r y z. z),
          (
            refl,
            taken_none _ _ 0 _ refl,
            others _ (λ y z. z) (λ r y z. z),
            (refl, taken_away _ _ 0 _ refl, others _ (λ y z. z) (λ r y z. z), (refl, taken_input _ _ 0 _ (answered (Count 512) true 0) refl (refl, refl) tt, others _ (λ y z. z) (λ r y z. z), tt)),
          ),
        ),
      ),
    ),
  );
  read_served = (
    refl,
    taken_none _ _ 0 _ refl,
    others _ (λ y z. z) (λ r y z. z),
    (
      refl,
      taken_none _ _ 0 _ refl,
      others _ (λ y z. z) (λ r y z. z),
      (
        refl,
        taken_input _ _ 0 _ (answered (Count 512) true 0) refl (refl, refl) refl,
        others _ (λ y z. z) (λ r y z. z),
        (
          refl,
          taken_away _ _ 0 _ refl,
          others _ (λ y z. z) (λ r y z. z),
          (
            refl,
            taken_none _ _ 0 _ refl,
            others _ (λ y z. z) (λ r y z. z),
            (refl, taken_away _ _ 0 _ refl, others _ (λ y z. z) (λ r y z. z), (refl, taken_input _ _ 0 _ (answered (Count 512) true 0) refl (refl, refl) refl, others _ (λ y z. z) (λ r y z. z), tt)),
          ),
        ),
      ),
    ),
  );
}

accepted_as : (m : Made) → tag_given (reply_to (opened_by start) (submits m)) ≡ some 0 → Accepted start [] (submits m) 0 its m
unfolding Hosted after run
accepted_as m e = record { hosted = (may (opened_by start), tt); made_so = refl; tag = e }

-- so the two operations act like one transfer
wrote : Wrote start [] (submits (calls (Write its))) 0 its blank (quietly (begun_by (calls (Write its))) between)
unfolding after run
wrote =
    demand2.write start [] (submits (calls (Write its))) 0 its (accepted_as (calls (Write its)) computed.writes) blank (quietly (begun_by (calls (Write its))) between)
    (quiet_served (begun_by (calls (Write its))) between 0 its blank computed.write_served)

-- the write is over, and has got its one completion
wrote_once : length (gets_in start [] (submits (calls (Write its))) 0 its (quietly (begun_by (calls (Write its))) between)) ≡ 1
unfolding after run
wrote_once = ap length (wrote.completes computed.write_over)

did_read : DidRead start [] (submits (calls (ReadPage its))) 0 its blank (quietly (begun_by (calls (ReadPage its))) between)
unfolding after run
did_read =
    demand2.read start [] (submits (calls (ReadPage its))) 0 its (accepted_as (calls (ReadPage its)) computed.reads) blank (quietly (begun_by (calls (ReadPage its))) between)
    (quiet_served (begun_by (calls (ReadPage its))) between 0 its blank computed.read_served)
