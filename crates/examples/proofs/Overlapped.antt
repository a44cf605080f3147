-- The writes of specs/Overlapped.antt, by computation: every definition on the way is opened. The bytes on which it was quiet stand by the theorem.
use mathlib.Core.Path.{◌≡◌, refl, sym, ap, ◌∙◌}
use mathlib.Core.List.{List, [], ◌∷◌, ◌++◌}
use Prim.Native.Nat.{ℕ, zero, suc, ◌+◌, ◌≤◌, ◌<◌}
use mathlib.Core.Bool.{true}
use native.Mathlib.Omega.{arith}
use lib.ListN.{length, get_or, replicate, length-replicate, get_or-replicate, get_or-append}
use lib.Seq.{get_or-append-add}
use Rattle.layout.specs.Pick.{pick}
use Rattle.layout.specs.Block.{on_block}
use Rattle.regionmap.specs.Map.{Map, span_from, map_run, map_run_end, map_run_left, place, piece_size}
use Rattle.regionmap.specs.Words.{runs_in, map_in}
use Rattle.regionmap.specs.Laws.{Lawful}
use Rattle.regionmap.proofs.Laws.{map_laws}
use Rattle.posix.specs.Posix.{Card, pwrite}
use Rattle.posix.proofs.Laws.{transfer_laws}
use Rattle.iobuf.specs.Turn.{turned, stretch, with_stretch}
use Rattle.completion.specs.declared.Completion.{Completion}
use Rattle.model.specs.declared.{Request.Request, Call.Call}
use Rattle.model.specs.State.{freed, up_from}
use Rattle.model.specs.Opening.{at_first, opened, plan_in, plans_in, opens}
use Rattle.step.specs.Questions.{ask, first_no, handle_names_region, buffer_in_pool, is_host, held_at, host_holds_buffer, room_in_table, lifetime_left, gate_open, store_writable, unpoisoned}
use Rattle.step.specs.Questions.{region_writable, volume_and_region_match, generation_matches, length_above0, aligned, within_data, region_at, write_questions}
use Rattle.step.specs.Rules.{first_of, last_of, piece_of, piece_length, buffer_as, turned_back, is_written, ticket_of, written_as, last_piece, above_piece, is_refusal, first_refused, is_whole, goes_on, split_after, piece_answered, answer_rules, rules}
use Rattle.step.specs.Step.{durable_as, claimed_by, one_more, accepted, row_of, generation_of, is_live, names, bytes_at, raised, awaits_now, one_less, kept_by, poison_with, going, freeing, plan_of, asks_for}
use Rattle.step.specs.Step.{completion_of, settled, fate_of, under_tag, queue_tag, top_of, row_at, verdict_of, write_verdict, submitted, eq_lengths, called, step}
use Rattle.step.specs.Run.{leave, done, next, reply_to, run, plans_of, opened_by, after}
use Rattle.step.specs.Lists.{brought_by, brought, is_away, plan_at, is_brought, with_bytes, added_by, gets, takes_whole, wrote_by, tag_in, card_by, card_after, Hosted}
use Rattle.step.specs.Alone.{tag_given}
use Rattle.step.specs.Demand2.{BeingWritten, buffer_then, Followed, is_kept}
use Rattle.step.specs.Kept.{QuietAt, Kept}
use Rattle.step.specs.Figures.{figures_plan, asking, in_buffer, answers, ticket_there}
use Rattle.step.specs.KeptRuns.{counted_kept, plain, before, submits, submitted_to, behind}
use Rattle.step.specs.Orders.{opening, lengths, filled, in_turn, start}
use Rattle.step.proofs.ProjectionReached.{reached_opened}
use Rattle.step.proofs.Orders.{orders}
use Rattle.step.proofs.Kept.{kept}
use Rattle.examples.specs.Overlapped.{offset_of, card_byte, own_byte, CountedAsKept, Quiet, Overlapped, Afterwards}
use Rattle.examples.specs.Overlapped.{written, meanwhile, over_second, written_second, earlier, completing, later}
use Rattle.examples.proofs.Quiet.{may}

-- row 0 and row 1, and past them there is none
by_row : (P : ℕ → Type 0) → P 0 → P 1 → ((r : ℕ) → P (suc (suc r))) → (r : ℕ) → P r
by_row P a b more zero = a
by_row P a b more (suc zero) = b
by_row P a b more (suc (suc r)) = more r

module _ (admitted : opens opening figures_plan lengths ≡ true) (whole : length filled ≡ lengths.pool) where
  abbrev m : Map
  m = (region_at (opened_by (start admitted whole)) 0).map

  -- where a request begins, in the map of the opening
  record Begins (cs : List Call) (q : Request) (p : ℕ) : Type 0 where
    map_is : (region_at (after (start admitted whole) (before admitted whole cs)) q.handle).map ≡ m
    offset : q.offset.0 ≡ p

  record Computed : Type 0 where
    region : 0 < (opened_by (start admitted whole)).settings.regions
    data_is : m.data_length ≡ 2048
    first_piece : (piece_size m 512 1024 ≡ 512) × (place m 512 ≡ 1536)
    second_piece : (piece_size m 1024 512 ≡ 512) × (place m 1024 ≡ 8192)
    -- Overlapped
    counted : CountedAsKept admitted whole [] 0 plain meanwhile written (replicate 512 5 ++ replicate 512 6)
    other_kept : counted_kept (gets (submitted_to admitted whole [] plain) (behind admitted whole [] plain meanwhile) 1 1) ≡ true ∷ []
    begins : Begins [] plain 512
    long : plain.length ≡ 1024
    buffer : buffer_then (start admitted whole) (submits admitted whole [] plain) plain ≡ replicate 512 5 ++ replicate 512 6
    card_first : (card : Card) → card_after (submitted_to admitted whole [] plain) (behind admitted whole [] plain (answers 0 512 ∷ [])) card ≡ pwrite card 1536 (replicate 512 5)
    card_then : (card : Card) → card_after (submitted_to admitted whole [] plain) (behind admitted whole [] plain meanwhile) card
        ≡ pwrite (pwrite (pwrite card 1536 (replicate 512 5)) 1536 (replicate 512 9)) 8192 (replicate 512 6)
    -- before the third event the other write's piece is under way
    under_way : (y i : ℕ) → i < 512 → 1536 + i ≡ y → QuietAt (submitted_to admitted whole [] plain) (behind admitted whole [] plain meanwhile) 0 y → ⊥
    not_there : (y : ℕ) → 2048 ≤ y → QuietAt (submitted_to admitted whole [] plain) (behind admitted whole [] plain meanwhile) 0 y
    -- Afterwards
    counted₂ : CountedAsKept admitted whole earlier 1 over_second completing written_second (replicate 1024 9)
    earlier_kept : counted_kept (gets (submitted_to admitted whole earlier over_second) (behind admitted whole earlier over_second later) 0 0) ≡ true ∷ []
    begins₂ : Begins earlier over_second 1024
    long₂ : over_second.length ≡ 512
    buffer₂ : buffer_then (start admitted whole) (submits admitted whole earlier over_second) over_second ≡ replicate 1024 9
    card_later : (card : Card) → card_after (submitted_to admitted whole earlier over_second) (behind admitted whole earlier over_second later) card
        ≡ pwrite (pwrite (pwrite card 8192 (replicate 512 9)) 1536 (replicate 512 5)) 8192 (replicate 512 6)
    not_there₂ : (y : ℕ) → 2048 ≤ y → QuietAt (submitted_to admitted whole earlier over_second) (behind admitted whole earlier over_second completing) 1 y

  computed : Computed
  unfolding opening lengths figures_plan asking in_buffer ticket_there filled in_turn plans_of opened_by after Hosted Followed tag_given counted_kept is_kept buffer_then QuietAt BeingWritten
      brought_by brought is_away plan_at is_brought with_bytes added_by gets takes_whole wrote_by tag_in card_by card_after
      leave done next reply_to run turned stretch with_stretch
      first_of last_of piece_of piece_length buffer_as turned_back is_written ticket_of written_as last_piece
      above_piece is_refusal first_refused is_whole goes_on split_after piece_answered answer_rules rules
      durable_as claimed_by one_more accepted row_of generation_of is_live names bytes_at raised awaits_now one_less kept_by poison_with going freeing plan_of asks_for
      completion_of settled fate_of under_tag queue_tag top_of row_at verdict_of write_verdict submitted eq_lengths called step
      ask first_no handle_names_region buffer_in_pool is_host held_at host_holds_buffer room_in_table lifetime_left gate_open store_writable unpoisoned
      region_writable volume_and_region_match generation_matches length_above0 aligned within_data region_at write_questions
      plan_in plans_in at_first opened freed up_from runs_in map_in span_from map_run map_run_end map_run_left place piece_size pick on_block
  computed = record {
    region = omega arith;
    data_is = refl;
    first_piece = (refl, refl);
    second_piece = (refl, refl);
    counted = record {
      accepted = record { hosted = (may (opened_by (start admitted whole)), tt); made_so = refl; tag = refl };
      followed = (refl, may _, (refl, may _, (refl, may _, (refl, may _, tt))));
      gets = refl;
      is_kept_lem = refl;
    };
    other_kept = refl;
    begins = record { map_is = refl; offset = refl };
    long = refl;
    buffer = refl;
    card_first = λ card. refl;
    card_then = λ card. refl;
    under_way = λ y i lt at quiet. quiet.1.1.0 1 (λ e. omega (arith, e)) (record { j = i; inside = lt; at = at });
    not_there = λ y far. (
      by_row _ (λ n z. n refl) (λ n z. z) (λ r n z. z),
      (
        by_row _ (λ n z. n refl) (λ n z. z) (λ r n z. z),
        (
          by_row _ (λ n z. n refl) (λ n z. let inside : z.j < 512 = z.inside in let at : 1536 + z.j ≡ y = z.at in omega (arith, inside, at, far)) (λ r n z. z),
          (by_row _ (λ n z. n refl) (λ n z. z) (λ r n z. z), tt),
        ),
      ),
    );
    counted₂ = record {
      accepted = record { hosted = (may (opened_by (start admitted whole)), (may _, tt)); made_so = refl; tag = refl };
      followed = (refl, may _, tt);
      gets = refl;
      is_kept_lem = refl;
    };
    earlier_kept = refl;
    begins₂ = record { map_is = refl; offset = refl };
    long₂ = refl;
    buffer₂ = refl;
    card_later = λ card. refl;
    not_there₂ = λ y far. (
      by_row _ (λ n z. let inside : z.j < 512 = z.inside in let at : 1536 + z.j ≡ y = z.at in omega (arith, inside, at, far)) (λ n z. n refl) (λ r n z. z),
      tt,
    );
  }

  -- where a byte is: q begins at p, and its i-th byte is the j-th of a piece that begins at the position a
  placed : (cs : List Call) (q : Request) (p a n at : ℕ) → Begins cs q p → 0 < n → a < 2048 → (piece_size m a n ≡ 512) × (place m a ≡ at)
      → (i j : ℕ) → p + i ≡ a + j → j < 512 → offset_of admitted whole cs q i ≡ at + j
  placed cs q p a n at b some within is i j sum lt =
      let lawful : Lawful m = ((reached_opened (start admitted whole)).sound.each 0 computed.region).lawful in
      (λ k. place (b.map_is k) (b.offset k + i)) ∙ ap (place m) sum
      ∙ (map_laws.one_piece m lawful a n some (let z = computed.data_is in omega (arith, z, within))).consecutive j (let z = is.0 in omega (arith, z, lt))
      ∙ ap (λ (y : ℕ). y + j) is.1

  -- a byte that a piece of 512 equal bytes replaces
  replaced : (card : Card) (at b i : ℕ) → i < 512 → pwrite card at (replicate 512 b) (at + i) ≡ b
  replaced card at b i lt = transfer_laws.replaces card at (replicate 512 b) i (let z = length-replicate {A = ℕ} 512 b in omega (arith, z, lt)) ∙ get_or-replicate 512 i b 0 lt

  -- a byte of a piece at 8,192: where it is quiet there the byte stands, by the theorem
  quiet_byte : (cs : List Call) (t : ℕ) (q : Request) (then : List Call) (c : Completion) (bytes : List ℕ) (p : ℕ) → CountedAsKept admitted whole cs t q then c bytes → Begins cs q p
      → ((y : ℕ) → 2048 ≤ y → QuietAt (submitted_to admitted whole cs q) (behind admitted whole cs q then) t y)
      → (i j : ℕ) → p + i ≡ 1024 + j → j < 512 → i < q.length → Quiet admitted whole cs t q then i (8192 + j)
  unfolding Kept
  quiet_byte cs t q then c bytes p z b not_there i j sum lt inside =
      let at : offset_of admitted whole cs q i ≡ 8192 + j = placed cs q p 1024 512 8192 b (omega arith) (omega arith) computed.second_piece i j sum lt in
      let quiet = not_there (offset_of admitted whole cs q i) (omega (arith, at)) in
      record {
        at = at;
        quiet = quiet;
        stands = λ card. (kept (start admitted whole) (before admitted whole cs) (submits admitted whole cs q) t q z.accepted card (behind admitted whole cs q then) z.followed c bytes [] z.gets z.is_kept_lem).completed i inside quiet;
      }

  -- ---- the bytes of the first piece

  at_first_lem : (i : ℕ) → i < 512 → offset_of admitted whole [] plain i ≡ 1536 + i
  at_first_lem i lt = placed [] plain 512 512 1024 1536 computed.begins (omega arith) (omega arith) computed.first_piece i i refl lt

  own_first : (i : ℕ) → i < 512 → own_byte admitted whole [] plain i ≡ 5
  own_first i lt =
      ap (λ (l : List ℕ). get_or l i 0) computed.buffer ∙ get_or-append (replicate 512 5) (replicate 512 6) 0 i (let z = length-replicate {A = ℕ} 512 5 in omega (arith, z, lt)) ∙ get_or-replicate 512 i 5 0 lt

  the_others : (card : Card) (i : ℕ) → i < 512 → card_byte admitted whole [] plain meanwhile card i ≡ 9
  the_others card i lt =
      (λ k. computed.card_then card k (at_first_lem i lt k))
      ∙ transfer_laws.others (pwrite (pwrite card 1536 (replicate 512 5)) 1536 (replicate 512 9)) 8192 (replicate 512 6) (1536 + i) (λ j inside same. omega (arith, lt, same))
      ∙ replaced (pwrite card 1536 (replicate 512 5)) 1536 9 i lt

  -- ---- the bytes of the write over the second piece

  all_quiet : (i : ℕ) → i < 512 → Quiet admitted whole earlier 1 over_second completing i (8192 + i)
  all_quiet i lt = quiet_byte earlier 1 over_second completing written_second (replicate 1024 9) 1024 computed.counted₂ computed.begins₂ computed.not_there₂ i i refl lt (let z = computed.long₂ in omega (arith, z, lt))

  own_second : (i : ℕ) → i < 512 → own_byte admitted whole earlier over_second i ≡ 9
  own_second i lt = ap (λ (l : List ℕ). get_or l i 0) computed.buffer₂ ∙ get_or-replicate 1024 i 9 0 (omega (arith, lt))

  own_earlier : (i : ℕ) → i < 512 → own_byte admitted whole [] plain (512 + i) ≡ 6
  own_earlier i lt =
      ap (λ (l : List ℕ). get_or l (512 + i) 0) computed.buffer ∙ (λ k. get_or (replicate 512 5 ++ replicate 512 6) (sym (length-replicate {A = ℕ} 512 5) k + i) 0)
      ∙ get_or-append-add (replicate 512 5) (replicate 512 6) i 0 ∙ get_or-replicate 512 i 6 0 lt

  the_earlier : (card : Card) (i : ℕ) → i < 512 → card_byte admitted whole earlier over_second later card i ≡ 6
  the_earlier card i lt = (λ k. computed.card_later card k ((all_quiet i lt).at k)) ∙ replaced (pwrite (pwrite card 8192 (replicate 512 9)) 1536 (replicate 512 5)) 8192 6 i lt

pub overlapped : Overlapped
overlapped =
    let admitted = orders.admitted in
    let whole = orders.whole in
    let z = computed admitted whole in
    record {
      admitted = admitted;
      whole = whole;
      counted = z.counted;
      quiet = λ j lt. quiet_byte admitted whole [] 0 plain meanwhile written _ 512 z.counted z.begins z.not_there (512 + j) j (omega arith) lt (let y = z.long in omega (arith, y, lt));
      covered = record {
        at = at_first_lem admitted whole;
        not_quiet = λ i lt. z.under_way (offset_of admitted whole [] plain i) i lt (sym (at_first_lem admitted whole i lt));
        first_answered = λ card i lt. (λ k. z.card_first card k (at_first_lem admitted whole i lt k)) ∙ replaced admitted whole card 1536 5 i lt ∙ sym (own_first admitted whole i lt);
        its_own = own_first admitted whole;
        the_others = the_others admitted whole;
        stands_not = λ card i lt same. let equal : ◌≡◌ {A = ℕ} 9 5 = sym (the_others admitted whole card i lt) ∙ same ∙ own_first admitted whole i lt in omega (arith, equal);
        other_kept = z.other_kept;
      };
    }

pub afterwards : Afterwards
afterwards =
    let admitted = orders.admitted in
    let whole = orders.whole in
    let z = computed admitted whole in
    record {
      admitted = admitted;
      whole = whole;
      counted = z.counted₂;
      quiet = all_quiet admitted whole;
      its_own = own_second admitted whole;
      earlier_own = own_earlier admitted whole;
      the_earlier = the_earlier admitted whole;
      stands_not = λ card i lt same. let equal : ◌≡◌ {A = ℕ} 6 9 = sym (the_earlier admitted whole card i lt) ∙ same ∙ own_second admitted whole i lt in omega (arith, equal);
      earlier_kept = z.earlier_kept;
    }
