-- The two orders of crate step's Orders meet demand 3's suppositions, by computation: every definition on the way is opened.
use mathlib.Core.Path.{◌≡◌, refl, ◌∙◌, subst}
use mathlib.Core.Bool.{true, false}
use mathlib.Core.List.{List, [], ◌∷◌}
use Prim.Native.Nat.{ℕ, zero, suc}
use lib.ListN.{length, replicate}
use Rattle.layout.specs.Pick.{pick}
use Rattle.layout.specs.Block.{on_block}
use Rattle.layout.proofs.Tests.{not_both}
use Rattle.regionmap.specs.Map.{span_from, map_run, map_run_end, map_run_left, place, piece_size}
use Rattle.regionmap.specs.Words.{runs_in, map_in}
use Rattle.iobuf.specs.Turn.{turned, stretch, with_stretch}
use Rattle.platform.specs.declared.Answer.TheVariants.{Count}
use Rattle.model.specs.declared.Call.TheVariants.{Write, ReadPage, Take}
use Rattle.model.specs.State.{State, freed, up_from, live_rows, awaiting}
use Rattle.model.specs.Opening.{at_first, opened, plan_in, plans_in, opens}
use Rattle.step.specs.Questions.{ask, first_no, handle_names_region, buffer_in_pool, is_host, held_at, host_holds_buffer, room_in_table, lifetime_left, gate_open, store_writable, unpoisoned}
use Rattle.step.specs.Questions.{region_writable, volume_and_region_match, generation_matches, length_above0, aligned, within_data, region_at, write_questions, read_questions}
use Rattle.step.specs.Rules.{first_of, last_of, piece_of, piece_length, Input.answered, buffer_as, turned_back, is_written, read_outcome, read_length, ticket_of, written_as, last_piece, above_piece, is_refusal, first_refused, is_whole, goes_on, split_after, piece_answered, answer_rules, rules, range_start, range_end}
use Rattle.step.specs.Step.{durable_as, claimed_by, one_more, accepted, row_of, generation_of, is_live, names, bytes_at, raised, awaits_now, one_less, kept_by, poison_with, going, freeing, plan_of, asks_for}
use Rattle.step.specs.Step.{completion_of, settled, fate_of, under_tag, given_back, taken, queue_tag, top_of, row_at, verdict_of, write_verdict, read_verdict, submitted, eq_lengths, called, step}
use Rattle.step.specs.Sound.{Sound}
use Rattle.step.specs.Run.{Made.calls, Event, leave, done, next, reply_to, run, plans_of, opened_by, after}
use Rattle.step.specs.Lists.{brought_by, brought, is_away, loose, plan_at, left_in, Given, given_as, given_by, given, tag_in, tag_at, Hosted}
use Rattle.step.specs.Demand3.{listed_call, is_listed, Fits, AllDone, GivenAlike, Supposed}
use Rattle.step.specs.Figures.{figures_plan, asking, answers}
use Rattle.step.specs.Orders.{opening, lengths, reading, filled, in_turn, start, history, order₁, order₂}
use Rattle.step.proofs.ProjectionReached.{reached_opened}
use Rattle.step.proofs.Projection.{reached_after}
use Rattle.examples.specs.Acts.{Act, Act.makes, made_in, leaves_of, lengths_of, events_of}
use Rattle.examples.specs.OrdersSupposed.{OrdersSupposed}
use Rattle.examples.proofs.Acts.{permits, permitted, acts_hosted, fair_to, fair_in, fair, fits, acts_fit}
use Rattle.examples.proofs.Beside.{beside, Laid, apart_of}

abbrev submissions : List Act
submissions = makes (calls (Write (asking 512 1024))) ∷ makes (calls (ReadPage reading)) ∷ []

abbrev first : List Act
first = makes (calls (answers 0 512)) ∷ makes (calls (answers 0 512)) ∷ makes (calls Take) ∷ makes (calls (answers 1 100)) ∷ makes (calls Take) ∷ []

abbrev second : List Act
second = makes (calls (answers 1 100)) ∷ makes (calls (answers 0 512)) ∷ makes (calls (answers 0 512)) ∷ makes (calls Take) ∷ makes (calls Take) ∷ []

-- past the two rows there is none
by_row : (P : ℕ → Type 0) → P 0 → P 1 → ((r : ℕ) → P (suc (suc r))) → (r : ℕ) → P r
by_row P a b more zero = a
by_row P a b more (suc zero) = b
by_row P a b more (suc (suc r)) = more r

module _ (admitted : opens opening figures_plan lengths ≡ true) (whole : length filled ≡ lengths.pool) where
  abbrev s : State
  s = after (start admitted whole) (history admitted whole)

  abbrev l₁ : List Event
  l₁ = order₁ admitted whole

  abbrev l₂ : List Event
  l₂ = order₂ admitted whole

  -- what the write and the read are given, in both orders
  abbrev whole_twice : List Given
  whole_twice = (answered (Count 512) true 0, []) ∷ (answered (Count 512) true 0, []) ∷ []

  abbrev hundred : List Given
  hundred = (answered (Count 100) true 0, replicate 512 9) ∷ []

  record Computed : Type 0 where
    permitted_all : permitted (opened_by (start admitted whole)) submissions ≡ true
    history_is : events_of (opened_by (start admitted whole)) submissions ≡ history admitted whole
    fair₁ : fits s first ≡ true
    first_is : events_of s first ≡ l₁
    fair₂ : fits s second ≡ true
    second_is : events_of s second ≡ l₂
    laid : Laid s 2048
    none_else : (r : ℕ) → is_live (row_at s (suc (suc r))).awaits ≡ false
    write₁ : given s l₁ (tag_at s 0) ≡ whole_twice
    write₂ : whole_twice ≡ given s l₂ (tag_at s 0)
    read₁ : given s l₁ (tag_at s 1) ≡ hundred
    read₂ : hundred ≡ given s l₂ (tag_at s 1)
    done₁ : (r : ℕ) → is_live (row_at (run s l₁) r).awaits ≡ false
    done₂ : (r : ℕ) → is_live (row_at (run s l₂) r).awaits ≡ false

  computed : Computed
  unfolding opening lengths figures_plan asking reading filled in_turn plans_of opened_by after
      permits permitted fair_to fair_in fair fits made_in leaves_of lengths_of events_of beside range_start range_end is_listed listed_call
      brought_by brought is_away loose plan_at left_in given_as given_by given tag_in tag_at leave done next reply_to run turned stretch with_stretch
      first_of last_of piece_of piece_length buffer_as turned_back is_written read_outcome read_length ticket_of written_as last_piece
      above_piece is_refusal first_refused is_whole goes_on split_after piece_answered answer_rules rules
      durable_as claimed_by one_more accepted row_of generation_of is_live names bytes_at raised awaits_now one_less kept_by poison_with going freeing plan_of asks_for
      completion_of settled fate_of under_tag given_back taken queue_tag top_of row_at verdict_of write_verdict read_verdict submitted eq_lengths called step
      ask first_no handle_names_region buffer_in_pool is_host held_at host_holds_buffer room_in_table lifetime_left gate_open store_writable unpoisoned
      region_writable volume_and_region_match generation_matches length_above0 aligned within_data region_at write_questions read_questions
      plan_in plans_in at_first opened freed up_from live_rows awaiting runs_in map_in span_from map_run map_run_end map_run_left place piece_size pick on_block
  computed = record {
    permitted_all = refl;
    history_is = refl;
    fair₁ = refl;
    first_is = refl;
    fair₂ = refl;
    second_is = refl;
    laid = record {
      capacity_is = refl;
      regions = refl;
      handles = by_row _ refl refl (λ r. refl);
      inside = by_row _ refl refl (λ r. refl);
      all_beside = by_row _ (by_row _ refl refl (λ k. refl)) (by_row _ refl refl (λ k. refl)) (λ r k. refl);
    };
    none_else = λ r. refl;
    write₁ = refl;
    write₂ = refl;
    read₁ = refl;
    read₂ = refl;
    done₁ = by_row _ refl refl (λ r. refl);
    done₂ = by_row _ refl refl (λ r. refl);
  }

  hosted : Hosted (opened_by (start admitted whole)) (history admitted whole)
  hosted =
      subst (Hosted (opened_by (start admitted whole))) computed.history_is
      (acts_hosted (opened_by (start admitted whole)) submissions (reached_opened (start admitted whole)).sound computed.permitted_all)

  sound : Sound s
  sound = (reached_after (start admitted whole) (history admitted whole) hosted).sound

  supposed : Supposed s l₁ l₂
  unfolding GivenAlike AllDone
  supposed = record {
    apart = apart_of s sound 2048 computed.laid;
    fits₁ = subst (Fits s) computed.first_is (acts_fit s first sound computed.fair₁);
    fits₂ = subst (Fits s) computed.second_is (acts_fit s second sound computed.fair₂);
    alike = by_row (λ r. is_live (row_at s r).awaits ≡ true → given s l₁ (tag_at s r) ≡ given s l₂ (tag_at s r))
        (λ live. computed.write₁ ∙ computed.write₂)
        (λ live. computed.read₁ ∙ computed.read₂)
        (λ r live. absurd (not_both live (computed.none_else r)));
    done₁ = computed.done₁;
    done₂ = computed.done₂;
  }

  pub orders_supposed : OrdersSupposed admitted whole
  orders_supposed = record { hosted = hosted; supposed = supposed }
