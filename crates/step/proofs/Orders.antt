-- Demand 3's claim of the two orders of specs/Orders.antt, by computation: every definition on the way is opened.
use mathlib.Core.Path.{◌≡◌, refl}
use mathlib.Core.List.{[], ◌∷◌, ◌++◌}
use Prim.Native.Nat.{ℕ, zero, suc}
use mathlib.Core.Bool.{true}
use native.Mathlib.Omega.{arith}
use lib.ListN.{length, replicate}
use Rattle.layout.specs.Pick.{pick}
use Rattle.layout.specs.Block.{power_below, is_block, on_block}
use Rattle.layout.proofs.Tests.{not_both}
use Rattle.regionmap.specs.Map.{span_from, map_run, map_run_end, map_run_left, place, piece_size, ascends, spans_from, spans, extent, extents, apart, apart_from, all_apart, all_within}
use Rattle.regionmap.specs.Words.{runs_in, map_in}
use Rattle.posix.specs.Posix.{pwrite}
use Rattle.iobuf.specs.Turn.{turned, stretch, with_stretch}
use Rattle.completion.specs.declared.Outcome.TheVariants.{Written, Read as readTo}
use Rattle.std.specs.declared.option.Option.TheVariants.{Some as Back}
use Rattle.model.specs.State.{freed, up_from, live_rows, awaiting}
use Rattle.model.specs.Opening.{among, distinct, ids_rule, runs_on_block, blocks_rule, map_rule, region_rule, each_region, all_extents, apart_rule, within_rule, all_true, number_rules, length_rules, region_rules, admits, at_first, opened, plan_in, plans_in, listed, opens}
use Rattle.step.specs.Questions.{ask, first_no, handle_names_region, buffer_in_pool, is_host, held_at, host_holds_buffer, room_in_table, lifetime_left, gate_open, store_writable, unpoisoned}
use Rattle.step.specs.Questions.{region_writable, volume_and_region_match, generation_matches, length_above0, aligned, within_data, region_at}
use Rattle.step.specs.Questions.{write_questions, read_questions}
use Rattle.step.specs.Rules.{first_of, last_of, piece_of, piece_length, buffer_as, turned_back, is_written, read_outcome, read_length, ticket_of, written_as, last_piece, above_piece, is_refusal, first_refused, is_whole, goes_on, split_after, piece_answered, answer_rules, rules}
use Rattle.step.specs.Step.{durable_as, claimed_by, one_more, accepted, row_of, generation_of, is_live, names, bytes_at, raised, awaits_now, one_less, kept_by, poison_with, going, freeing, plan_of, asks_for}
use Rattle.step.specs.Step.{completion_of, settled, fate_of, under_tag, given_back, taken, queue_tag, top_of, row_at, verdict_of, write_verdict, read_verdict, submitted, eq_lengths, called, step}
use Rattle.step.specs.Lists.{times, brought_by, brought, is_away, loose, plan_at, is_brought, with_bytes, added_by, gets, added, took_by, takings, takes_whole, wrote_by, tag_in, card_by, card_after, tag_at}
use Rattle.step.specs.Run.{leave, done, next, reply_to, run, plans_of, opened_by, after}
use Rattle.step.specs.Alone.{none_yet, put_at, tag_given, begins, with_left, onward, blamed, alone_fate, feeds, heard_call, heard, alone_next, alones}
use Rattle.step.specs.Demand3.{alones_after, alone_at}
use Rattle.step.specs.Figures.{figures_plan, asking, ticket_there}
use Rattle.step.specs.Orders.{opening, lengths, filled, reading, in_turn, Orders}

-- past the two rows there is none
by_row : (P : ℕ → Type 0) → P 0 → P 1 → ((r : ℕ) → P (suc (suc r))) → (r : ℕ) → P r
by_row P a b more zero = a
by_row P a b more (suc zero) = b
by_row P a b more (suc (suc r)) = more r

-- past the five calls of an order there is none
by_call : (P : ℕ → Type 0) → P 0 → P 1 → P 2 → P 3 → P 4 → P 5 → ((n : ℕ) → P (suc (suc (suc (suc (suc (suc n))))))) → (n : ℕ) → P n
by_call P a b c d e f more zero = a
by_call P a b c d e f more (suc zero) = b
by_call P a b c d e f more (suc (suc zero)) = c
by_call P a b c d e f more (suc (suc (suc zero))) = d
by_call P a b c d e f more (suc (suc (suc (suc zero)))) = e
by_call P a b c d e f more (suc (suc (suc (suc (suc zero))))) = f
by_call P a b c d e f more (suc (suc (suc (suc (suc (suc n)))))) = more n

-- two rows in either order
either_way : (r a b : ℕ) → times r (a ∷ b ∷ []) ≡ times r (b ∷ a ∷ [])
unfolding times
either_way r a b = omega arith

admitted : opens opening figures_plan lengths ≡ true
unfolding opening lengths figures_plan
    plan_in plans_in listed opens all_true number_rules length_rules region_rules admits
    among distinct ids_rule runs_on_block blocks_rule map_rule region_rule each_region all_extents apart_rule within_rule
    runs_in map_in span_from map_run map_run_end map_run_left place piece_size ascends spans_from spans extent extents apart apart_from all_apart all_within
    pick power_below is_block on_block
admitted = refl

whole : length filled ≡ lengths.pool
unfolding filled lengths
whole = refl

pub orders : Orders
unfolding opening lengths figures_plan asking ticket_there reading filled in_turn plans_of opened_by after alones_after alone_at
    brought_by brought is_away loose plan_at is_brought with_bytes added_by gets added took_by takings takes_whole wrote_by tag_in card_by card_after tag_at
    none_yet put_at tag_given begins with_left onward blamed alone_fate feeds heard_call heard alone_next alones
    leave done next reply_to run turned stretch with_stretch
    first_of last_of piece_of piece_length buffer_as turned_back is_written read_outcome read_length ticket_of written_as last_piece
    above_piece is_refusal first_refused is_whole goes_on split_after piece_answered answer_rules rules
    durable_as claimed_by one_more accepted row_of generation_of is_live names bytes_at raised awaits_now one_less kept_by poison_with going freeing plan_of asks_for
    completion_of settled fate_of under_tag given_back taken queue_tag top_of row_at verdict_of write_verdict read_verdict submitted eq_lengths called step
    ask first_no handle_names_region buffer_in_pool is_host held_at host_holds_buffer room_in_table lifetime_left gate_open store_writable unpoisoned
    region_writable volume_and_region_match generation_matches length_above0 aligned within_data region_at write_questions read_questions
    plan_in plans_in at_first opened freed up_from live_rows awaiting runs_in map_in span_from map_run map_run_end map_run_left place piece_size pick on_block
orders = record {
  admitted = admitted;
  whole = whole;
  agreed = λ card. record {
    each = by_row _
        (λ live. record {
          it = (record { tag = 70; outcome = Written (ticket_there 1); buf = Back (record { buffer = 0; len = 1024 }) }, replicate 512 5 ++ replicate 512 6);
          first = refl;
          second = refl;
          alone₁ = refl;
          alone₂ = refl;
        })
        (λ live. record {
          it = (record { tag = 71; outcome = readTo 100; buf = Back (record { buffer = 1; len = 100 }) }, replicate 1024 9);
          first = refl;
          second = refl;
          alone₁ = refl;
          alone₂ = refl;
        })
        (λ r live. absurd (not_both live refl));
    no_more₁ = record {
      count = refl;
      queue = refl;
      balance = by_call _ refl refl refl refl refl refl (λ n. refl);
    };
    no_more₂ = record {
      count = refl;
      queue = refl;
      balance = by_call _ refl refl refl refl refl refl (λ n. refl);
    };
    free_rows = λ r. either_way r 1 0;
    generations = by_row _ (refl {a = 1}) (refl {a = 1}) (λ r. refl {a = 0});
    card_bytes = λ b. refl {a = pwrite (pwrite card 1536 (replicate 512 5)) 8192 (replicate 512 6) b};
  };
}
