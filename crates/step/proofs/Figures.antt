-- Document 01's figures, by computation: every definition on the way is opened; only the generation after rounds is by induction (Rounds.antt).
use mathlib.Core.Path.{refl}
use native.Mathlib.Omega.{arith}
use Rattle.layout.specs.Pick.{pick}
use Rattle.layout.specs.Block.{power_below, is_block, on_block}
use Rattle.regionmap.specs.Map.{span_from, map_run, map_run_end, map_run_left, place, piece_size, ascends, spans_from, spans, extent, extents, apart, apart_from, all_apart, all_within}
use Rattle.regionmap.specs.Words.{runs_in, map_in}
use Rattle.completion.specs.Numbers.{number, values, context_values}
use Rattle.model.specs.State.{freed, up_from, receipt_made}
use Rattle.model.specs.Opening.{among, distinct, ids_rule, runs_on_block, blocks_rule, map_rule, region_rule, each_region, all_extents, apart_rule, within_rule, all_true, number_rules, length_rules, region_rules, admits, at_first, opened, plan_in, plans_in, listed, opens}
use Rattle.step.specs.Questions.{range_from, ask, first_no, handle_names_region, buffer_in_pool, is_host, held_at, host_holds_buffer, room_in_table, lifetime_left, gate_open, store_writable, unpoisoned}
use Rattle.step.specs.Questions.{region_writable, volume_and_region_match, generation_matches, length_above0, aligned, within_data, region_at}
use Rattle.step.specs.Questions.{write_questions, read_questions}
use Rattle.step.specs.Rules.{op_of, first_of, last_of, range_of, piece_of, piece_length, buffer_as, error_of, turned_back, is_written, cause_of, failed_read, read_outcome, read_length, ticket_of, unflushed, written_as, last_piece, above_piece, is_refusal, first_refused, is_whole, goes_on, split_after, piece_answered, flush_outcome, flush_ends, answer_rules, flush_rules, rules}
use Rattle.step.specs.Step.{durable_as, claimed_by, one_more, accepted, row_of, generation_of, is_live, names, bytes_at, raised, awaits_now, one_less, kept_by, poison_with, going, freeing, plan_of, asks_for}
use Rattle.step.specs.Step.{completion_of, rejection, settled, fate_of, under_tag, given_back, taken, with_regions, marked, with_forced}
use Rattle.step.specs.Step.{queue_tag, top_of, row_at, verdict_of, write_verdict, read_verdict, submitted, eq_lengths, called, step}
use Rattle.step.specs.Laws.{issued_up_to}
use Rattle.step.specs.Figures.{figures_opening, figures_plan, figures_lengths, figures_table, asking, reply_after, table_after, number_of, values_of, durably, in_buffer, range_there, by_write, long_opening, receipt_synced, synced, ticket_there, Figures}
use Rattle.step.proofs.Rounds.{generation_after}

pub figures : Figures
unfolding figures_opening figures_plan figures_lengths figures_table asking reply_after table_after durably in_buffer range_there by_write long_opening receipt_synced synced ticket_there number_of number values_of values context_values range_from issued_up_to
    op_of first_of last_of range_of piece_of piece_length buffer_as error_of turned_back is_written cause_of failed_read read_outcome read_length ticket_of unflushed written_as last_piece
    above_piece is_refusal first_refused is_whole goes_on split_after piece_answered flush_outcome flush_ends answer_rules flush_rules rules receipt_made
    durable_as claimed_by one_more accepted row_of generation_of is_live names bytes_at raised awaits_now one_less kept_by poison_with going freeing plan_of asks_for
    completion_of rejection settled fate_of under_tag given_back taken with_regions marked with_forced
    queue_tag top_of row_at verdict_of write_verdict read_verdict submitted eq_lengths called step
    ask first_no handle_names_region buffer_in_pool is_host held_at host_holds_buffer room_in_table lifetime_left gate_open store_writable unpoisoned
    region_writable volume_and_region_match generation_matches length_above0 aligned within_data region_at write_questions read_questions
    plan_in plans_in listed opens all_true number_rules length_rules region_rules admits at_first opened freed up_from
    among distinct ids_rule runs_on_block blocks_rule map_rule region_rule each_region all_extents apart_rule within_rule
    runs_in map_in span_from map_run map_run_end map_run_left place piece_size ascends spans_from spans extent extents apart apart_from all_apart all_within
    pick power_below is_block on_block
figures = record {
  opens_them = refl;
  write_512 = refl;
  at_1536 = refl;
  two_pieces = refl;
  one_piece = refl;
  too_long = refl;
  far_out = refl;
  read_256 = refl;
  write_256 = refl;
  read_256_values = refl;
  write_256_values = refl;
  write_256_empty = refl;
  write_1537 = refl;
  write_last = refl;
  empty = refl;
  answer_512 = refl;
  done_then = refl;
  written = refl;
  next_tag = refl;
  live_and_ready = refl;
  read_612 = refl;
  write_unknown = refl;
  poisons = refl;
  opens_long = refl;
  generation_after = generation_after;
  reaches_the_last = generation_after 4294967295 (omega arith);
  last_generation = generation_after 4294967296 (omega arith);
  not_synced = refl;
  synced_7 = refl;
  asks_flush = refl;
  refused_first = refl;
  lost_buffer = refl;
  unknown_tag = refl;
  not_awaited = refl;
  above_the_piece = refl;
}
