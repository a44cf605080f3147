-- The runs of specs/KeptRuns.antt, by computation: every definition on the way is opened.
use mathlib.Core.Path.{refl}
use Rattle.layout.specs.Pick.{pick}
use Rattle.layout.specs.Block.{on_block}
use Rattle.regionmap.specs.Map.{span_from, map_run, map_run_end, map_run_left, place, piece_size}
use Rattle.regionmap.specs.Words.{runs_in, map_in}
use Rattle.posix.specs.Posix.{within, pwrite}
use Rattle.iobuf.specs.Turn.{turned, stretch, with_stretch}
use Rattle.model.specs.State.{freed, up_from, receipt_made}
use Rattle.model.specs.Opening.{at_first, opened, plan_in, plans_in}
use Rattle.step.specs.Questions.{ask, first_no, handle_names_region, buffer_in_pool, is_host, held_at, host_holds_buffer, room_in_table, lifetime_left, gate_open, store_writable, unpoisoned}
use Rattle.step.specs.Questions.{region_writable, volume_and_region_match, generation_matches, length_above0, aligned, within_data, region_at, write_questions}
use Rattle.step.specs.Rules.{first_of, last_of, range_of, piece_of, piece_length, buffer_as, error_of, turned_back, is_written, cause_of, ticket_of, written_as, last_piece, above_piece, is_refusal, first_refused, is_whole, goes_on, split_after, piece_answered, flush_outcome, flush_ends, answer_rules, flush_rules, rules}
use Rattle.step.specs.Step.{durable_as, claimed_by, one_more, accepted, row_of, generation_of, is_live, names, bytes_at, raised, awaits_now, one_less, kept_by, poison_with, going, freeing, plan_of, asks_for, marked, with_forced, with_regions}
use Rattle.step.specs.Step.{completion_of, rejection, settled, fate_of, under_tag, queue_tag, top_of, row_at, verdict_of, write_verdict, submitted, eq_lengths, called, step}
use Rattle.step.specs.Lists.{brought_by, brought, is_away, plan_at, is_brought, with_bytes, added_by, gets, takes_whole, wrote_by, tag_in, card_by, card_after}
use Rattle.step.specs.Run.{leave, done, next, reply_to, run, plans_of, opened_by, after}
use Rattle.step.specs.Demand2.{NoPiece, PiecesDone, buffer_then, is_kept}
use Rattle.step.specs.Figures.{figures_plan, asking, durably}
use Rattle.step.specs.Orders.{opening, lengths, filled, in_turn}
use Rattle.step.specs.KeptRuns.{counted_kept, KeptRuns}
use Rattle.step.proofs.Orders.{orders}

pub kept_runs : KeptRuns
unfolding opening lengths figures_plan asking durably filled in_turn plans_of opened_by after counted_kept is_kept buffer_then NoPiece PiecesDone
    brought_by brought is_away plan_at is_brought with_bytes added_by gets takes_whole wrote_by tag_in card_by card_after within pwrite
    leave done next reply_to run turned stretch with_stretch
    first_of last_of range_of piece_of piece_length buffer_as error_of turned_back is_written cause_of ticket_of written_as last_piece receipt_made
    above_piece is_refusal first_refused is_whole goes_on split_after piece_answered flush_outcome flush_ends answer_rules flush_rules rules
    durable_as claimed_by one_more accepted row_of generation_of is_live names bytes_at raised awaits_now one_less kept_by poison_with going freeing plan_of asks_for marked with_forced with_regions
    completion_of rejection settled fate_of under_tag queue_tag top_of row_at verdict_of write_verdict submitted eq_lengths called step
    ask first_no handle_names_region buffer_in_pool is_host held_at host_holds_buffer room_in_table lifetime_left gate_open store_writable unpoisoned
    region_writable volume_and_region_match generation_matches length_above0 aligned within_data region_at write_questions
    plan_in plans_in at_first opened freed up_from runs_in map_in span_from map_run map_run_end map_run_left place piece_size pick on_block
kept_runs = record {
  admitted = orders.admitted;
  whole = orders.whole;
  kept = refl;
  stands = λ card. (refl, refl);
  short_first = refl;
  short_last = refl;
  lost_first = refl;
  lost_last = refl;
  failed = refl;
  refused = refl;
  pieces_done = λ named. tt;
  none_yet_lem = refl;
  answered = λ card. (refl, refl);
  receipt = refl;
  completed = λ card. (refl, refl);
}
