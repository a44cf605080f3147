-- A write off the block, by computation: every definition on the way is opened, `step`'s and the Rust's.
use mathlib.Core.Path.{◌≡◌, refl, sym, ap, ◌∙◌}
use Prim.Native.Nat.{ℕ}
use native.Mathlib.Omega.{arith}
use Rattle.layout.specs.Pick.{pick}
use Rattle.layout.specs.Block.{on_block}
use Rattle.layout.proofs.Tests.{not_both}
use Rattle.regionmap.specs.Map.{span_from, map_run, map_run_end, map_run_left, place, piece_size}
use Rattle.regionmap.specs.Words.{runs_in, map_in}
use Rattle.completion.specs.Numbers.{number}
use Rattle.model.specs.State.{freed, up_from}
use Rattle.model.specs.Opening.{at_first, opened, plan_in, plans_in}
use Rattle.step.specs.Questions.{ask, first_no, handle_names_region, buffer_in_pool, is_host, held_at, host_holds_buffer, room_in_table, lifetime_left, gate_open, store_writable, unpoisoned}
use Rattle.step.specs.Questions.{region_writable, volume_and_region_match, generation_matches, length_above0, aligned, within_data, region_at, write_questions, read_questions, range_from}
use Rattle.step.specs.Rules.{first_of, piece_of}
use Rattle.step.specs.Step.{durable_as, claimed_by, one_more, accepted, plan_of, asks_for, queue_tag, top_of, row_at, verdict_of, write_verdict, read_verdict, submitted, eq_lengths, called, step}
use Rattle.step.specs.Run.{leave, done, next, reply_to, run}
use Rattle.step.specs.Figures.{figures_opening, figures_plan, figures_lengths, figures_table, asking, in_buffer}
use Rattle.rusttable.specs.Table.{Submitter}
use Rattle.rusttable.specs.RegionMap.{run as rustRunAt, searched, run_of, locate, run_end, run_left}
use Rattle.rusttable.specs.Functions.{given, tried, set_len, ctx, ctx_range, unpoisoned as rustUnpoisoned, ready, ready_for, enter, owns, empty_row, new, full, popped, claim, row_with, with_rows, start, with_table, check, first_piece, admit, with_or_not, submit, issue, told_as, issued_with, write}
use Rattle.rusttable.specs.Domain.{compared, known_handle, at_once, write_offset_on_block, unjoined_from, unjoined}
use Rattle.rusttable.specs.AsStep.{buf_of, pos_of, table_of, submitter_of}
use Rattle.rusttable.specs.Histories.{rust_step, rust_run, rust_opened, verdict, verdict_as, refused_by, handed_by, handed, is_submission, MadeIn, HistoryIn}
use Rattle.rusttable.specs.OffBlock.{both, in_rust, req_at, issued_at, first_piece_in, OffBlock}

-- how many rows are live behind the two calls
two_live : in_rust.0.table.live ≡ 2
unfolding in_rust rust_run rust_step rust_opened handed handed_by verdict verdict_as refused_by is_submission buf_of pos_of leave done next
    given tried set_len ctx ctx_range rustUnpoisoned ready ready_for enter owns empty_row new full popped claim row_with with_rows start with_table check first_piece admit with_or_not submit issue told_as issued_with write
    rustRunAt searched run_of locate run_end run_left figures_opening figures_plan figures_lengths figures_table asking in_buffer plan_in plans_in at_first opened up_from runs_in map_in pick
two_live = refl

one_live : (n : ℕ) → (submitter_of (run figures_table both) n).table.live ≡ 1
unfolding submitter_of table_of run leave done next figures_opening figures_plan figures_lengths figures_table asking in_buffer first_of piece_of
    durable_as claimed_by one_more accepted plan_of asks_for queue_tag top_of row_at verdict_of write_verdict submitted eq_lengths called step
    ask first_no handle_names_region buffer_in_pool is_host held_at host_holds_buffer room_in_table lifetime_left gate_open store_writable unpoisoned
    region_writable volume_and_region_match generation_matches length_above0 aligned within_data region_at write_questions
    plan_in plans_in at_first opened freed up_from runs_in map_in span_from map_run map_run_end map_run_left place piece_size pick on_block
one_live n = refl

pub off_block_lem : OffBlock
unfolding in_rust rust_run rust_step rust_opened handed handed_by verdict verdict_as refused_by is_submission buf_of pos_of leave done next reply_to req_at issued_at first_piece_in HistoryIn MadeIn
    given tried set_len ctx ctx_range rustUnpoisoned ready ready_for enter owns empty_row new full popped claim row_with with_rows start with_table check first_piece admit with_or_not submit issue told_as issued_with write
    rustRunAt searched run_of locate run_end run_left figures_opening figures_plan figures_lengths figures_table asking in_buffer first_of piece_of number
    durable_as claimed_by one_more accepted plan_of asks_for queue_tag top_of row_at verdict_of write_verdict read_verdict submitted eq_lengths called step
    ask first_no handle_names_region buffer_in_pool is_host held_at host_holds_buffer room_in_table lifetime_left gate_open store_writable unpoisoned
    region_writable volume_and_region_match generation_matches length_above0 aligned within_data region_at write_questions read_questions range_from
    plan_in plans_in at_first opened freed up_from runs_in map_in span_from map_run map_run_end map_run_left place piece_size pick on_block
    compared known_handle at_once write_offset_on_block unjoined_from unjoined
off_block_lem = record {
  nine = refl;
  unchanged = refl;
  then_tag_0 = refl;
  issued = refl;
  but_for_the_block = (refl, refl, refl, refl);
  call_at_hand = record { numbers = refl; handle = refl; refusal = refl; maps = refl; blocks = refl };
  outside = λ h. not_both h.1.blocks refl;
  differ = λ n e. omega (arith, sym two_live ∙ ap (λ (r : Submitter). r.table.live) e ∙ one_live n);
  length_off_the_block = record { numbers = refl; handle = refl; refusal = refl; maps = refl; blocks = refl };
  read_off_the_block = record { numbers = refl; handle = refl; refusal = refl; maps = refl; blocks = refl };
}
