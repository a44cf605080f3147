-- What the example of demand 3 comes to by computation: the tests of Acts, the table's replies, what each operation gets in the first list, and where the open
-- operations lie.
use mathlib.Core.Path.{◌≡◌, refl}
use mathlib.Core.Bool.{true, false}
use mathlib.Core.List.{List, [], ◌∷◌, ◌++◌}
use Prim.Native.Nat.{ℕ, zero, suc}
use lib.ListN.{get_or, take, replicate}
use Rattle.layout.specs.Pick.{pick}
use Rattle.layout.specs.Block.{power_below, is_block, on_block}
use Rattle.regionmap.specs.Map.{span_from, map_run, map_run_end, map_run_left, place, piece_size, ascends, spans_from, spans, extent, extents, apart, apart_from, all_apart, all_within}
use Rattle.regionmap.specs.Words.{runs_in, map_in}
use Rattle.iobuf.specs.Turn.{turned, stretch, with_stretch}
use Rattle.platform.specs.declared.Answer.TheVariants.{Count, Error}
use Rattle.platform.specs.declared.Flushed.TheVariants.{Need, Unknown as unsure}
use Rattle.model.specs.State.{freed, up_from, live_rows, awaiting, receipt_made}
use Rattle.model.specs.Opening.{among, distinct, ids_rule, runs_on_block, blocks_rule, map_rule, region_rule, each_region, all_extents, apart_rule, within_rule, all_true, number_rules, length_rules, region_rules, admits, at_first, opened, plan_in, plans_in, listed, opens}
use Rattle.model.specs.Memory.{over}
use Rattle.step.specs.Questions.{ask, first_no, handle_names_region, buffer_in_pool, is_host, held_at, host_holds_buffer, room_in_table, lifetime_left, gate_open, store_writable, unpoisoned}
use Rattle.step.specs.Questions.{region_writable, volume_and_region_match, generation_matches, length_above0, aligned, within_data, region_at}
use Rattle.step.specs.Questions.{write_questions, read_questions}
use Rattle.step.specs.Rules.{op_of, first_of, last_of, range_of, piece_of, piece_length, Input.answered, Input.flushed, buffer_as, error_of, turned_back, is_written, cause_of, failed_read, read_outcome, read_length, ticket_of, written_as, last_piece, above_piece, is_refusal, first_refused, is_whole, goes_on, split_after, piece_answered, flush_outcome, flush_ends, answer_rules, flush_rules, rules, range_start, range_end}
use Rattle.step.specs.Step.{queue_tag, top_of, row_at, verdict_of, write_verdict, read_verdict, durable_as, claimed_by, one_more, accepted, submitted, row_of, generation_of, is_live, names, bytes_at, raised, awaits_now, one_less, kept_by, poison_with}
use Rattle.step.specs.Step.{going, freeing, plan_of, asks_for, completion_of, rejection, settled, fate_of, under_tag, given_back, taken, writes_in, any_writes, oldest, mark_of, looked_up, eq_lengths, called, step, look}
use Rattle.step.specs.Run.{leave, done, next, reply_to, run}
use Rattle.step.specs.Lists.{brought_by, brought, is_away, loose, plan_at, Given, given_as, is_brought, tag_in, tag_at, Completed, with_bytes, added_by, gets}
use Rattle.step.specs.Demand3.{listed_call, is_listed, is_write}
use Rattle.examples.specs.Acts.{made_in, fronted, leaves_of, lengths_of, events_of, replies}
use Rattle.examples.specs.Demand3Lists.{opening, plan, lengths, table, a_byte_short, a_row_more, submissions, s, by_flush, first, second, l₁, l₂, in_two, read_short, read_lost, synced, read_failed, flush_failed, replies₁, replies₂}
use Rattle.examples.proofs.Beside.{beside, Laid}
use Rattle.examples.proofs.Acts.{in_buffer, permits, permitted, fair_to, fair_in, fair, fits, bytes_in, told_by, told, all_come, tells, telling}

pub admitted : opens opening plan lengths ≡ true
unfolding opening plan lengths
    plan_in plans_in listed opens all_true number_rules length_rules region_rules admits
    among distinct ids_rule runs_on_block blocks_rule map_rule region_rule each_region all_extents apart_rule within_rule
    runs_in map_in span_from map_run map_run_end map_run_left place piece_size ascends spans_from spans extent extents apart apart_from all_apart all_within
    pick power_below is_block on_block
admitted = refl

-- ---- by rows

-- past the six rows there is none
pub by_row : (P : ℕ → Type 0) → P 0 → P 1 → P 2 → P 3 → P 4 → P 5 → ((r : ℕ) → P (suc (suc (suc (suc (suc (suc r))))))) → (r : ℕ) → P r
by_row P a b c d e f more zero = a
by_row P a b c d e f more (suc zero) = b
by_row P a b c d e f more (suc (suc zero)) = c
by_row P a b c d e f more (suc (suc (suc zero))) = d
by_row P a b c d e f more (suc (suc (suc (suc zero)))) = e
by_row P a b c d e f more (suc (suc (suc (suc (suc zero))))) = f
by_row P a b c d e f more (suc (suc (suc (suc (suc (suc r)))))) = more r

-- what both lists tell the operation in a row
pub record Alike (r : ℕ) (what : List Given) : Type 0 where
  pub telling₁ : telling s first (tag_at s r) ≡ true
  pub telling₂ : telling s second (tag_at s r) ≡ true
  pub told₁ : told s first (tag_at s r) ≡ what
  pub told₂ : told s second (tag_at s r) ≡ what

-- it is open, and gets one completion in the first list, and its buffer so
pub record GetsFirst (r : ℕ) (what : Completed) : Type 0 where
  pub live : is_live (row_at s r).awaits ≡ true
  pub it : gets s l₁ (tag_at s r) (row_at s r).buffer ≡ what ∷ []

pub record Computed : Type 0 where
  pub permitted_all : permitted table submissions ≡ true
  pub fair₁ : fits s first ≡ true
  pub fair₂ : fits s second ≡ true
  pub replied₁ : replies s l₁ ≡ replies₁
  pub replied₂ : replies s l₂ ≡ replies₂
  pub wrote₁ : (get_or (run s (take 4 l₁)).pool 0 0 ≡ 5) × (get_or (run s (take 5 l₁)).pool 0 0 ≡ 7)
  pub wrote₂ : (get_or (run s (take 10 l₂)).pool 3072 0 ≡ 8) × (get_or (run s (take 11 l₂)).pool 3072 0 ≡ 7)
  pub laid : Laid s 4096
  pub none_else : (r : ℕ) → is_live (row_at s (suc (suc (suc (suc (suc (suc r))))))).awaits ≡ false
  pub alike_0 : Alike 0 ((answered (Count 512) true 0, []) ∷ (answered (Count 512) true 0, []) ∷ [])
  pub alike_1 : Alike 1 ((answered (Count 100) true 0, replicate 100 9 ++ replicate 412 1) ∷ [])
  pub alike_2 : Alike 2 ((answered (Count 512) false 0, replicate 512 4) ∷ [])
  pub alike_3 : Alike 3 ((answered (Count 512) true 4, []) ∷ (flushed (Need 5), []) ∷ [])
  pub alike_4 : Alike 4 ((answered (Count 512) true 0, replicate 512 2) ∷ (answered (Error 5 false) true 0, replicate 30 3 ++ replicate 482 1) ∷ [])
  pub alike_5 : Alike 5 ((answered (Count 512) true 6, []) ∷ (flushed (unsure by_flush), []) ∷ [])
  pub gets_0 : GetsFirst 0 (in_two, replicate 512 5 ++ replicate 512 6)
  pub gets_1 : GetsFirst 1 (read_short, replicate 100 9 ++ replicate 412 1 ++ replicate 512 0)
  pub gets_2 : GetsFirst 2 (read_lost, replicate 512 4 ++ replicate 512 0)
  pub gets_3 : GetsFirst 3 (synced, replicate 512 8 ++ replicate 512 0)
  pub gets_4 : GetsFirst 4 (read_failed, replicate 512 2 ++ replicate 30 3 ++ replicate 482 1)
  pub gets_5 : GetsFirst 5 (flush_failed, replicate 512 10 ++ replicate 512 0)
  pub done₁ : (r : ℕ) → is_live (row_at (run s l₁) r).awaits ≡ false
  pub done₂ : (r : ℕ) → is_live (row_at (run s l₂) r).awaits ≡ false

pub computed : Computed
unfolding s table made_in fronted leaves_of lengths_of events_of replies in_buffer permits permitted fair_to fair_in fair fits bytes_in told_by told all_come tells telling opening plan lengths a_byte_short a_row_more
    next run done leave reply_to step look looked_up called eq_lengths submitted verdict_of write_verdict read_verdict accepted claimed_by one_more top_of row_at queue_tag durable_as
    under_tag names is_live row_of generation_of settled going freeing raised awaits_now one_less kept_by poison_with plan_of asks_for completion_of rejection fate_of taken given_back bytes_at
    rules answer_rules flush_rules piece_answered above_piece first_refused is_refusal is_whole goes_on split_after last_piece turned_back is_written read_outcome failed_read read_length buffer_as written_as flush_outcome flush_ends
    piece_of piece_length first_of last_of range_of op_of error_of cause_of ticket_of receipt_made turned stretch with_stretch over
    ask first_no handle_names_region buffer_in_pool is_host held_at host_holds_buffer room_in_table lifetime_left gate_open store_writable unpoisoned
    region_writable volume_and_region_match generation_matches length_above0 aligned within_data region_at write_questions read_questions
    plan_in plans_in at_first opened freed up_from runs_in map_in span_from map_run map_run_end map_run_left place piece_size pick on_block
    brought brought_by tag_in is_away is_brought given_as loose tag_at plan_at is_listed listed_call is_write range_start range_end
    writes_in any_writes oldest mark_of live_rows awaiting beside gets with_bytes added_by
computed = record {
  permitted_all = refl;
  fair₁ = refl;
  fair₂ = refl;
  replied₁ = refl;
  replied₂ = refl;
  wrote₁ = (refl, refl);
  wrote₂ = (refl, refl);
  laid = record {
    capacity_is = refl;
    regions = refl;
    handles = by_row _ refl refl refl refl refl refl (λ r. refl);
    inside = by_row _ refl refl refl refl refl refl (λ r. refl);
    all_beside = by_row _ (by_row _ refl refl refl refl refl refl (λ r. refl)) (by_row _ refl refl refl refl refl refl (λ r. refl)) (by_row _ refl refl refl refl refl refl (λ r. refl)) (by_row _ refl refl refl refl refl refl (λ r. refl)) (by_row _ refl refl refl refl refl refl (λ r. refl)) (by_row _ refl refl refl refl refl refl (λ r. refl)) (λ r k. refl);
  };
  none_else = λ r. refl;
  alike_0 = record { telling₁ = refl; telling₂ = refl; told₁ = refl; told₂ = refl };
  alike_1 = record { telling₁ = refl; telling₂ = refl; told₁ = refl; told₂ = refl };
  alike_2 = record { telling₁ = refl; telling₂ = refl; told₁ = refl; told₂ = refl };
  alike_3 = record { telling₁ = refl; telling₂ = refl; told₁ = refl; told₂ = refl };
  alike_4 = record { telling₁ = refl; telling₂ = refl; told₁ = refl; told₂ = refl };
  alike_5 = record { telling₁ = refl; telling₂ = refl; told₁ = refl; told₂ = refl };
  gets_0 = record { live = refl; it = refl };
  gets_1 = record { live = refl; it = refl };
  gets_2 = record { live = refl; it = refl };
  gets_3 = record { live = refl; it = refl };
  gets_4 = record { live = refl; it = refl };
  gets_5 = record { live = refl; it = refl };
  done₁ = by_row _ refl refl refl refl refl refl (λ r. refl);
  done₂ = by_row _ refl refl refl refl refl refl (λ r. refl);
}
