-- Row 0's generation after n rounds of calls: the whole table after them is known, and one round leads to the next.
use mathlib.Core.Path.{◌≡◌, refl, sym, ap, ◌∙◌}
use mathlib.Core.Bool.{true}
use mathlib.Core.Option.{none}
use mathlib.Core.List.{List, [], ◌∷◌, map}
use Prim.Native.Nat.{ℕ, zero, suc, ◌+◌, ◌%◌, ◌^◌, ◌≤◌, ◌<◌}
use native.Mathlib.Omega.{arith}
use native.Mathlib.Numerals.{add-one}
use borrow.Author.Tests.{lt-ltb}
use lib.ListN.{replicate}
use Rattle.layout.specs.Pick.{pick}
use Rattle.layout.specs.Block.{on_block}
use Rattle.regionmap.specs.Map.{span_from, map_run, map_run_end, map_run_left, place, piece_size}
use Rattle.regionmap.specs.Words.{position_of, runs_in, map_in}
use Rattle.iobuf.specs.Turn.{turned, stretch, with_stretch}
use Rattle.iobuf.proofs.Laws.{turned_all, turn_laws}
use Rattle.std.specs.declared.option.Option.TheVariants.{None}
use Rattle.platform.specs.declared.Answer.TheVariants.{Count}
use Rattle.completion.specs.declared.WriteTicket.{WriteTicket}
use Rattle.completion.specs.declared.Outcome.TheVariants.{Written}
use Rattle.std.specs.declared.option.Option.TheVariants.{Some as Back}
use Rattle.model.specs.declared.Kind.TheVariants.{Page}
use Rattle.model.specs.declared.Row.{Row}
use Rattle.model.specs.declared.Call.TheVariants.{Write, Take}
use Rattle.std.specs.declared.result.Result.TheVariants.{Ok}
use Rattle.model.specs.State.{Owner.host, Owner.table, State, freed, up_from}
use Rattle.model.specs.Opening.{at_first, opened, plan_in, plans_in}
use Rattle.step.specs.Questions.{ask, first_no, handle_names_region, buffer_in_pool, is_host, held_at, host_holds_buffer, room_in_table, lifetime_left, gate_open, store_writable, unpoisoned}
use Rattle.step.specs.Questions.{region_writable, volume_and_region_match, generation_matches, length_above0, aligned, within_data, region_at, id_of, write_questions}
use Rattle.step.specs.Rules.{first_of, last_of, piece_of, piece_length, buffer_as, turned_back, is_written, ticket_of, written_as, last_piece, above_piece, is_refusal, first_refused, is_whole, goes_on, piece_answered, answer_rules, rules, Input.answered, Fate.ends}
use Rattle.step.specs.Step.{durable_as, claimed_by, one_more, accepted, row_of, generation_of, is_live, names, bytes_at, raised, one_less, kept_by, poison_with, freeing, plan_of, completion_of, settled, fate_of, under_tag, given_back, taken}
use Rattle.step.specs.Step.{queue_tag, top_of, row_at, verdict_of, write_verdict, submitted, eq_lengths, called, step}
use Rattle.step.specs.Figures.{figures_plan, figures_lengths, asking, answers, table_after, long_opening, long_table, round, rounds}
use Rattle.step.proofs.AloneTags.{row_of_tag, generation_of_tag, names_by}

-- the ticket of a round's write
ticket : WriteTicket
ticket = record { volume = 1; region = 7; generation = 3; start = position_of 512; end = position_of 1024; need = 1; epoch = 0 }

-- ---- the tables of a round, over any pool

module _ (pool : List ℕ) where
  -- before it: row 0 at a generation, n submissions so far
  at : ℕ → ℕ → State
  at g n =
      record { settings = long_opening; lengths = figures_lengths; regions = map at_first (plans_in 1 figures_plan); poison = None; counts = record { live = 0; ready = 0; submissions = n }; rows = freed g ∷ freed 0 ∷ []; free = 0 ∷ 1 ∷ []; ready = []; owners = host ∷ host ∷ host ∷ []; pool = pool }

  -- its write is accepted
  held : ℕ → ℕ → State
  held g n = accepted (at g n) 0 (Page (position_of 512) (position_of 1024)) (asking 512 512)

  abbrev row : ℕ → ℕ → Row
  row g n = row_at (held g n) 0

  -- the write is complete
  complete : ℕ → ℕ → State
  complete g n = freeing (held g n) 0 (row g n) (raised g) (completion_of (row g n) (Written ticket) (Back (record { buffer = 0; len = 512 })) ∷ []) table (turned 512 512 (bytes_at (held g n) 0)) none

  -- ---- the write

  left : (g n : ℕ) → n < 2 ^ 62 → lifetime_left (at g n).settings.lifetime (at g n).counts (id_of (region_at (at g n) 0)) ≡ Ok tt
  unfolding at long_opening lifetime_left ask
  left g n h = rw (lt-ltb n (2 ^ 62) h)

  -- only the lifetime's question does not compute
  yes_all : (g n : ℕ) → n < 2 ^ 62 → first_no (write_questions (at g n) (region_at (at g n) 0) (asking 512 512)) ≡ Ok tt
  unfolding write_questions
  yes_all g n h =
      rw (left g n h)
      (unfold first_no ask handle_names_region buffer_in_pool is_host held_at host_holds_buffer room_in_table gate_open store_writable unpoisoned region_writable volume_and_region_match generation_matches
      length_above0 on_block aligned within_data region_at at long_opening asking at_first plans_in plan_in map_in figures_plan in refl)

  writes : (g n : ℕ) → n < 2 ^ 62 → (step (at g n) figures_lengths (Write (asking 512 512))).0 ≡ held g n
  unfolding step eq_lengths called pick submitted write_verdict verdict_of at held figures_lengths asking top_of
  writes g n h = rw (yes_all g n h)

  -- ---- its answer, under a tag that names row 0 at its generation

  named : (g n t : ℕ) → generation_of t ≡ g → names (row g n) t ≡ true
  unfolding is_live row_at held accepted at claimed_by freed
  named g n t e = names_by (row g n) t refl (sym e)

  fate : (g n : ℕ) → fate_of (held g n) (row g n) (answered (Count 512) true 0) ≡ ends (record { outcome = Written ticket; buffer = Back (record { buffer = 0; len = 512 }); bytes = turned 512 512 (bytes_at (held g n) 0); cause = none })
  unfolding fate_of row_at held accepted claimed_by at rules answer_rules piece_answered piece_length piece_of first_of last_of last_piece pick above_piece first_refused is_refusal goes_on is_whole is_written
      written_as buffer_as turned_back ticket_of plan_of region_at at_first plans_in plan_in figures_plan map_in runs_in long_opening asking durable_as span_from map_run map_run_end map_run_left place piece_size ticket
  fate g n = refl

  answered_whole : (g n t : ℕ) → row_of t ≡ 0 → generation_of t ≡ g → (step (held g n) figures_lengths (answers t 512)).0 ≡ complete g n
  unfolding step eq_lengths called pick under_tag held accepted at figures_lengths
  answered_whole g n t r e = rw (r, named g n t e, fate g n) (unfold settled kept_by complete row_at claimed_by freed in rw r)

  -- ---- the taking

  -- the one piece is turned back by all of its bytes: the pool is as it was
  same_pool : with_stretch 2048 0 (turned 512 512 (stretch 2048 0 pool)) pool ≡ pool
  same_pool = ap (λ (bytes : List ℕ). with_stretch 2048 0 bytes pool) (turned_all 512 512 (stretch 2048 0 pool) (omega arith)) ∙ turn_laws.filled_own 2048 0 pool

  takes : (g n : ℕ) → (step (complete g n) figures_lengths Take).0 ≡ at (raised g) (n + 1)
  unfolding step eq_lengths called pick taken complete held accepted at freeing figures_lengths long_opening row_at claimed_by bytes_at one_more one_less poison_with completion_of given_back asking
  takes g n = rw same_pool

  -- ---- the round

  one_round : (g n t : ℕ) → n < 2 ^ 62 → row_of t ≡ 0 → generation_of t ≡ g → table_after (at g n) (Write (asking 512 512) ∷ answers t 512 ∷ Take ∷ []) ≡ at (raised g) (n + 1)
  unfolding table_after
  one_round g n t h r e =
      ap (λ (s : State). table_after s (answers t 512 ∷ Take ∷ [])) (writes g n h)
      ∙ ap (λ (s : State). table_after s (Take ∷ [])) (answered_whole g n t r e)
      ∙ takes g n

-- ---- the rounds

-- the generation of the next round
raised_next : (n : ℕ) → raised (n % 2 ^ 32) ≡ suc n % 2 ^ 32
unfolding raised
raised_next n = omega arith

-- the table after n rounds
after : (n : ℕ) → n ≤ 2 ^ 62 → rounds n ≡ at (replicate 6144 0) (n % 2 ^ 32) n
unfolding rounds round
after zero h = unfold at long_table long_opening opened up_from in refl
after (suc n) h =
    let g = n % 2 ^ 32 in
    ap (λ (s : State). table_after s (round n)) (after n (omega arith))
    ∙ one_round (replicate 6144 0) g n (queue_tag 0 g) h (row_of_tag 0 g (omega arith)) (generation_of_tag 0 g (omega arith))
    ∙ (λ i. at (replicate 6144 0) (raised_next n i) (add-one n i))

pub generation_after : (n : ℕ) → n ≤ 2 ^ 62 → (row_at (rounds n) 0).generation ≡ n % 2 ^ 32
unfolding row_at at freed
generation_after n h = ap (λ (s : State). (row_at s 0).generation) (after n h)
