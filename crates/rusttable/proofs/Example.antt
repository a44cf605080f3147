-- The domain is not empty: on document 01's figures' opening a write across two runs, the answers of both pieces, and a refusal of its first or of its second
-- piece at once are in it, each call by itself and in one history with a taking; and so is a history of reads in which the host writes before a first piece is
-- refused: a buffer that it holds, then the piece itself. Every definition on the way is opened.
use mathlib.Core.Path.{◌≡◌, refl, sym, ap, ◌∙◌, subst}
use mathlib.Core.Logic.{◌⊎◌, inl, inr, ⊎_elim}
use mathlib.Core.Bool.{true}
use mathlib.Core.List.{List, [], ◌∷◌, ◌++◌}
use mathlib.Core.Option.{Option, none, some}
use Prim.Native.Nat.{ℕ, ◌<◌}
use native.Mathlib.Decide.{ℕ_discrete}
use native.Mathlib.Omega.{arith}
use lib.ListN.{length, drop, replicate, length-drop, length-replicate}
use lib.Seq.{drop_at}
use Rattle.platform.specs.declared.Answer.TheVariants.{Refused}
use Rattle.model.specs.declared.Call.{Call}
use Rattle.model.specs.declared.Call.TheVariants.{Write, ReadPage, Answer as Answers, Take}
use Rattle.layout.specs.Pick.{pick}
use Rattle.layout.specs.Block.{on_block}
use Rattle.regionmap.specs.Map.{span_from, map_run, map_run_end, map_run_left, place, piece_size}
use Rattle.regionmap.specs.Words.{runs_in, map_in}
use Rattle.iobuf.specs.Turn.{stretch, with_stretch}
use Rattle.iobuf.proofs.Laws.{turn_laws}
use Rattle.completion.specs.Numbers.{number}
use Rattle.model.specs.State.{State, freed, up_from, receipt_made}
use Rattle.model.specs.Opening.{at_first, opened, plan_in, plans_in}
use Rattle.step.specs.Questions.{ask, first_no, handle_names_region, buffer_in_pool, is_host, held_at, host_holds_buffer, room_in_table, lifetime_left, gate_open, store_writable, unpoisoned}
use Rattle.step.specs.Questions.{region_writable, volume_and_region_match, generation_matches, length_above0, aligned, within_data, region_at}
use Rattle.step.specs.Questions.{write_questions, read_questions, range_from}
use Rattle.step.specs.Rules.{op_of, first_of, last_of, range_of, piece_of, piece_length, buffer_as, error_of, turned_back, is_written, cause_of, failed_read, read_outcome, read_length, ticket_of, unflushed, written_as, last_piece, above_piece, is_refusal, first_refused, is_whole, goes_on, split_after, piece_answered, answer_rules, rules}
use Rattle.step.specs.Step.{durable_as, claimed_by, one_more, accepted, row_of, generation_of, is_live, names, bytes_at, raised, awaits_now, one_less, kept_by, poison_with, going, freeing, plan_of, asks_for}
use Rattle.step.specs.Step.{completion_of, rejection, settled, fate_of, under_tag}
use Rattle.step.specs.Step.{queue_tag, top_of, row_at, verdict_of, write_verdict, read_verdict, submitted, taken, eq_lengths, called, step}
use Rattle.step.specs.Run.{Made.calls, Event, leave, done, next, reply_to}
use Rattle.step.specs.Alone.{tag_given}
use Rattle.step.specs.Lists.{loose, plan_at, LooseIn, HostMay}
use Rattle.step.specs.Sound.{Sound}
use Rattle.step.proofs.Buffers.{in_pool_lem, bytes_length, filled_pool}
use Rattle.step.proofs.Figures.{figures}
use Rattle.step.proofs.Histories.{leaves}
use Rattle.step.proofs.Laws.{keeps, step_laws}
use Rattle.step.specs.Figures.{figures_opening, figures_plan, figures_lengths, figures_table, asking, reply_after, table_after, answers}
use Rattle.rusttable.specs.Domain.{compared, known_handle, is_tag, at_once, write_offset_on_block, unjoined_from, unjoined, InDomain}
use Rattle.rusttable.specs.Histories.{MadeIn, HistoryIn}

-- calls that all lend the figures' lengths, between which the host writes nothing
pub calmly : State → List Call → List Event
calmly s [] = []
calmly s (c ∷ cs) = record { leaves = s.pool; lengths = figures_lengths; made = calls c } ∷ calmly (step s figures_lengths c).0 cs

-- each is in the domain
pub CallsIn : Option ℕ → State → List Call → Type 0
CallsIn before s [] = Unit {0}
CallsIn before s (c ∷ cs) = InDomain before s figures_lengths c × CallsIn (tag_given (step s figures_lengths c).1) (step s figures_lengths c).0 cs

may : (s : State) → HostMay s s.pool
unfolding bytes_at
may s = record { count = refl; each = λ b lt. inr (inl refl) }

calm_history : (before : Option ℕ) (s : State) (cs : List Call) → CallsIn before s cs → HistoryIn before s (calmly s cs)
unfolding calmly CallsIn HistoryIn MadeIn next reply_to leave done
calm_history before s [] f = tt
calm_history before s (c ∷ cs) f = (may s, f.0, calm_history (tag_given (step s figures_lengths c).1) (step s figures_lengths c).0 cs f.1)

-- a first piece is refused at once; of the same write, made again, the second is
abbrev pub told : List Call
told = Write (asking 512 1024) ∷ Answers 0 Refused true 0 ∷ Write (asking 512 1024) ∷ answers 0 512 ∷ Answers 0 Refused true 0 ∷ Take ∷ []

pub record InIt : Type 0 where
  pub write : InDomain none figures_table figures_lengths (Write (asking 512 1024))
  pub refused_first : InDomain (some 0) (table_after figures_table (Write (asking 512 1024) ∷ [])) figures_lengths (Answers 0 Refused true 0)
  pub answered : InDomain (some 0) (table_after figures_table (Write (asking 512 1024) ∷ [])) figures_lengths (answers 0 512)
  pub refused_next_lem : InDomain (some 0) (table_after figures_table (Write (asking 512 1024) ∷ answers 0 512 ∷ [])) figures_lengths (Answers 0 Refused true 0)
  pub answered_then : InDomain (some 0) (table_after figures_table (Write (asking 512 1024) ∷ answers 0 512 ∷ [])) figures_lengths (answers 0 512)
  pub together : CallsIn none figures_table told

pub in_it : InIt
unfolding CallsIn compared known_handle tag_given is_tag at_once write_offset_on_block unjoined_from unjoined
    figures_opening figures_plan figures_lengths figures_table asking reply_after table_after number op_of first_of last_of range_of piece_of piece_length buffer_as error_of turned_back is_written cause_of failed_read read_outcome read_length ticket_of unflushed written_as last_piece above_piece is_refusal first_refused is_whole goes_on split_after piece_answered answer_rules rules receipt_made durable_as claimed_by one_more accepted row_of generation_of is_live names bytes_at raised awaits_now one_less kept_by poison_with going freeing plan_of asks_for completion_of rejection settled fate_of under_tag queue_tag top_of row_at verdict_of write_verdict submitted taken eq_lengths called step ask first_no handle_names_region buffer_in_pool is_host held_at host_holds_buffer room_in_table lifetime_left gate_open store_writable unpoisoned region_writable volume_and_region_match generation_matches length_above0 aligned within_data region_at write_questions plan_in plans_in at_first opened freed up_from runs_in map_in span_from map_run map_run_end map_run_left place piece_size pick on_block
in_it = record {
  write = record { numbers = refl; handle = refl; refusal = refl; maps = refl; blocks = refl };
  refused_first = record { numbers = refl; handle = refl; refusal = refl; maps = refl; blocks = refl };
  answered = record { numbers = refl; handle = refl; refusal = refl; maps = refl; blocks = refl };
  refused_next_lem = record { numbers = refl; handle = refl; refusal = refl; maps = refl; blocks = refl };
  answered_then = record { numbers = refl; handle = refl; refusal = refl; maps = refl; blocks = refl };
  together = (
    record { numbers = refl; handle = refl; refusal = refl; maps = refl; blocks = refl },
    (
      record { numbers = refl; handle = refl; refusal = refl; maps = refl; blocks = refl },
      (
        record { numbers = refl; handle = refl; refusal = refl; maps = refl; blocks = refl },
        (
          record { numbers = refl; handle = refl; refusal = refl; maps = refl; blocks = refl },
          (
            record { numbers = refl; handle = refl; refusal = refl; maps = refl; blocks = refl },
            (record { numbers = refl; handle = refl; refusal = refl; maps = refl; blocks = refl }, tt),
          ),
        ),
      ),
    ),
  );
}

pub history_in_it : HistoryIn none figures_table (calmly figures_table told)
history_in_it = calm_history none figures_table told in_it.together

-- ---- the host writes between a submission and the refusal of its first piece

-- other bytes in one buffer, that the host holds or whose loose bytes alone they change
module _ (s : State) (i : Sound s) (b : ℕ) (lt : b < s.settings.buffers) (bytes : List ℕ) (long : length bytes ≡ s.settings.capacity) where
  abbrev filled : List ℕ
  filled = with_stretch s.settings.capacity b bytes s.pool

  filled_is : stretch s.settings.capacity b filled ≡ bytes
  filled_is = turn_laws.stretch_filled s.settings.capacity b bytes s.pool (in_pool_lem s i b lt s.pool i.pool) long

  filled_may : (held_at s b ≡ true) ⊎ LooseIn s filled b → HostMay s filled
  unfolding bytes_at
  filled_may h = record { count = filled_pool s i b lt bytes (long ∙ sym (bytes_length s i b lt)); each = λ k lt'. by_buffer k (ℕ_discrete k b) }
    where
      by_buffer : (k : ℕ) → Dec (k ≡ b) → (held_at s k ≡ true) ⊎ ((stretch s.settings.capacity k filled ≡ bytes_at s k) ⊎ LooseIn s filled k)
      by_buffer k (yes e) = rw e (⊎_elim inl (λ l. inr (inr l)) h)
      by_buffer k (no n) = inr (inl (turn_laws.stretch_other s.settings.capacity b k bytes s.pool (in_pool_lem s i b lt s.pool i.pool) long n))

abbrev reads : Call
reads = ReadPage (asking 512 1024)

abbrev refuses : Call
refuses = Answers 0 Refused true 0

abbrev event : List ℕ → Call → Event
event pool c = record { leaves = pool; lengths = figures_lengths; made = calls c }

-- a read's piece is refused after the host wrote buffer 1, which it holds; and refused again after it wrote that piece
abbrev read_once : State
read_once = (step figures_table figures_lengths reads).0

abbrev other_pool : List ℕ
other_pool = with_stretch 2048 1 (replicate 2048 9) read_once.pool

abbrev refused_once : State
refused_once = (step (leave read_once other_pool) figures_lengths refuses).0

abbrev read_twice : State
read_twice = (step refused_once figures_lengths reads).0

abbrev own_bytes : List ℕ
own_bytes = replicate 512 9 ++ drop 512 (bytes_at read_twice 0)

abbrev own_pool : List ℕ
own_pool = with_stretch 2048 0 own_bytes read_twice.pool

abbrev pub written_between : List Event
written_between = event figures_table.pool reads ∷ event other_pool refuses ∷ event refused_once.pool reads ∷ event own_pool refuses ∷ []

first_sound : Sound figures_table
unfolding figures_table figures_lengths figures_opening
first_sound = step_laws.opening figures_opening figures_plan figures_lengths (replicate 6144 0) figures.opens_them (length-replicate {A = ℕ} 6144 0)

read_sound : Sound read_once
read_sound = keeps figures_table figures_lengths reads first_sound

-- what is computed of the two reads
pub record Between : Type 0 where
  pub domain_1 : InDomain none figures_table figures_lengths reads
  pub domain_2 : InDomain (some 0) (leave read_once other_pool) figures_lengths refuses
  pub domain_3 : InDomain none refused_once figures_lengths reads
  pub domain_4 : InDomain (some 0) (leave read_twice own_pool) figures_lengths refuses
  pub tags : (tag_given (step figures_table figures_lengths reads).1 ≡ some 0) × (tag_given (step (leave read_once other_pool) figures_lengths refuses).1 ≡ none) × (tag_given (step refused_once figures_lengths reads).1 ≡ some 0)
  pub held : held_at read_once 1 ≡ true
  pub sizes : (read_once.settings.capacity ≡ 2048) × (read_once.settings.buffers ≡ 3) × (read_twice.settings.capacity ≡ 2048) × (read_twice.settings.buffers ≡ 3)
  pub piece : loose (plan_at read_twice (row_at read_twice 0)) (row_at read_twice 0).awaits ≡ 512
  pub buffer : (row_at read_twice 0).buffer ≡ 0
  pub live : is_live (row_at read_twice 0).awaits ≡ true

between : Between
unfolding compared known_handle tag_given is_tag at_once write_offset_on_block unjoined_from unjoined figures_opening figures_plan figures_lengths figures_table asking reply_after table_after number op_of first_of last_of range_of piece_of piece_length buffer_as error_of turned_back is_written cause_of failed_read read_outcome read_length ticket_of unflushed written_as last_piece above_piece is_refusal first_refused is_whole goes_on split_after piece_answered answer_rules rules receipt_made durable_as claimed_by one_more accepted row_of generation_of is_live names bytes_at raised awaits_now one_less kept_by poison_with going freeing plan_of asks_for completion_of rejection settled fate_of under_tag queue_tag top_of row_at verdict_of submitted taken eq_lengths called step ask first_no handle_names_region buffer_in_pool is_host held_at host_holds_buffer room_in_table lifetime_left gate_open store_writable unpoisoned region_writable volume_and_region_match generation_matches length_above0 aligned within_data region_at plan_in plans_in at_first opened freed up_from runs_in map_in span_from map_run map_run_end map_run_left place piece_size pick on_block loose plan_at read_verdict read_questions range_from HistoryIn MadeIn next reply_to leave done
between = record {
  domain_1 = record { numbers = refl; handle = refl; refusal = refl; maps = refl; blocks = refl };
  domain_2 = record { numbers = refl; handle = refl; refusal = refl; maps = refl; blocks = refl };
  domain_3 = record { numbers = refl; handle = refl; refusal = refl; maps = refl; blocks = refl };
  domain_4 = record { numbers = refl; handle = refl; refusal = refl; maps = refl; blocks = refl };
  tags = (refl, refl, refl);
  held = refl;
  sizes = (refl, refl, refl, refl);
  piece = refl;
  buffer = refl;
  live = refl;
}

other_long : length (replicate {A = ℕ} 2048 9) ≡ read_once.settings.capacity
other_long = length-replicate {A = ℕ} 2048 9 ∙ sym between.sizes.0

other_may : HostMay read_once other_pool
other_may =
    subst (λ (n : ℕ). HostMay read_once (with_stretch n 1 (replicate 2048 9) read_once.pool)) between.sizes.0
    (filled_may read_once read_sound 1 (omega (arith, between.sizes.1)) (replicate 2048 9) other_long (inl between.held))

again_sound : Sound read_twice
again_sound = keeps refused_once figures_lengths reads (keeps (leave read_once other_pool) figures_lengths refuses (leaves read_once other_pool read_sound other_may.count))

own_lt : 0 < read_twice.settings.buffers
own_lt = omega (arith, between.sizes.3)

own_long : length own_bytes ≡ read_twice.settings.capacity
own_long = simp length-drop (omega (arith, length-replicate {A = ℕ} 512 9, bytes_length read_twice again_sound 0 own_lt, between.sizes.2))

own_loose : LooseIn read_twice (filled read_twice again_sound 0 own_lt own_bytes own_long) 0
own_loose = record {
  r = 0;
  buffer = between.buffer;
  live = between.live;
  same = rw between.piece (ap (drop 512) (filled_is read_twice again_sound 0 own_lt own_bytes own_long) ∙ drop_at (replicate 512 9) (drop 512 (bytes_at read_twice 0)) 512 (length-replicate {A = ℕ} 512 9));
}

own_may : HostMay read_twice own_pool
own_may =
    subst (λ (n : ℕ). HostMay read_twice (with_stretch n 0 own_bytes read_twice.pool)) between.sizes.2
    (filled_may read_twice again_sound 0 own_lt own_bytes own_long (inr own_loose))

pub between_in_it : HistoryIn none figures_table written_between
unfolding HistoryIn MadeIn next reply_to leave done
between_in_it =
    let tags = between.tags in
    let fourth = subst (λ (o : Option ℕ). InDomain o (leave read_twice own_pool) figures_lengths refuses) (sym tags.2) between.domain_4 in
    let third = subst (λ (o : Option ℕ). InDomain o refused_once figures_lengths reads) (sym tags.1) between.domain_3 in
    let second = subst (λ (o : Option ℕ). InDomain o (leave read_once other_pool) figures_lengths refuses) (sym tags.0) between.domain_2 in
    (may figures_table, between.domain_1, (other_may, second, (may refused_once, third, (own_may, fourth, tt))))
