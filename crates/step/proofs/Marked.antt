-- Soundness does not speak of the regions' marks, of the poison, nor of what the pool's bytes are: tables that differ only there are sound together.
use mathlib.Core.Path.{◌≡◌, refl, sym, ap, ◌∙◌}
use mathlib.Core.List.{List, map}
use Prim.Native.Nat.{ℕ, ◌≤◌}
use native.Mathlib.Omega.{arith}
use lib.ListN.{length, get_or, length-map, get_or-map}
use Rattle.std.specs.declared.option.Option.{Option}
use Rattle.domain.specs.declared.FirstCause.{FirstCause}
use Rattle.model.specs.declared.Opening.{Opening}
use Rattle.model.specs.declared.Awaits.{Awaits}
use Rattle.model.specs.declared.Awaits.TheVariants.{Nothing, Piece, Flush}
use Rattle.model.specs.declared.Row.{Row}
use Rattle.model.specs.State.{Region, no_region, State}
use Rattle.model.specs.Opening.{Plan}
use Rattle.step.specs.Questions.{region_at}
use Rattle.step.specs.Step.{row_at, plan_of}
use Rattle.step.specs.Sound.{TicketFits, InTable, SoundRegion, Sound}

-- ---- an operation in another table

-- a ticket's region, as the opening was given it
ticket_in_another : (o : Opening) (g k : Region) (a : Awaits) → plan_of k ≡ plan_of g → TicketFits o g a → TicketFits o k a
unfolding TicketFits plan_of
ticket_in_another o g k Nothing e f = tt
ticket_in_another o g k (Piece x s) e f = tt
ticket_in_another o g k (Flush t) e f = (f.0, f.1 ∙ ap (λ (p : Plan). p.id) (sym e), f.2 ∙ ap (λ (p : Plan). p.generation) (sym e), f.3)

module _ (s t : State) (x : Row) (settings : t.settings ≡ s.settings) (plans : (h : ℕ) → plan_of (region_at t h) ≡ plan_of (region_at s h)) where
  same_data : (region_at t x.handle).map.data_length ≡ (region_at s x.handle).map.data_length
  unfolding plan_of
  same_data = ap (λ (p : Plan). p.map.data_length) (plans x.handle)

  pub in_another : s.counts.submissions ≤ t.counts.submissions → InTable s x → InTable t x
  unfolding region_at
  in_another later m = record {
    region = rw settings m.region;
    buffer = rw settings m.buffer;
    some = m.some;
    in_data_lem = rw same_data m.in_data_lem;
    length = rw settings m.length;
    split = m.split;
    ticket = rw settings (ticket_in_another s.settings (region_at s x.handle) (region_at t x.handle) x.awaits (plans x.handle) m.ticket);
    before = omega (arith, m.before);
  }

-- ---- other marks, another poison, other bytes

abbrev pub besides : State → List Region → Option FirstCause → List ℕ → State
besides s gs p pool =
    record { settings = s.settings; lengths = s.lengths; regions = gs; poison = p; counts = s.counts; rows = s.rows; free = s.free; ready = s.ready; owners = s.owners; pool = pool }

module _ (s : State) (gs : List Region) (p : Option FirstCause) (pool : List ℕ) (i : Sound s) (plans : map plan_of gs ≡ map plan_of s.regions) (count : length pool ≡ length s.pool) where
  abbrev after : State
  after = besides s gs p pool

  plan_same : (h : ℕ) → plan_of (region_at after h) ≡ plan_of (region_at s h)
  unfolding region_at
  plan_same h = sym (get_or-map plan_of gs h no_region) ∙ ap (λ (ps : List Plan). get_or ps h (plan_of no_region)) plans ∙ get_or-map plan_of s.regions h no_region

  map_same : (h : ℕ) → (region_at after h).map ≡ (region_at s h).map
  unfolding plan_of
  map_same h = ap (λ (q : Plan). q.map) (plan_same h)

  region_same : (h : ℕ) → SoundRegion s.settings (region_at s h) → SoundRegion s.settings (region_at after h)
  unfolding plan_of
  region_same h r = record {
    generation = rw (ap (λ (q : Plan). q.generation) (plan_same h)) r.generation;
    runs = rw map_same r.runs;
    lawful = rw map_same r.lawful;
    on_card_lem = rw map_same r.on_card_lem;
  }

  pub keeps_besides : Sound after
  unfolding row_at
  keeps_besides = record {
    numbers = i.numbers;
    room = i.room;
    pool = count ∙ i.pool;
    pool_is = i.pool_is;
    regions = sym (length-map gs plan_of) ∙ ap length plans ∙ length-map s.regions plan_of ∙ i.regions;
    each = λ h lt. region_same h (i.each h lt);
    apart = λ h k. rw (map_same h, map_same k) (i.apart h k);
    rows = i.rows;
    live = i.live;
    ready = i.ready;
    submissions = i.submissions;
    balance = i.balance;
    free_once = i.free_once;
    free_rows = i.free_rows;
    most = i.most;
    generations = i.generations;
    owners = i.owners;
    holders = i.holders;
    in_table = λ r lt a. in_another s after (row_at s r) refl plan_same (omega arith) (i.in_table r lt a);
    seqs = i.seqs;
  }
