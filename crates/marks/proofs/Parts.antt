-- The state, of other words of the store that keep the settings and the lengths.
use mathlib.Core.Path.{◌≡◌, ap, ◌∙◌}
use mathlib.Core.List.{List, map}
use Prim.Native.Nat.{ℕ, ◌<◌}
use lib.ListN.{get_or, take, drop}
use lib.Dec.{lit<}
use Rattle.std.specs.declared.option.Option.{Option}
use Rattle.domain.specs.declared.FirstCause.{FirstCause}
use Rattle.model.specs.declared.Opening.{Opening}
use Rattle.model.specs.declared.Counts.{Counts}
use Rattle.model.specs.State.{Region, State}
use Rattle.model.specs.Memory.{Lent, flag, settings_in, lengths_in, poison_in, regions_in, ready_in, owner_in, state_in}
use Rattle.marks.specs.Marks.{with_store}

-- the first 19 words are the settings and the lengths
module _ (u v : List ℕ) (same : (j : ℕ) → j < 19 → get_or u j 0 ≡ get_or v j 0) where
  pub settings_same : settings_in u ≡ settings_in v
  unfolding settings_in
  settings_same = λ i. record {
    block = same 0 (lit< tt) i;
    depth = same 1 (lit< tt) i;
    lifetime = same 2 (lit< tt) i;
    card = same 3 (lit< tt) i;
    buffers = same 4 (lit< tt) i;
    capacity = same 5 (lit< tt) i;
    read_only = flag (same 6 (lit< tt) i);
    flush = flag (same 7 (lit< tt) i);
    volume = same 8 (lit< tt) i;
    class = same 9 (lit< tt) i;
    label = same 10 (lit< tt) i;
    epoch = same 11 (lit< tt) i;
    regions = same 12 (lit< tt) i;
  }

  pub lengths_same : lengths_in u ≡ lengths_in v
  unfolding lengths_in
  lengths_same = λ i. record {
    rows = same 13 (lit< tt) i;
    store = same 14 (lit< tt) i;
    free = same 15 (lit< tt) i;
    ready = same 16 (lit< tt) i;
    owners = same 17 (lit< tt) i;
    pool = same 18 (lit< tt) i;
  }

-- a state with other regions and another poison
abbrev pub with_both : State → List Region → Option FirstCause → State
with_both s gs p =
    record { settings = s.settings; lengths = s.lengths; regions = gs; poison = p; counts = s.counts; rows = s.rows; free = s.free; ready = s.ready; owners = s.owners; pool = s.pool }

module _ (c : Counts) (l : Lent) (store : List ℕ) (same : (j : ℕ) → j < 19 → get_or store j 0 ≡ get_or l.store j 0) where
  pub state_with : (gs : List Region) (p : Option FirstCause) → regions_in (settings_in l.store).regions (drop 24 store) (drop 48 store) ≡ gs → poison_in store ≡ p
      → state_in c (with_store l store) ≡ with_both (state_in c l) gs p
  unfolding state_in
  state_with gs p e f = λ i. record {
    settings = settings i;
    lengths = lengths_same store l.store same i;
    regions = (ap (λ (o : Opening). regions_in o.regions (drop 24 store) (drop 48 store)) settings ∙ e) i;
    poison = f i;
    counts = c;
    rows = take (settings i).depth l.rows;
    free = drop c.live (take (settings i).depth l.free);
    ready = ready_in (settings i) (settings i).depth (get_or l.ready 0 0) c.ready (drop 1 l.ready);
    owners = map owner_in (take (settings i).buffers l.owners);
    pool = l.pool;
  }
    where
      settings : settings_in store ≡ settings_in l.store
      settings = settings_same store l.store same
