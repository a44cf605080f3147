-- A taking: where none is ready nothing changes; otherwise the oldest is taken from the ring and its buffer given back, which is the step's.
use Rattle.std.proofs.Common.{◌≡◌, ℕ, suc, ◌+◌, ◌-◌, ◌≤◌, Bool, true, false, leb, ◌≢◌, List, ◌∷◌, length, get_or, drop, set, sym, refl, ap, ◌∙◌, subst, arith, leb-true}
use lib.Seq.{set-get_or}
use Rattle.layout.specs.Pick.{pick}
use Rattle.layout.proofs.Tests.{not_both, and_left}
use Rattle.completion.specs.declared.Refusal.TheVariants.{Unfit}
use Rattle.completion.specs.declared.Completion.{Completion}
use Rattle.completion.specs.declared.Reply.TheVariants.{No as turnedAway, Took, None}
use Rattle.model.specs.declared.Opening.{Opening}
use Rattle.model.specs.declared.Lengths.{Lengths}
use Rattle.model.specs.declared.Counts.{Counts}
use Rattle.model.specs.declared.Row.{Row}
use Rattle.model.specs.declared.Call.TheVariants.{Take}
use Rattle.model.specs.State.{State, freed}
use Rattle.model.specs.Memory.{Lent, lengths_of, same_lengths, settings_in, ready_in, state_in}
use Rattle.step.specs.Step.{called, taken, step}
use Rattle.step.specs.Lists.{is_away}
use Rattle.step.specs.Sound.{Sound}
use Rattle.step.proofs.Memory.{lengths_same, lengths_are}
use Rattle.optable.specs.declared.Frees.TheVariants.{Nothing as none, Taken}
use Rattle.optable.specs.Counted.{accepted_if, released_by}
use Rattle.optable.specs.Called.{lent_of, place_of, Beyond, CallsTo, ArmTo}
use Rattle.ring.specs.Queue.{Ring, oldest_in, popped}
use Rattle.ring.proofs.Laws.{queue_laws}
use Rattle.arrival.specs.Taking.{back_in}
use Rattle.arrival.proofs.Owners.{Among, back_owners, back_behind, back_length, oldest_among}

-- words that can be compared with the lengths are at least 48
pub enough : (l : Lengths) (s : List ℕ) → same_lengths l s ≡ true → 48 ≤ length s
unfolding same_lengths
enough l s e = leb-true 48 (length s) (and_left (leb 48 (length s)) _ e)

-- the row is put back as it was found
rows_same : (c : Counts) (row : Row) (rows : List Row) (free : List ℕ) → row ≡ get_or rows (place_of Take c free) (freed 0) → set rows (place_of Take c free) row ≡ rows
rows_same c row rows free found = ap (set rows (place_of Take c free)) found ∙ set-get_or rows (place_of Take c free) (freed 0)

module _ (c : Counts) (l : Lent) (same : same_lengths (lengths_of l) l.store ≡ true) where
  abbrev s : State
  s = state_in c l

  abbrev o : Opening
  o = settings_in l.store

  stepped : Sound s → step s (lengths_of l) Take ≡ taken s s.ready
  unfolding step pick state_in called
  stepped i = ap (λ (b : Bool). pick b (called s Take) (s, turnedAway Unfit)) (sym (lengths_same c l i) ∙ same)

  -- ---- none is ready

  none_calls : c.ready ≡ 0 → CallsTo Take c l None c l
  unfolding is_away taken state_in ready_in
  none_calls empty = record {
    another_length = λ e. absurd (not_both same e);
    turned_away = λ f e. (refl, refl);
    none_ready = λ e is. (refl, refl);
    as_step = λ i. stepped i ∙ ap (λ (n : ℕ). taken s (ready_in o o.depth (get_or l.ready 0 0) n (drop 1 l.ready))) empty;
    beyond = λ i. record { lengths = refl; rows = refl; store = refl; free = refl; ready = refl; owners = refl };
  }

  -- ---- one is

  -- the completion that the code took
  module _ (x : Completion) (is-oldest : Ring o.depth l.ready → x ≡ oldest_in o l.ready) (some : c.ready ≢ 0) where
    abbrev after : Lent
    after = lent_of l.rows l.store l.free (popped o.depth l.ready) (back_in x.buf l.owners) l.pool

    abbrev counts : Counts
    counts = record { live = c.live; ready = c.ready - 1; submissions = c.submissions }

    abbrev more : List Completion
    more = ready_in o o.depth (suc (get_or l.ready 0 0)) (c.ready - 1) (drop 1 l.ready)

    module _ (i : Sound s) where
      ring : Ring o.depth l.ready
      unfolding state_in lengths_of
      ring =
          let room = i.room.ready in
          let long = ap (λ (n : Lengths). n.ready) (lengths_are (lengths_of l) l.store same) in
          record { some = i.numbers.some_depth; most = i.numbers.most_depth; room = omega (arith, room, long) }

      first : s.ready ≡ x ∷ more
      unfolding state_in
      first =
          let one : c.ready ≡ c.ready - 1 + 1 = omega (arith, some) in
          ap (λ (n : ℕ). ready_in o o.depth (get_or l.ready 0 0) n (drop 1 l.ready)) one
          ∙ queue_laws.oldest o (c.ready - 1) l.ready
          ∙ ap (λ (y : Completion). y ∷ more) (sym (is-oldest ring))

      among : Among o.buffers x.buf
      unfolding state_in
      among = oldest_among s i x more first

      taken_step : step s (lengths_of l) Take ≡ (state_in counts after, Took x)
      unfolding taken state_in
      taken_step = stepped i ∙ ap (taken s) first ∙ (λ j. (
        record {
          settings = s.settings;
          lengths = s.lengths;
          regions = s.regions;
          poison = s.poison;
          counts = counts;
          rows = s.rows;
          free = s.free;
          ready = sym (queue_laws.pop o o.depth (c.ready - 1) l.ready ring) j;
          owners = sym (back_owners o.buffers l.owners x.buf among) j;
          pool = s.pool;
        },
        Took x,
      ))

      taken_beyond : Beyond o l after
      unfolding lengths_of
      taken_beyond = record {
        lengths = λ j. record { rows = length l.rows; store = length l.store; free = length l.free; ready = queue_laws.pop_length o.depth l.ready j; owners = back_length l.owners x.buf j; pool = length l.pool };
        rows = refl;
        store = refl;
        free = refl;
        ready = queue_laws.pop_behind o.depth l.ready;
        owners = back_behind o.buffers l.owners x.buf among;
      }

    taken_calls : CallsTo Take c l (Took x) counts after
    unfolding is_away
    taken_calls = record {
      another_length = λ e. absurd (not_both same e);
      turned_away = λ f e. absurd (not_both (ap is_away e) refl);
      none_ready = λ e is. let z : ◌≡◌ {A = ℕ} 0 1 = cc in absurd (omega arith);
      as_step = taken_step;
      beyond = taken_beyond;
    }

-- ---- with the row put back

module _ (row : Row) (c : Counts) (store ready owners : List ℕ) where
  pub none_taken : c.ready ≡ 0 → (n : ℕ) (free pool : List ℕ) → ArmTo Take row c n store free ready owners pool (record { row = row; accepts = false; frees = none; reply = None }) store free ready owners pool
  unfolding released_by accepted_if pick
  none_taken empty n free pool rows len found same =
      let l = lent_of rows store free ready owners pool in
      subst (λ (rs : List Row). CallsTo Take c l None c (lent_of rs store free ready owners pool)) (sym (rows_same c row rows free found)) (none_calls c l same empty)

  -- what the code read, took and wrote
  pub one_taken_lem : c.ready ≢ 0 → (o : Opening) → (48 ≤ length store → o ≡ settings_in store) → (x : Completion) → (Ring o.depth ready → x ≡ oldest_in o ready)
      → (ready' owners' : List ℕ) → ready' ≡ popped o.depth ready → owners' ≡ back_in x.buf owners
      → (n : ℕ) (free pool : List ℕ) → ArmTo Take row c n store free ready owners pool (record { row = row; accepts = false; frees = Taken; reply = Took x }) store free ready' owners' pool
  unfolding released_by accepted_if pick
  one_taken_lem some o is_settings x is-oldest ready' owners' is-popped is-back n free pool rows len found same =
      let l = lent_of rows store free ready owners pool in
      let settings = is_settings (enough (lengths_of l) store same) in
      let oldest = subst (λ (z : Opening). Ring z.depth ready → x ≡ oldest_in z ready) settings is-oldest in
      let words = is-popped ∙ ap (λ (z : Opening). popped z.depth ready) settings in
      subst (λ (p : List Row × (List ℕ × List ℕ)). CallsTo Take c l (Took x) (counts c l same x oldest some) (lent_of p.0 store free p.1.0 p.1.1 pool))
      (λ j. (sym (rows_same c row rows free found) j, (sym words j, sym is-back j)))
      (taken_calls c l same x oldest some)
