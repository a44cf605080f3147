-- The table at first, and what leaves it as it was: a setting, a report, and the host's writes between calls; the receipt of io.rs; what the Rust asserts.
use mathlib.Core.Path.{◌≡◌, refl, subst, ◌∙◌}
use mathlib.Core.Logic.{◌⊎◌, inl, inr}
use mathlib.Core.Bool.{Bool, true, false, not, ◌&&◌, ◌||◌}
use mathlib.Core.List.{List, [], ◌∷◌, map}
use Prim.Native.Nat.{ℕ, zero, suc, ◌+◌, ◌-◌, ◌≤◌, ◌<◌, ◌^◌}
use native.Mathlib.Omega.{arith}
use lib.Dec.{ltb, eqb}
use lib.ListN.{get_or, set, drop, replicate}
use Rattle.layout.proofs.Tests.{not_both}
use Rattle.regionmap.specs.Map.{map_run_end, piece_size}
use Rattle.regionmap.proofs.Laws.{map_laws}
use Rattle.iobuf.specs.Turn.{stretch}
use Rattle.std.specs.declared.option.Option.{Option}
use Rattle.domain.specs.declared.FirstCause.{FirstCause}
use Rattle.domain.specs.Domain.{first_kept}
use Rattle.completion.specs.declared.WriteTicket.{WriteTicket}
use Rattle.completion.specs.Buffers.{Buffer}
use Rattle.std.specs.declared.option.Option.TheVariants.{Some as Back, None as Lost}
use Rattle.completion.specs.declared.Completion.{Completion}
use Rattle.completion.specs.declared.Reply.{Reply}
use Rattle.model.specs.declared.Opening.{Opening}
use Rattle.model.specs.declared.Lengths.{Lengths}
use Rattle.model.specs.declared.Kind.{Kind}
use Rattle.model.specs.declared.Split.{Split}
use Rattle.model.specs.declared.Awaits.{Awaits}
use Rattle.model.specs.declared.Awaits.TheVariants.{Nothing, Piece, Flush as AwaitsFlush}
use Rattle.model.specs.declared.Row.{Row}
use Rattle.model.specs.declared.Call.{Call}
use Rattle.model.specs.declared.Call.TheVariants.{Write, ReadPage, Answer as Answers, Flushed as FlushedCall, Take, SetGate, SetReadOnly, SetForced, ReportPoison}
use Rattle.model.specs.State.{Region, Owner, Owner.host, Owner.table, Owner.lost, State, freed, awaiting, receipt_made}
use Rattle.model.specs.Opening.{Plan, opened}
use Rattle.step.specs.Questions.{byte_at, is_host, held_at, region_at}
use Rattle.step.specs.Rules.{left_of, first_of, piece_of, piece_length}
use Rattle.step.specs.Step.{row_at, row_of, is_live, names, bytes_at, plan_of, with_regions, with_poison, marked, with_gate, with_read_only, with_forced, eq_lengths, called, step}
use Rattle.step.specs.Sound.{rows_hold, holds, ready_hold, table_has, Sound}
use Rattle.step.specs.Run.{leave}
use Rattle.step.specs.Lists.{LooseIn, HostMay, loose, plan_at}
use Rattle.step.proofs.Picked.{by_pick}
use Rattle.step.proofs.Places.{within}
use Rattle.step.proofs.Counts.{back_holds_own, has_most, holds_own, holds_none}
use Rattle.step.proofs.Named.{live_one, live_below}
use Rattle.step.proofs.Replaced.{hold_replaced}
use Rattle.step.proofs.ProjectionFixed.{plans_set}
use Rattle.step.proofs.ProjectionHost.{left_alike}
use Rattle.rusttable.specs.Table.{Store}
use Rattle.rusttable.specs.Functions.{receipt_for, durable_receipt, empty_row, new}
use Rattle.rusttable.specs.AsStep.{buf_of, back_of, completion_as, live_of, row_as, table_of, Asserts, is_setting}
use Rattle.rusttable.proofs.RegionMap.{map_as_rust}
use Rattle.rusttable.proofs.Lists.{map_same, map_alike}
use Rattle.rusttable.proofs.Pieces.{its_place, long, placed}

-- ---- at first

fresh_rows : (s : State) (n : ℕ) → replicate n empty_row ≡ map (row_as s) (replicate n (freed 0))
unfolding row_as live_of freed empty_row
fresh_rows s zero = refl
fresh_rows s (suc n) = rw (fresh_rows s n) refl

pub new_table : (o : Opening) (plans : List Plan) (l : Lengths) (pool : List ℕ) → new o.depth ≡ table_of (opened o plans l pool)
unfolding new table_of opened
new_table o plans l pool = rw (fresh_rows (opened o plans l pool) o.depth) refl

-- ---- settings and reports: the maps and the bytes are the same

module _ (s s' : State) (plans : (h : ℕ) → plan_of (region_at s' h) ≡ plan_of (region_at s h)) where
  plan_live : (x : Row) (a : Awaits) → (is_live a ≡ true → bytes_at s' x.buffer ≡ bytes_at s x.buffer) → live_of s' x a ≡ live_of s x a
  unfolding live_of buf_of is_live
  plan_live x Nothing h = refl
  plan_live x (Piece k sp) h = rw (plans x.handle) refl
  plan_live x (AwaitsFlush t) h = rw (h refl) refl

  pub plan_row : (x : Row) → (bytes_at s' x.buffer ≡ bytes_at s x.buffer) → row_as s' x ≡ row_as s x
  unfolding row_as
  plan_row x h = rw (plan_live x x.awaits (λ live. h)) refl

  same_back : ((b : ℕ) → bytes_at s' b ≡ bytes_at s b) → (x : Buffer) → back_of s' x ≡ back_of s x
  unfolding back_of buf_of
  same_back bytes (Back h) = rw (bytes h.buffer) refl
  same_back bytes Lost = refl

  same_completion : ((b : ℕ) → bytes_at s' b ≡ bytes_at s b) → (c : Completion) → completion_as s' c ≡ completion_as s c
  unfolding completion_as
  same_completion bytes c = rw (same_back bytes c.buf) refl

module _ (s : State) (h : ℕ) (g : Region) (e : plan_of g ≡ plan_of (region_at s h)) where
  abbrev set_state : State
  set_state = with_regions s (set s.regions h g)

  set_plans : (j : ℕ) → plan_of (region_at set_state j) ≡ plan_of (region_at s j)
  unfolding with_regions region_at
  set_plans j = plans_set s.regions h g e j

  set_bytes : (b : ℕ) → bytes_at set_state b ≡ bytes_at s b
  unfolding with_regions bytes_at
  set_bytes b = refl

  set_table : table_of set_state ≡ table_of s
  unfolding table_of with_regions
  set_table =
      rw (map_same (row_as s) (row_as set_state) (λ x. plan_row s set_state set_plans x (set_bytes x.buffer)) s.rows, map_same (completion_as s) (completion_as set_state) (same_completion s set_state set_plans set_bytes) s.ready) refl

  marked_table : table_of (marked s h g).0 ≡ table_of s
  unfolding marked
  marked_table = by_pick (ltb h s.settings.regions) (λ (z : State × Reply). table_of z.0 ≡ table_of s) (λ known. set_table) (λ unknown. refl)

module _ (s : State) (p : Option FirstCause) where
  abbrev poisoned_state : State
  poisoned_state = with_poison s p

  poisoned_plans : (j : ℕ) → plan_of (region_at poisoned_state j) ≡ plan_of (region_at s j)
  unfolding with_poison region_at
  poisoned_plans j = refl

  poisoned_bytes : (b : ℕ) → bytes_at poisoned_state b ≡ bytes_at s b
  unfolding with_poison bytes_at
  poisoned_bytes b = refl

  poisoned_table : table_of poisoned_state ≡ table_of s
  unfolding table_of with_poison
  poisoned_table =
      rw (map_same (row_as s) (row_as poisoned_state) (λ x. plan_row s poisoned_state poisoned_plans x (poisoned_bytes x.buffer)) s.rows, map_same (completion_as s) (completion_as poisoned_state) (same_completion s poisoned_state poisoned_plans poisoned_bytes) s.ready) refl

called_table : (s : State) (c : Call) → is_setting c ≡ true → table_of (called s c).0 ≡ table_of s
unfolding called is_setting with_gate with_read_only with_forced plan_of
called_table s (Write q) e = absurd (not_both e refl)
called_table s (ReadPage q) e = absurd (not_both e refl)
called_table s (Answers t a back flushes) e = absurd (not_both e refl)
called_table s (FlushedCall t result) e = absurd (not_both e refl)
called_table s Take e = absurd (not_both e refl)
called_table s (SetGate h x) e = marked_table s h (with_gate (region_at s h) x) refl
called_table s (SetReadOnly h x) e = marked_table s h (with_read_only (region_at s h) x) refl
called_table s (SetForced h x) e = marked_table s h (with_forced (region_at s h) x) refl
called_table s (ReportPoison cause) e = poisoned_table s (first_kept s.poison cause)

pub settings_table : (s : State) (l : Lengths) (c : Call) → is_setting c ≡ true → table_of (step s l c).0 ≡ table_of s
unfolding step
settings_table s l c e = by_pick (eq_lengths l s.lengths) (λ (z : State × Reply). table_of z.0 ≡ table_of s) (λ same. called_table s c e) (λ other. refl)

-- ---- the host's writes between calls

freed_awaits : awaiting (freed 0).awaits ≡ 0
unfolding freed awaiting
freed_awaits = refl

-- the buffers of the completions
module _ (s s' : State) where
  ready_back : (x : Buffer) → ((b : ℕ) → 0 < holds b x → bytes_at s' b ≡ bytes_at s b) → back_of s' x ≡ back_of s x
  unfolding back_of buf_of
  ready_back (Back k) h = rw (h k.buffer (let one = back_holds_own k.buffer k.len in omega arith)) refl
  ready_back Lost h = refl

  ready_alike : (cs : List Completion) → ((b : ℕ) → 0 < ready_hold b cs → bytes_at s' b ≡ bytes_at s b) → map (completion_as s') cs ≡ map (completion_as s) cs
  unfolding completion_as ready_hold
  ready_alike [] h = refl
  ready_alike (c ∷ cs) h = rw (ready_back c.buf (λ b lt. h b (omega arith)), ready_alike cs (λ b lt. h b (omega arith))) refl

lost_none : table_has lost ≡ 1 → ⊥
unfolding table_has
lost_none e = omega arith

host_not : (w : Owner) → is_host w ≡ true → table_has w ≡ 1 → ⊥
unfolding is_host table_has
host_not host h e = omega arith
host_not table h e = not_both h refl
host_not lost h e = omega arith

held_host : (s : State) (b : ℕ) → held_at s b ≡ true → is_host (get_or s.owners b lost) ≡ true
unfolding held_at
held_host s b h = h

-- a live row holds its buffer
row_hold : (s : State) (i : Sound s) (r b : ℕ) → is_live (row_at s r).awaits ≡ true → (row_at s r).buffer ≡ b → 1 ≤ rows_hold b s.rows
row_hold s i r b live e =
    rw (← e) (let z = hold_replaced s i r (live_below s i r live) (row_at s r).buffer (freed 0) in let own = holds_own (row_at s r) in let one = live_one (row_at s r).awaits live in let none-held = holds_none (row_at s r).buffer (freed 0) freed_awaits in omega arith)

-- the buffer of a row that awaits its flush is not loose
flush_bytes : (s : State) (i : Sound s) (pool : List ℕ) → HostMay s pool → (j : ℕ) (t : WriteTicket) → (row_at s j).awaits ≡ AwaitsFlush t → bytes_at (leave s pool) (row_at s j).buffer ≡ bytes_at s (row_at s j).buffer
unfolding leave bytes_at loose is_live
flush_bytes s i pool may j t e =
    let live : is_live (row_at s j).awaits ≡ true = rw e refl in
    subst (λ (a : Awaits). drop (loose (plan_at s (row_at s j)) a) (stretch s.settings.capacity (row_at s j).buffer pool) ≡ drop (loose (plan_at s (row_at s j)) a) (bytes_at s (row_at s j).buffer)) e (left_alike s i pool may j live)

module _ (s : State) (i : Sound s) (pool : List ℕ) (may : HostMay s pool) where
  abbrev left : State
  left = leave s pool

  left_bytes : (b : ℕ) → bytes_at left b ≡ stretch s.settings.capacity b pool
  unfolding leave bytes_at
  left_bytes b = refl

  -- a buffer of a completion
  ready_bytes : (b : ℕ) → 0 < ready_hold b s.ready → bytes_at left b ≡ bytes_at s b
  ready_bytes b lt = left_bytes b ∙ by_case (may.each b in_owners)
    where
      had : table_has (get_or s.owners b lost) ≡ 1
      had = omega (arith, i.holders b, has_most (get_or s.owners b lost))

      in_owners : b < s.settings.buffers
      in_owners = rw (← i.owners) (within s.owners b lost (λ (w : Owner). table_has w ≡ 1) lost_none had)

      by_case : (held_at s b ≡ true) ⊎ ((stretch s.settings.capacity b pool ≡ bytes_at s b) ⊎ LooseIn s pool b) → stretch s.settings.capacity b pool ≡ bytes_at s b
      by_case (inl held) = absurd (host_not (get_or s.owners b lost) (held_host s b held) had)
      by_case (inr (inl same)) = same
      by_case (inr (inr l)) = absurd (omega (arith, row_hold s i l.r b l.live l.buffer, i.holders b, had))

  left_live : (j : ℕ) (a : Awaits) → (row_at s j).awaits ≡ a → live_of left (row_at s j) a ≡ live_of s (row_at s j) a
  unfolding live_of buf_of leave region_at
  left_live j Nothing e = refl
  left_live j (Piece k sp) e = refl
  left_live j (AwaitsFlush t) e = rw (flush_bytes s i pool may j t e) refl

  left_row : (j : ℕ) → row_as left (row_at s j) ≡ row_as s (row_at s j)
  unfolding row_as
  left_row j = rw (left_live j (row_at s j).awaits refl) refl

  pub left_table : table_of left ≡ table_of s
  unfolding table_of leave row_at
  left_table = rw (map_alike (row_as s) (row_as left) s.rows (freed 0) left_row, ready_alike s left s.ready ready_bytes) refl

-- ---- the receipt

two_nots : (a b : Bool) → (not a && not b) ≡ not (b || a)
two_nots true true = refl
two_nots true false = refl
two_nots false true = refl
two_nots false false = refl

pub receipt_same : (store : Store) (t : WriteTicket) (need : ℕ) → receipt_for store t need ≡ durable_receipt store t need
unfolding receipt_for durable_receipt receipt_made
receipt_same store t need = λ j. record {
  volume = t.volume;
  region = t.region;
  generation = t.generation;
  class = store.settings.class;
  label = store.settings.label;
  start = t.start;
  through = t.end;
  untorn = false;
  need = need;
  prefix = false;
  synced = two_nots (eqb need (2 ^ 64 - 1)) (eqb need 0) j;
  epoch = t.epoch;
}

-- ---- what the Rust asserts

pub piece_asserts : (s : State) (t : ℕ) (k : Kind) (sp : Split) → Sound s → names (row_at s (row_of t)) t ≡ true → (row_at s (row_of t)).awaits ≡ Piece k sp
    → Asserts (region_at s (row_at s (row_of t)).handle).map (first_of k).0 sp (piece_length (plan_of (region_at s (row_at s (row_of t)).handle)) k sp) s.settings.capacity
unfolding piece_length piece_of plan_of map_run_end
piece_asserts s t k sp i found e =
    let p = placed s i t found k sp e in
    let region = region_at s (row_at s (row_of t)).handle in
    let at = byte_at (first_of k).0 sp.done in
    let sound = i.each (row_at s (row_of t)).handle (its_place s i t found k sp e).region in
    let law = sound.lawful in
    let one = map_laws.one_piece region.map law at (left_of sp) (omega (arith, p.left)) (omega (arith, p.left, p.in_data_lem)) in
    let last = sound.on_card_lem (at + (piece_size region.map at (left_of sp) - 1)) (omega (arith, one.some, one.in_data, law.within)) in
    record {
      moves = omega (arith, one.some);
      most = omega (arith, one.most, p.left);
      room = rw (← long s i t found k sp e) p.room;
      rest = rw (map_as_rust.run_end_lem region.map law at) (omega (arith, one.some, one.in_data, one.uncrossed));
      in_data_lem = one.in_data;
      in_run = rw (map_as_rust.run_of_lem region.map law at) one.uncrossed;
      unwrapped = rw (map_as_rust.locate_is region.map law at _) (omega (arith, last, one.consecutive (piece_size region.map at (left_of sp) - 1) (omega (arith, one.some)), one.some, i.numbers.card));
    }
