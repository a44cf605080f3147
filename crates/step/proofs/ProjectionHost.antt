-- The host and the buffers of live rows: a live row's buffer is held by no other live row and not by the host, so the host changes nothing of it but the
-- piece of a read under way; and the rules say of the row what they say of the operation alone.
use mathlib.Core.Path.{◌≡◌, refl, sym, ap, ◌∙◌, subst}
use mathlib.Core.Logic.{◌≢◌, ◌⊎◌, inl, inr}
use mathlib.Core.Bool.{true}
use mathlib.Core.List.{List, ◌++◌}
use Prim.Native.Nat.{ℕ, ◌+◌, ◌≤◌, ◌<◌}
use native.Mathlib.Decide.{ℕ_discrete}
use native.Mathlib.Omega.{arith}
use lib.ListN.{length, get_or, set, take, drop, length-set, take-append-drop}
use lib.Seq.{get_or-set_other}
use Rattle.layout.proofs.Tests.{not_both}
use Rattle.iobuf.specs.Turn.{stretch}
use Rattle.model.specs.declared.Opening.{Opening}
use Rattle.model.specs.declared.Row.{Row}
use Rattle.model.specs.State.{Owner, Owner.host, Owner.table, Owner.lost, State, freed}
use Rattle.model.specs.Opening.{Plan}
use Rattle.step.specs.Questions.{is_host, region_at, held_at}
use Rattle.step.specs.Rules.{Input, rules}
use Rattle.step.specs.Step.{row_at, is_live, bytes_at, plan_of, fate_of}
use Rattle.step.specs.Sound.{row_holds, rows_hold, table_has, InTable, Sound}
use Rattle.step.specs.Run.{leave, Start}
use Rattle.step.specs.Lists.{loose, plan_at, LooseIn, HostMay}
use Rattle.step.specs.Alone.{Alones, with_left, alone_fate}
use Rattle.step.specs.Demand3.{Alike}
use Rattle.step.proofs.Counts.{hold_set, holds_none, holds_own, has_most}
use Rattle.step.proofs.Freed.{had}
use Rattle.step.proofs.Named.{live_one, live_below}
use Rattle.step.proofs.AloneTags.{freed_dead, dead_awaiting, live_in}
use Rattle.step.proofs.ProjectionFixed.{Fixed}

-- ---- who holds a buffer

freed_holds : (b : ℕ) → row_holds b (freed 0) ≡ 0
freed_holds b = holds_none b (freed 0) (dead_awaiting (freed 0).awaits (freed_dead 0))

one_holds : (b : ℕ) (l : List Row) (r : ℕ) → r < length l → row_holds b (get_or l r (freed 0)) ≤ rows_hold b l
one_holds b l r lt = omega (arith, hold_set b l r (freed 0) (freed 0) lt, freed_holds b)

two_hold : (b : ℕ) (l : List Row) (r k : ℕ) → r ≢ k → r < length l → k < length l → row_holds b (get_or l r (freed 0)) + row_holds b (get_or l k (freed 0)) ≤ rows_hold b l
two_hold b l r k n lr lk =
    let rest = set l r (freed 0) in
    let same : get_or rest k (freed 0) ≡ get_or l k (freed 0) = get_or-set_other l r k (freed 0) (freed 0) (λ e. n (sym e)) in
    let other = one_holds b rest k (rw (length-set l r (freed 0)) lk) in
    omega (arith, hold_set b l r (freed 0) (freed 0) lr, freed_holds b, other, ap (row_holds b) same)

live_holds : (x : Row) (b : ℕ) → is_live x.awaits ≡ true → x.buffer ≡ b → row_holds b x ≡ 1
live_holds x b live e = ap (λ (n : ℕ). row_holds n x) (sym e) ∙ holds_own x ∙ live_one x.awaits live

host_none : (w : Owner) → is_host w ≡ true → table_has w ≡ 0
unfolding is_host table_has
host_none host e = refl
host_none table e = absurd (not_both e refl)
host_none lost e = refl

module _ (s : State) (i : Sound s) where
  -- one live row to a buffer
  pub sole : (r k : ℕ) → is_live (row_at s r).awaits ≡ true → is_live (row_at s k).awaits ≡ true → (row_at s k).buffer ≡ (row_at s r).buffer → k ≡ r
  unfolding row_at
  sole r k lr lk e = by_case (ℕ_discrete k r)
    where
      b : ℕ
      b = (row_at s r).buffer

      by_case : Dec (k ≡ r) → k ≡ r
      by_case (yes p) = p
      by_case (no n) =
          absurd (omega (arith, two_hold b s.rows k r n (live_in s k lk) (live_in s r lr), live_holds (row_at s k) b lk e, live_holds (row_at s r) b lr refl, i.holders b, has_most (get_or s.owners b lost)))

  -- and the host does not hold it
  pub not_held : (r : ℕ) → is_live (row_at s r).awaits ≡ true → held_at s (row_at s r).buffer ≡ true → ⊥
  unfolding held_at row_at
  not_held r live held = omega (arith, had s i r (live_below s i r live) (live_one (row_at s r).awaits live), host_none (get_or s.owners (row_at s r).buffer lost) held)

  pub live_in_table : (r : ℕ) → is_live (row_at s r).awaits ≡ true → InTable s (row_at s r)
  live_in_table r live = i.in_table r (live_below s i r live) (live_one (row_at s r).awaits live)

  -- what the host leaves of a live row's buffer
  pub left_alike : (pool : List ℕ) → HostMay s pool → (r : ℕ) → is_live (row_at s r).awaits ≡ true
      → drop (loose (plan_at s (row_at s r)) (row_at s r).awaits) (stretch s.settings.capacity (row_at s r).buffer pool)
      ≡ drop (loose (plan_at s (row_at s r)) (row_at s r).awaits) (bytes_at s (row_at s r).buffer)
  left_alike pool m r live = by_case (m.each b (live_in_table r live).buffer)
    where
      b : ℕ
      b = (row_at s r).buffer

      n : ℕ
      n = loose (plan_at s (row_at s r)) (row_at s r).awaits

      by_case : (held_at s b ≡ true) ⊎ ((stretch s.settings.capacity b pool ≡ bytes_at s b) ⊎ LooseIn s pool b) → drop n (stretch s.settings.capacity b pool) ≡ drop n (bytes_at s b)
      by_case (inl e) = absurd (not_held r live e)
      by_case (inr (inl e)) = ap (drop n) e
      by_case (inr (inr l)) =
          let e : l.r ≡ r = sole r l.r live l.live l.buffer in
          subst (λ (k : ℕ). drop (loose (plan_at s (row_at s k)) (row_at s k).awaits) (stretch s.settings.capacity b pool) ≡ drop (loose (plan_at s (row_at s k)) (row_at s k).awaits) (bytes_at s b)) e l.same

  pub alike_left : (pool : List ℕ) → HostMay s pool → (r : ℕ) → is_live (row_at s r).awaits ≡ true → (bytes : List ℕ) → Alike s (row_at s r) bytes → Alike (leave s pool) (row_at s r) bytes
  unfolding leave plan_at region_at bytes_at
  alike_left pool m r live bytes a = record { count = a.count; same = a.same ∙ sym (left_alike pool m r live) }

-- ---- the rules say of a row what they say of the operation alone

-- the bytes as the input arrives are those of the buffer
pub with_left_lem : (n : ℕ) (left bytes : List ℕ) → drop n bytes ≡ drop n left → with_left n left bytes ≡ left
unfolding with_left
with_left_lem n left bytes e = ap (λ (l : List ℕ). take n left ++ l) e ∙ take-append-drop n left

pub same_fate : (x : Start) (s : State) → Fixed x s → (a : Alones) (r : Row) (bytes : List ℕ) (i : Input) → a.forced r.handle ≡ (region_at s r.handle).forced → a.first ≡ s.poison → Alike s r bytes
    → fate_of s r i ≡ alone_fate x.opening x.lengths a s.pool (plan_at s r) r bytes i
unfolding fate_of alone_fate bytes_at plan_at
same_fate x s f a r bytes i forced first alike =
    λ j. rules (f.settings j) g (sym forced j) (sym first j) r (left j) i
  where
    g : Plan
    g = plan_of (region_at s r.handle)

    stretches : stretch s.settings.capacity r.buffer s.pool ≡ stretch x.opening.capacity r.buffer s.pool
    stretches = ap (λ (o : Opening). stretch o.capacity r.buffer s.pool) f.settings

    same : drop (loose g r.awaits) bytes ≡ drop (loose g r.awaits) (stretch x.opening.capacity r.buffer s.pool)
    same = alike.same ∙ ap (drop (loose g r.awaits)) stretches

    left : stretch s.settings.capacity r.buffer s.pool ≡ with_left (loose g r.awaits) (stretch x.opening.capacity r.buffer s.pool) bytes
    left = stretches ∙ sym (with_left_lem (loose g r.awaits) (stretch x.opening.capacity r.buffer s.pool) bytes same)
