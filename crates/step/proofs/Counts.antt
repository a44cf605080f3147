-- What the counts of a table say after one row is replaced, a row is taken off the free stack, or a table is opened. Each by induction on the list.
use mathlib.Core.Path.{◌≡◌, refl, sym, ◌∙◌}
use mathlib.Core.Logic.{◌≢◌}
use mathlib.Core.Bool.{Bool, true, false}
use mathlib.Core.List.{List, [], ◌∷◌, ◌++◌}
use Prim.Native.Nat.{ℕ, zero, suc, ◌+◌, ◌≤◌, ◌<◌}
use native.Mathlib.Nat.{not-suc-le-zero, le_of_suc-le-suc}
use native.Mathlib.Decide.{ℕ_discrete}
use native.Mathlib.Omega.{arith}
use borrow.Author.Tests.{eq-eqb, ne_eqb}
use lib.Dec.{eqb}
use lib.ListN.{length, get_or, set, replicate}
use Rattle.layout.specs.Pick.{pick}
use Rattle.std.specs.declared.option.Option.TheVariants.{Some as Back}
use Rattle.completion.specs.declared.Completion.{Completion}
use Rattle.model.specs.declared.Row.{Row}
use Rattle.model.specs.State.{Owner, Owner.host, Owner.table, Owner.lost, freed, up_from, awaiting, live_rows}
use Rattle.step.specs.Sound.{row_holds, rows_hold, holds, ready_hold, table_has}
use Rattle.step.specs.Lists.{times}

-- ---- one row is replaced

pub live_set : (l : List Row) (r : ℕ) (x d : Row) → r < length l → live_rows (set l r x) + awaiting (get_or l r d).awaits ≡ live_rows l + awaiting x.awaits
unfolding live_rows
live_set [] r x d h = absurd (not-suc-le-zero h)
live_set (y ∷ ys) zero x d h = omega arith
live_set (y ∷ ys) (suc r) x d h = omega (arith, live_set ys r x d (le_of_suc-le-suc h))

pub hold_set : (b : ℕ) (l : List Row) (r : ℕ) (x d : Row) → r < length l → rows_hold b (set l r x) + row_holds b (get_or l r d) ≡ rows_hold b l + row_holds b x
unfolding rows_hold
hold_set b [] r x d h = absurd (not-suc-le-zero h)
hold_set b (y ∷ ys) zero x d h = omega arith
hold_set b (y ∷ ys) (suc r) x d h = omega (arith, hold_set b ys r x d (le_of_suc-le-suc h))

pick_zero : (t : Bool) → ◌≡◌ {A = ℕ} (pick t 0 0) 0
unfolding pick
pick_zero true = refl
pick_zero false = refl

-- a row that awaits nothing holds no buffer, and a live one its own and no other
pub holds_none : (b : ℕ) (x : Row) → awaiting x.awaits ≡ 0 → row_holds b x ≡ 0
unfolding row_holds
holds_none b x e = rw e (pick_zero (eqb x.buffer b))

pub holds_own : (x : Row) → row_holds x.buffer x ≡ awaiting x.awaits
unfolding row_holds pick
holds_own x = rw (eq-eqb x.buffer x.buffer refl)

pub holds_other : (b : ℕ) (x : Row) → b ≢ x.buffer → row_holds b x ≡ 0
unfolding row_holds pick
holds_other b x n = rw (ne_eqb x.buffer b (λ e. n (sym e)))

-- ---- the completions and the owners

pub ready_join : (b : ℕ) (xs ys : List Completion) → ready_hold b (xs ++ ys) ≡ ready_hold b xs + ready_hold b ys
unfolding ready_hold
ready_join b [] ys = omega arith
ready_join b (x ∷ xs) ys = omega (arith, ready_join b xs ys)

pub back_holds_own : (b n : ℕ) → holds b (Back (record { buffer = b; len = n })) ≡ 1
unfolding holds pick
back_holds_own b n = rw (eq-eqb b b refl)

pub back_holds_other : (b k n : ℕ) → b ≢ k → holds b (Back (record { buffer = k; len = n })) ≡ 0
unfolding holds pick
back_holds_other b k n ne = rw (ne_eqb k b (λ e. ne (sym e)))

pub has_most : (w : Owner) → table_has w ≤ 1
unfolding table_has
has_most host = omega arith
has_most table = omega arith
has_most lost = omega arith

-- ---- the free stack

pub times_same : (r : ℕ) (xs : List ℕ) → times r (r ∷ xs) ≡ 1 + times r xs
unfolding times pick
times_same r xs = rw (eq-eqb r r refl)

pub times_other : (r x : ℕ) (xs : List ℕ) → r ≢ x → times r (x ∷ xs) ≡ times r xs
unfolding times pick
times_other r x xs n = rw (ne_eqb r x n) (omega arith)

-- ---- an opened table

pub times_below : (n k r : ℕ) → r < k → times r (up_from k n) ≡ 0
unfolding times up_from
times_below zero k r h = refl
times_below (suc n) k r h = times_other r k (up_from (suc k) n) (λ e. omega arith) ∙ times_below n (suc k) r (omega arith)

pub times_above : (n k r : ℕ) → k + n ≤ r → times r (up_from k n) ≡ 0
unfolding times up_from
times_above zero k r h = refl
times_above (suc n) k r h = times_other r k (up_from (suc k) n) (λ e. omega arith) ∙ times_above n (suc k) r (omega arith)

pub times_in : (n k r : ℕ) → k ≤ r → r < k + n → times r (up_from k n) ≡ 1
unfolding up_from
times_in zero k r h g = absurd (omega arith)
times_in (suc n) k r h g = by_case (ℕ_discrete r k) (λ above. times_in n (suc k) r above (omega arith))
  where
    by_case : Dec (r ≡ k) → (suc k ≤ r → times r (up_from (suc k) n) ≡ 1) → times r (k ∷ up_from (suc k) n) ≡ 1
    by_case (yes e) behind = rw (← e) (omega (arith, times_same r (up_from (suc r) n), times_below n (suc r) r (omega arith)))
    by_case (no ne) behind = times_other r k (up_from (suc k) n) ne ∙ behind (omega (arith, ne))

pub live_none : (n g : ℕ) → live_rows (replicate n (freed g)) ≡ 0
unfolding live_rows awaiting freed
live_none zero g = refl
live_none (suc n) g = omega (arith, live_none n g)

pub hold_none : (b n g : ℕ) → rows_hold b (replicate n (freed g)) ≡ 0
unfolding rows_hold awaiting freed
hold_none b zero g = refl
hold_none b (suc n) g = omega (arith, holds_none b (freed g) refl, hold_none b n g)

-- of equal elements each is the one that also stands past the end
pub all_alike : {A : Type 0} (n i : ℕ) (a : A) → get_or (replicate n a) i a ≡ a
all_alike zero i a = refl
all_alike (suc n) zero a = refl
all_alike (suc n) (suc i) a = all_alike n i a

pub had_none : (n b : ℕ) → table_has (get_or (replicate n host) b lost) ≡ 0
unfolding table_has
had_none zero b = refl
had_none (suc n) zero = refl
had_none (suc n) (suc b) = had_none n b
