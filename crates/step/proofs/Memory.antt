-- How an accepted submission shows in what is lent, and how the lengths of a call compare with those of the opening: each part of the state is
-- read off the words as before, with one element stored.
use mathlib.Core.Path.{◌≡◌, refl, sym, ap, ◌∙◌}
use mathlib.Core.Bool.{Bool, true, false, ◌&&◌}
use mathlib.Core.List.{List, [], ◌∷◌, map}
use Prim.Native.Nat.{ℕ, zero, suc, ◌<◌}
use native.Mathlib.Omega.{arith}
use lib.ListN.{length, get_or, set, take, drop}
use lib.Seq.{take-set-lt, drop-drop}
use lib.Dec.{leb, eqb}
use borrow.Author.Tests.{le-leb, eqb-true}
use Rattle.layout.specs.Pick.{pick}
use Rattle.layout.proofs.Tests.{and_left, and_right}
use Rattle.model.specs.declared.Counts.{Counts}
use Rattle.model.specs.declared.Row.{Row}
use Rattle.model.specs.declared.Lengths.{Lengths}
use Rattle.model.specs.State.{State, Owner.table}
use Rattle.model.specs.Memory.{Lent, lengths_of, lengths_in, same_lengths, settings_in, owner_in, state_in}
use Rattle.step.specs.Step.{one_more, eq_lengths}
use Rattle.step.specs.Sound.{Sound}

-- a stored word's owner
map_set : {A B : Type 0} (f : A → B) (l : List A) (i : ℕ) (a : A) → map f (set l i a) ≡ set (map f l) i (f a)
map_set f [] i a = refl
map_set f (x ∷ xs) zero a = refl
map_set f (x ∷ xs) (suc i) a = ap (λ r. f x ∷ r) (map_set f xs i a)

-- what is lent, with a row stored and a buffer lent on
abbrev pub stored_in : Lent → ℕ → Row → ℕ → Lent
stored_in l r row b = record { rows = set l.rows r row; store = l.store; free = l.free; ready = l.ready; owners = set l.owners b 1; pool = l.pool }

-- the state, with the row on top of the stack taken for a row and a buffer gone to the table
abbrev pub taken : State → ℕ → Row → ℕ → State
taken s r row b =
    record { settings = s.settings; lengths = s.lengths; regions = s.regions; poison = s.poison; counts = one_more s.counts; rows = set s.rows r row; free = drop 1 s.free; ready = s.ready; owners = set s.owners b table; pool = s.pool }

pub taken_in : (c : Counts) (l : Lent) (r : ℕ) (row : Row) (b : ℕ) → r < (settings_in l.store).depth → b < (settings_in l.store).buffers
    → state_in (one_more c) (stored_in l r row b) ≡ taken (state_in c l) r row b
unfolding state_in one_more owner_in pick
taken_in c l r row b below among =
    λ i. record { settings = s.settings; lengths = s.lengths; regions = s.regions; poison = s.poison; counts = one_more c; rows = take-set-lt d l.rows r row below i; free = sym (drop-drop 1 c.live (take d l.free)) i; ready = s.ready; owners = owners_are i; pool = s.pool }
  where
    s : State
    s = state_in c l

    d : ℕ
    d = (settings_in l.store).depth

    n : ℕ
    n = (settings_in l.store).buffers

    owners_are : map owner_in (take n (set l.owners b 1)) ≡ set (map owner_in (take n l.owners)) b table
    owners_are = ap (map owner_in) (take-set-lt n l.owners b 1 among) ∙ map_set owner_in (take n l.owners) b 1

-- a test that another one implies adds nothing to it
absorbed : (a b : Bool) → (b ≡ true → a ≡ true) → (a && b) ≡ b
absorbed true b h = refl
absorbed false true h = h refl
absorbed false false h = refl

-- of a sound table the words are as many as the opening was lent, so that the two tests of the lengths agree
pub lengths_same : (c : Counts) (l : Lent) → Sound (state_in c l) → same_lengths (lengths_of l) l.store ≡ eq_lengths (lengths_of l) (lengths_in l.store)
unfolding same_lengths eq_lengths lengths_of lengths_in state_in
lengths_same c l i =
    let w = l.store in
    let pools = eqb (length l.owners) (get_or w 17 0) && eqb (length l.pool) (get_or w 18 0) in
    let stacks = eqb (length l.free) (get_or w 15 0) && (eqb (length l.ready) (get_or w 16 0) && pools) in
    absorbed (leb 48 (length w)) (eq_lengths (lengths_of l) (lengths_in w)) λ e.
    let both = and_right (eqb (length l.rows) (get_or w 13 0)) (eqb (length w) (get_or w 14 0) && stacks) e in
    let same = eqb-true (length w) (get_or w 14 0) (and_left (eqb (length w) (get_or w 14 0)) stacks both) in
    let enough = i.room.store in
    le-leb 48 (length w) (omega (arith, same, enough))

-- the lengths are those that the words remember
pub lengths_are : (l : Lengths) (s : List ℕ) → same_lengths l s ≡ true → l ≡ lengths_in s
unfolding same_lengths lengths_in
lengths_are l s e =
    let rows = eqb l.rows (get_or s 13 0) in
    let store = eqb l.store (get_or s 14 0) in
    let free = eqb l.free (get_or s 15 0) in
    let ready = eqb l.ready (get_or s 16 0) in
    let owners = eqb l.owners (get_or s 17 0) in
    let pool = eqb l.pool (get_or s 18 0) in
    let e₁ = and_right (leb 48 (length s)) (rows && (store && (free && (ready && (owners && pool))))) e in
    let e₂ = and_right rows (store && (free && (ready && (owners && pool)))) e₁ in
    let e₃ = and_right store (free && (ready && (owners && pool))) e₂ in
    let e₄ = and_right free (ready && (owners && pool)) e₃ in
    let e₅ = and_right ready (owners && pool) e₄ in
    λ i. record {
      rows = eqb-true l.rows (get_or s 13 0) (and_left rows (store && (free && (ready && (owners && pool)))) e₁) i;
      store = eqb-true l.store (get_or s 14 0) (and_left store (free && (ready && (owners && pool))) e₂) i;
      free = eqb-true l.free (get_or s 15 0) (and_left free (ready && (owners && pool)) e₃) i;
      ready = eqb-true l.ready (get_or s 16 0) (and_left ready (owners && pool) e₄) i;
      owners = eqb-true l.owners (get_or s 17 0) (and_left owners pool e₅) i;
      pool = eqb-true l.pool (get_or s 18 0) (and_right owners pool e₅) i;
    }
