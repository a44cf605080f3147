-- Where `fill` may write the host may: the buffer is one that it holds, or the bytes are within a read's piece under way.
use mathlib.Core.Path.{◌≡◌, refl, sym, ap, ◌∙◌, subst}
use mathlib.Core.Logic.{◌⊎◌, inl, inr}
use mathlib.Core.Bool.{Bool, true, false, ◌&&◌, ◌||◌}
use mathlib.Core.List.{List, [], ◌∷◌, ◌++◌, append_assoc}
use Prim.Native.Nat.{ℕ, zero, suc, ◌+◌, ◌-◌, ◌*◌, ◌≤◌}
use native.Mathlib.Nat.{le_of_suc-le-suc, not-suc-le-zero}
use native.Mathlib.Decide.{ℕ_discrete}
use native.Mathlib.Omega.{arith}
use lib.ListN.{length, get_or, take, drop, length-append, length-drop}
use lib.Seq.{take-take, take-add, drop-drop, drop-append-add, length-take-le}
use lib.Dec.{eqb, leb, ltb}
use borrow.Author.Tests.{eqb-true, leb-true}
use Rattle.layout.proofs.Tests.{and_left, and_right, not_both}
use Rattle.iobuf.specs.Turn.{stretch, with_stretch}
use Rattle.iobuf.specs.TurnLaws.{Fits}
use Rattle.iobuf.proofs.Laws.{turn_laws}
use Rattle.model.specs.declared.{Awaits.Awaits, Row.Row}
use Rattle.model.specs.declared.Kind.TheVariants as Kind
use Rattle.model.specs.State.{State, freed}
use Rattle.step.specs.Questions.{held_at}
use Rattle.step.specs.Step.{row_at, bytes_at, is_live}
use Rattle.step.specs.Lists.{loose, plan_at, LooseIn, HostMay}
use Rattle.hostfill.specs.Writes.{fill_bytes, filled, in_pool}
use Rattle.hostfill.specs.MayFill.{reads, loose_row, any_loose, may_fill}

-- ---- the bytes of one buffer

-- what is behind the first m of c elements, and then what is behind the c
behind : {A : Type 0} (m c : ℕ) (l : List A) → m ≤ c → drop m (take c l) ++ drop c l ≡ drop m l
behind zero zero l le = refl
behind zero (suc c) [] le = refl
behind zero (suc c) (y ∷ l) le = ap (λ r. y ∷ r) (behind zero c l (omega arith))
behind (suc m) zero l le = absurd (not-suc-le-zero le)
behind (suc m) (suc c) [] le = refl
behind (suc m) (suc c) (y ∷ l) le = behind m c l (le_of_suc-le-suc le)

-- bytes put into the stretch of a buffer, at a place of it
module _ (capacity b at n : ℕ) (mid pool : List ℕ) (inside : at + n ≤ capacity) where
  abbrev old : List ℕ
  old = stretch capacity b pool

  abbrev changed : List ℕ
  changed = take at old ++ (mid ++ drop (at + n) old)

  front_is : take (b * capacity + at) pool ≡ take (b * capacity) pool ++ take at old
  unfolding stretch
  front_is = take-add (b * capacity) at pool ∙ ap (λ (r : List ℕ). take (b * capacity) pool ++ r) (sym (take-take at capacity (drop (b * capacity) pool) (omega (arith, inside))))

  back_is : drop (b * capacity + at + n) pool ≡ drop (at + n) old ++ drop (b * capacity + capacity) pool
  unfolding stretch
  back_is =
      let far : b * capacity + at + n ≡ b * capacity + (at + n) = omega arith in
      ap (λ (k : ℕ). drop k pool) far ∙ sym (drop-drop (at + n) (b * capacity) pool) ∙ sym (behind (at + n) capacity (drop (b * capacity) pool) inside)
      ∙ ap (λ (r : List ℕ). drop (at + n) (take capacity (drop (b * capacity) pool)) ++ r) (drop-drop capacity (b * capacity) pool)

  pub put_in : (take (b * capacity + at) pool ++ mid) ++ drop (b * capacity + at + n) pool ≡ with_stretch capacity b changed pool
  unfolding with_stretch
  put_in =
      let a = take (b * capacity) pool in
      let d = drop (b * capacity + capacity) pool in
      (λ j. (front_is j ++ mid) ++ back_is j)
      ∙ append_assoc (a ++ take at old) mid (drop (at + n) old ++ d)
      ∙ append_assoc a (take at old) (mid ++ (drop (at + n) old ++ d))
      ∙ ap (λ (r : List ℕ). a ++ r) (ap (λ (r : List ℕ). take at old ++ r) (sym (append_assoc mid (drop (at + n) old) d)) ∙ sym (append_assoc (take at old) (mid ++ drop (at + n) old) d))

  module _ (fits : Fits capacity b pool) (long : length mid ≡ n) where
    pub changed_long : length changed ≡ capacity
    changed_long =
        let o = turn_laws.stretch_length capacity b pool fits in
        let x = length-append (take at old) (mid ++ drop (at + n) old) in
        let y = length-append mid (drop (at + n) old) in
        let z = length-take-le at old (omega (arith, o, inside)) in
        let w = length-drop (at + n) old in
        omega (arith, o, x, y, z, w, long, inside)

    -- what is behind the bytes is as it was
    pub changed_behind : (m : ℕ) → at + n ≤ m → drop m changed ≡ drop m old
    changed_behind m le =
        let o = turn_laws.stretch_length capacity b pool fits in
        let z = length-take-le at old (omega (arith, o, inside)) in
        let k : ℕ = m - (at + n) in
        let e : m ≡ length (take at old) + (length mid + k) = omega (arith, z, long, le) in
        let f : m ≡ at + n + k = omega (arith, le) in
        ap (λ (i : ℕ). drop i changed) e ∙ drop-append-add (take at old) (mid ++ drop (at + n) old) (length mid + k) ∙ drop-append-add mid (drop (at + n) old) k
        ∙ drop-drop k (at + n) old ∙ ap (λ (i : ℕ). drop i old) (sym f)

-- ---- the row whose piece covers them

pub record Covering (s : State) (b end : ℕ) (rows : List Row) : Type 0 where
  pub r : ℕ
  pub covers : loose_row s b end (get_or rows r (freed 0)) ≡ true

either : (a b : Bool) → (a || b) ≡ true → (a ≡ true) ⊎ (b ≡ true)
either true b e = inl refl
either false b e = inr e

covering : (s : State) (b end : ℕ) (rows : List Row) → any_loose s b end rows ≡ true → Covering s b end rows
unfolding any_loose
covering s b end [] e = absurd (not_both e refl)
covering s b end (x ∷ xs) e = by_case (either (loose_row s b end x) (any_loose s b end xs) e) (covering s b end xs)
  where
    by_case : (loose_row s b end x ≡ true) ⊎ (any_loose s b end xs ≡ true) → (any_loose s b end xs ≡ true → Covering s b end xs) → Covering s b end (x ∷ xs)
    by_case (inl c) more = record { r = 0; covers = c }
    by_case (inr c) more = let z = more c in record { r = suc z.r; covers = z.covers }

reads_live : (a : Awaits) → reads a ≡ true → is_live a ≡ true
unfolding reads is_live
reads_live Awaits.Nothing e = absurd (not_both e refl)
reads_live (Awaits.Piece (Kind.Page x y) p) e = refl
reads_live (Awaits.Piece (Kind.Read x y) p) e = refl
reads_live (Awaits.Flush t) e = refl

long_fill : (seed i n : ℕ) → length (fill_bytes seed i n) ≡ n
unfolding fill_bytes
long_fill seed i zero = refl
long_fill seed i (suc n) = ap suc (long_fill seed (i + 1) n)

-- ---- the host may

module _ (s : State) (b at n seed : ℕ) (ok : may_fill s b at n ≡ true) where
  abbrev capacity : ℕ
  capacity = s.settings.capacity

  abbrev mid : List ℕ
  mid = fill_bytes seed 0 n

  in_pool_lem : in_pool s.settings.buffers capacity s.pool b at n ≡ true
  unfolding may_fill
  in_pool_lem = and_left (in_pool s.settings.buffers capacity s.pool b at n) (held_at s b || any_loose s b (at + n) s.rows) ok

  inside : at + n ≤ capacity
  unfolding in_pool
  inside =
      leb-true (at + n) capacity (and_left (leb (at + n) capacity) (leb (b * capacity + capacity) (length s.pool)) (and_right (ltb b s.settings.buffers) (leb (at + n) capacity && leb (b * capacity + capacity) (length s.pool)) in_pool_lem))

  fits : Fits capacity b s.pool
  unfolding in_pool
  fits =
      leb-true (b * capacity + capacity) (length s.pool)
      (and_right (leb (at + n) capacity) (leb (b * capacity + capacity) (length s.pool)) (and_right (ltb b s.settings.buffers) (leb (at + n) capacity && leb (b * capacity + capacity) (length s.pool)) in_pool_lem))

  abbrev bytes : List ℕ
  bytes = changed capacity b at n mid s.pool inside

  abbrev pool' : List ℕ
  pool' = filled (b * capacity + at) n seed s.pool

  pool_is : pool' ≡ with_stretch capacity b bytes s.pool
  unfolding filled
  pool_is = put_in capacity b at n mid s.pool inside

  its_bytes : stretch capacity b pool' ≡ bytes
  its_bytes = ap (stretch capacity b) pool_is ∙ turn_laws.stretch_filled capacity b bytes s.pool fits (changed_long capacity b at n mid s.pool inside fits (long_fill seed 0 n))

  loosely : Covering s b (at + n) s.rows → LooseIn s pool' b
  unfolding loose_row row_at bytes_at
  loosely z =
      let row = row_at s z.r in
      let m = loose (plan_at s row) row.awaits in
      let own = eqb row.buffer b in
      let way = reads row.awaits in
      let far = leb (at + n) m in
      let rest = and_right own (way && far) z.covers in
      record {
        r = z.r;
        buffer = eqb-true row.buffer b (and_left own (way && far) z.covers);
        live = reads_live row.awaits (and_left way far rest);
        same = ap (drop m) its_bytes ∙ changed_behind capacity b at n mid s.pool inside fits (long_fill seed 0 n) m (leb-true (at + n) m (and_right way far rest));
      }

  its_own : (held_at s b ≡ true) ⊎ (any_loose s b (at + n) s.rows ≡ true) → (held_at s b ≡ true) ⊎ ((stretch capacity b pool' ≡ bytes_at s b) ⊎ LooseIn s pool' b)
  its_own (inl h) = inl h
  its_own (inr l) = inr (inr (loosely (covering s b (at + n) s.rows l)))

  pub may_fill_lem : HostMay s pool'
  unfolding may_fill bytes_at
  may_fill_lem = record {
    count = ap length pool_is ∙ turn_laws.filled_length capacity b bytes s.pool fits (changed_long capacity b at n mid s.pool inside fits (long_fill seed 0 n));
    each = λ k below. by_case k (ℕ_discrete k b);
  }
    where
      by_case : (k : ℕ) → Dec (k ≡ b) → (held_at s k ≡ true) ⊎ ((stretch capacity k pool' ≡ bytes_at s k) ⊎ LooseIn s pool' k)
      by_case k (yes e) =
          subst (λ (i : ℕ). (held_at s i ≡ true) ⊎ ((stretch capacity i pool' ≡ bytes_at s i) ⊎ LooseIn s pool' i)) (sym e)
          (its_own (either (held_at s b) (any_loose s b (at + n) s.rows) (and_right (in_pool s.settings.buffers capacity s.pool b at n) (held_at s b || any_loose s b (at + n) s.rows) ok)))
      by_case k (no ne) = inr (inl (ap (stretch capacity k) pool_is ∙ turn_laws.stretch_other capacity b k bytes s.pool fits (changed_long capacity b at n mid s.pool inside fits (long_fill seed 0 n)) ne))
