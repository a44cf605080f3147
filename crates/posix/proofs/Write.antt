-- A write by its pieces is one write: the bytes of each piece arrive at their card offsets, and every other byte of the card stays. No later
-- piece touches a byte that has arrived: the range's offsets are distinct.
use mathlib.Core.Path.{◌≡◌, refl, sym, ap, ap₂, ◌∙◌}
use mathlib.Core.List.{List, [], ◌++◌}
use Prim.Native.Nat.{ℕ, ◌+◌, ◌-◌, ◌<◌}
use native.Mathlib.Omega.{arith}
use native.Mathlib.Decide.{dec_lt}
use lib.ListN.{length, take, get_or, length-drop, take-append-drop}
use lib.Seq.{length-take-le, take-append-le, get_or-take, get_or-drop}
use Rattle.regionmap.specs.Map.{Piece, place}
use Rattle.regionmap.specs.Laws.{MapLaws}
use Rattle.posix.specs.Posix.{Card, pwrite}
use Rattle.posix.proofs.Laws.{transfer_laws}
use Rattle.posix.specs.Transfer.{CardAndPool, Operation, buffer_in, wrote, whole, Accepted, Distinct, OneWrite}
use Rattle.posix.proofs.Step.{First, tail, lying, front_length, lying_first, lying_buffer}
use Rattle.posix.proofs.Walk.{Takes, Joins, walk_whole}

-- the bytes from done on arrived, and no other; in the buffer they stay
record Arrived (o : Operation) (done : ℕ) (bytes new : List ℕ) (before after : Card) : Type 0 where
  same : new ≡ bytes
  arrived : (i : ℕ) → i < length bytes → after (place o.map (o.start + (done + i))) ≡ get_or bytes i 0
  others : (x : ℕ) → ((i : ℕ) → i < length bytes → place o.map (o.start + (done + i)) ≡ x → ⊥) → after x ≡ before x

-- a piece, with the bytes that it takes from the buffer
arrived_piece : (o : Operation) (done : ℕ) (x : Piece) (xs : List Piece) → First o done x xs → (bytes taken : List ℕ) (card : Card) → length bytes ≡ x.count → taken ≡ bytes
    → Arrived o done bytes bytes card (pwrite card (place o.map x.position) taken)
arrived_piece o done x xs f bytes taken card e t =
    rw t
    (record {
      same = refl;
      arrived = λ i h. ap (pwrite card (place o.map x.position) bytes) (f.consecutive i (omega arith)) ∙ transfer_laws.replaces card (place o.map x.position) bytes i h;
      others = λ y away. transfer_laws.others card (place o.map x.position) bytes y (λ i h p. away i h (f.consecutive i (omega arith) ∙ p));
    })

-- a piece and those behind it
arrived_both : (o : Operation) (pool : List ℕ) → Distinct o → Joins o wrote (Arrived o) pool
arrived_both o pool distinct done n bytes new later a b c k l p q =
    record {
      same = ap₂ ◌++◌ p.same q.same ∙ take-append-drop n bytes;
      arrived = λ i h. go i h (dec_lt i n);
      others = λ x away. q.others x (λ i h e. away (n + i) (omega (arith, length-drop n bytes)) (ap at (omega arith) ∙ e)) ∙ p.others x (λ i h e. away i (omega (arith, size)) e);
    }
  where
    at : ℕ → ℕ
    at i = place o.map (o.start + i)

    size : length (take n bytes) ≡ n
    size = length-take-le n bytes k

    go : (i : ℕ) → i < length bytes → Dec (i < n) → c (place o.map (o.start + (done + i))) ≡ get_or bytes i 0
    go i h (yes s) =
        q.others (at (done + i)) (λ j t e. let u = distinct (done + n + j) (done + i) (omega (arith, length-drop n bytes)) (omega arith) e in omega arith)
        ∙ p.arrived i (omega (arith, size))
        ∙ get_or-take n bytes i 0 s
    go i h (no s) =
        ap (λ (j : ℕ). c (at j)) (omega arith) ∙ q.arrived (i - n) (omega (arith, length-drop n bytes)) ∙ get_or-drop n bytes (i - n) 0 ∙ ap (λ (j : ℕ). get_or bytes j 0) (omega arith)

taken : (o : Operation) (pool : List ℕ) → Accepted o pool → Takes o wrote (Arrived o) pool
unfolding wrote
taken o pool ok done x xs f rest before s l r fits =
    let n = x.count in
    let long : length (take n rest) ≡ n = length-take-le n rest fits in
    let bytes : take n (buffer_in o s.pool) ≡ take n rest = rw (l, lying_buffer o pool ok rest before r) (take-append-le n rest (before ++ tail o pool) fits) in
    record {
      new = take n rest;
      long = long;
      moved = arrived_piece o done x xs f (take n rest) _ s.card long bytes;
      brought = l ∙ ap (λ (z : List ℕ). lying o pool z before) (sym (take-append-drop n rest));
    }

pub write : MapLaws → (o : Operation) (s : CardAndPool) → Accepted o s.pool → Distinct o → OneWrite o s (whole wrote o s)
write laws o s ok distinct =
    let none : (done : ℕ) (a : Card) → Arrived o done [] [] a a = λ done a. record { same = refl; arrived = λ i h. absurd (omega arith); others = λ x away. refl } in
    let end = walk_whole laws o wrote (Arrived o) s ok (record { none = none; piece = taken o s.pool ok; both = arrived_both o s.pool distinct }) in
    let all = front_length o s.pool ok in
    let same : (i : ℕ) → place o.map (o.start + i) ≡ place o.map (o.start + (0 + i)) = λ i. ap (λ (j : ℕ). place o.map (o.start + j)) (omega arith) in
    record {
      arrived = λ i h. ap (whole wrote o s).card (same i) ∙ end.moved.arrived i (omega arith) ∙ get_or-take o.total (buffer_in o s.pool) i 0 h;
      others = λ x away. end.moved.others x (λ i h e. away i (omega arith) (same i ∙ e));
      pool = end.arranged ∙ ap (lying o s.pool []) end.moved.same ∙ lying_first o s.pool ok;
    }
