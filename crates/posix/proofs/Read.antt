-- A read by its pieces is one read: each piece brings the card's bytes of its positions, and the card never changes.
use mathlib.Core.Path.{◌≡◌, refl, sym, ap, ◌∙◌}
use mathlib.Core.List.{List, [], ◌∷◌, ◌++◌, append_assoc}
use Prim.Native.Nat.{ℕ, zero, suc, ◌+◌, ◌<◌}
use native.Mathlib.Omega.{arith}
use native.Mathlib.Nat.{add_assoc, add-zero, zero-add, add-suc, suc-add}
use lib.ListN.{length, drop, get_or, length-drop}
use lib.Seq.{length-take-le, ext_get_or, drop-append-le}
use Rattle.regionmap.specs.Map.{Map, Piece, place}
use Rattle.regionmap.specs.Laws.{MapLaws}
use Rattle.iobuf.specs.Turn.{with_stretch}
use Rattle.posix.specs.Posix.{Card, pread}
use Rattle.posix.proofs.Laws.{transfer_laws}
use Rattle.posix.specs.Transfer.{CardAndPool, Operation, buffer_in, read_in, whole, Accepted, gathered, OneRead}
use Rattle.posix.proofs.Step.{First, tail, lying, front_length, lying_buffer, lying_with}
use Rattle.posix.proofs.Walk.{Takes, Joins, walk_whole}

-- ---- the card's bytes at the offsets of positions

gathered_length : (card : Card) (m : Map) (p n : ℕ) → length (gathered card m p n) ≡ n
unfolding gathered
gathered_length card m p zero = refl
gathered_length card m p (suc n) = ap suc (gathered_length card m (suc p) n)

gathered_at : (card : Card) (m : Map) (p n i : ℕ) → i < n → get_or (gathered card m p n) i 0 ≡ card (place m (p + i))
unfolding gathered
gathered_at card m p zero i h = absurd (omega arith)
gathered_at card m p (suc n) zero h = ap (λ (q : ℕ). card (place m q)) (omega arith)
gathered_at card m p (suc n) (suc i) h = gathered_at card m (suc p) n i (omega arith) ∙ ap (λ (q : ℕ). card (place m q)) (omega arith)

gathered_add : (card : Card) (m : Map) (p n k : ℕ) → gathered card m p (n + k) ≡ gathered card m p n ++ gathered card m (p + n) k
unfolding gathered
gathered_add card m p zero k = rw (zero-add, add-zero)
gathered_add card m p (suc n) k = rw (suc-add n k, add-suc p n, ← suc-add p n) (ap (λ (l : List ℕ). card (place m p) ∷ l) (gathered_add card m (suc p) n k))

-- a piece's
gathered_piece : (o : Operation) (done : ℕ) (x : Piece) (xs : List Piece) (card : Card) → First o done x xs → pread card (place o.map x.position) x.count ≡ gathered card o.map (o.start + done) x.count
gathered_piece o done x xs card f =
    let q = place o.map x.position in
    let n = x.count in
    let long = transfer_laws.count card q n in
    ext_get_or 0 (pread card q n) (gathered card o.map (o.start + done) n) (long ∙ sym (gathered_length card o.map (o.start + done) n))
    (λ i h. let k : i < n = omega arith in
    transfer_laws.reads card q n i k ∙ ap card (sym (f.consecutive i k) ∙ ap (place o.map) (omega arith)) ∙ sym (gathered_at card o.map (o.start + done) n i k))

-- ---- the pieces

-- the card's bytes came, and the card stayed
record Brought (o : Operation) (done : ℕ) (bytes new : List ℕ) (before after : Card) : Type 0 where
  came : new ≡ gathered before o.map (o.start + done) (length bytes)
  stayed : after ≡ before

-- a piece and those behind it
brought_both : (o : Operation) (pool : List ℕ) → Joins o read_in (Brought o) pool
brought_both o pool done n bytes new later a b c k l p q = record { came = came; stayed = q.stayed ∙ p.stayed }
  where
    came : new ++ later ≡ gathered a o.map (o.start + done) (length bytes)
    came =
        rw (p.came, q.came, p.stayed, length-take-le n bytes k, ← add_assoc o.start done n, ← gathered_add a o.map (o.start + done) n (length (drop n bytes)))
        (ap (gathered a o.map (o.start + done)) (omega (arith, length-drop n bytes)))

taken : (o : Operation) (pool : List ℕ) → Accepted o pool → Takes o read_in (Brought o) pool
unfolding read_in
taken o pool ok done x xs f rest before s l r fits =
    let n = x.count in
    let new = pread s.card (place o.map x.position) n in
    let bytes : new ++ drop n (buffer_in o (lying o pool rest before)) ≡ (new ++ drop n rest) ++ (before ++ tail o pool) =
    rw (lying_buffer o pool ok rest before r, append_assoc) (ap (λ (z : List ℕ). new ++ z) (drop-append-le n rest (before ++ tail o pool) fits)) in
    record {
      new = new;
      long = transfer_laws.count s.card (place o.map x.position) n;
      moved = record { came = gathered_piece o done x xs s.card f ∙ ap (gathered s.card o.map (o.start + done)) (sym (length-take-le n rest fits)); stayed = refl };
      brought = ap (λ (z : List ℕ). with_stretch o.capacity o.buffer (new ++ drop n (buffer_in o z)) z) l
          ∙ lying_with o pool ok rest before (new ++ drop n (buffer_in o (lying o pool rest before))) r
          ∙ ap (λ (z : List ℕ). with_stretch o.capacity o.buffer z pool) bytes;
    }

pub read : MapLaws → (o : Operation) (s : CardAndPool) → Accepted o s.pool → OneRead o s (whole read_in o s)
read laws o s ok =
    let none : (done : ℕ) (a : Card) → Brought o done [] [] a a = λ done a. unfold gathered in record { came = refl; stayed = refl } in
    let end = walk_whole laws o read_in (Brought o) s ok (record { none = none; piece = taken o s.pool ok; both = brought_both o s.pool }) in
    let came = rw (add-zero, front_length o s.pool ok) at end.moved.came in
    record { card = λ x. ap (λ (card : Card). card x) end.moved.stayed; pool = end.arranged ∙ ap (lying o s.pool []) came }
