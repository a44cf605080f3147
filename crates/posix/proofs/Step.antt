-- One step of a write or a read. The pieces left lead from the bytes done to the whole. While they are taken the buffer is rest ++ before ++
-- tail, where before ++ rest ++ tail is its first arrangement: a piece's turn moves its bytes from the front of rest to the end of before, the
-- last piece's too, since with no rest the two arrangements are one.
use mathlib.Core.Path.{◌≡◌, sym, ap, ◌∙◌}
use mathlib.Core.List.{List, [], ◌∷◌, ◌++◌, append-nil, append_assoc}
use Prim.Native.Nat.{ℕ, ◌+◌, ◌-◌, ◌≤◌, ◌<◌}
use native.Mathlib.Omega.{arith}
use native.Mathlib.Nat.{add_assoc, add-zero}
use lib.ListN.{length, take, drop, length-append, length-drop, take-append-drop}
use lib.Seq.{length-take-le}
use Rattle.regionmap.specs.Map.{Map, Piece, pieces, place}
use Rattle.regionmap.specs.Laws.{Lawful, Chain, MapLaws}
use Rattle.iobuf.specs.Turn.{with_stretch, turned_in}
use Rattle.posix.specs.Transfer.{Operation, buffer_in, turn_after, Accepted}
use Rattle.iobuf.proofs.Laws.{turn_laws}
use Rattle.posix.proofs.Turned.{turned_parts, turned_with}

-- ---- the pieces left

-- the pieces left with done bytes before them
abbrev pub Left : Operation → ℕ → List Piece → Type 0
Left o done xs = Chain o.map (o.start + done) xs (o.start + o.total)

pub left_none : (o : Operation) (done : ℕ) → Left o done [] → done ≡ o.total
unfolding Chain
left_none o done c = let e : o.start + done ≡ o.start + o.total = c in omega arith

chain_ends : (m : Map) (p e : ℕ) (xs : List Piece) → Chain m p xs e → p ≤ e
unfolding Chain
chain_ends m p e [] c = let h : p ≡ e = c in omega arith
chain_ends m p e (x ∷ xs) c = let h = chain_ends m (p + x.count) e xs c.3 in omega arith

-- the first of them: it ends within the range, its bytes are consecutive on the card, and the others follow
pub record First (o : Operation) (done : ℕ) (x : Piece) (xs : List Piece) : Type 0 where
  pub ends : done + x.count ≤ o.total
  pub consecutive : (j : ℕ) → j < x.count → place o.map (o.start + (done + j)) ≡ place o.map x.position + j
  pub follow : Left o (done + x.count) xs

pub first : MapLaws → (o : Operation) → Lawful o.map → o.start + o.total ≤ o.map.data_length → (done : ℕ) (x : Piece) (xs : List Piece) → Left o done (x ∷ xs) → First o done x xs
unfolding Chain
first laws o lawful in_data done x xs c =
    let m = o.map in
    let p = o.start + done in
    let e = o.start + o.total in
    let h = chain_ends m (p + x.count) e xs c.3 in
    let k : 0 < x.count = c.2 in
    let one = laws.one_piece m lawful p (e - p) (omega arith) (omega arith) in
    record {
      ends = omega arith;
      consecutive = λ j l. ap (place m) (sym (add_assoc o.start done j)) ∙ one.consecutive j (rw (← c.1) l) ∙ ap (λ (q : ℕ). place m q + j) (sym c.0);
      follow = rw add_assoc at c.3;
    }

-- all pieces of the operation
pub all_left : MapLaws → (o : Operation) → Lawful o.map → o.start + o.total ≤ o.map.data_length → Left o 0 (pieces o.map o.start o.total)
all_left laws o lawful in_data = rw add-zero (laws.covered o.map lawful o.start o.total in_data)

-- ---- the buffer

-- the operation's bytes at first, and the buffer's bytes behind them
abbrev pub front : Operation → List ℕ → List ℕ
front o pool = take o.total (buffer_in o pool)

abbrev pub tail : Operation → List ℕ → List ℕ
tail o pool = drop o.total (buffer_in o pool)

-- the pool while bytes are left: the operation's bytes left, then those before them
abbrev pub lying : Operation → List ℕ → List ℕ → List ℕ → List ℕ
lying o pool rest before = with_stretch o.capacity o.buffer (rest ++ (before ++ tail o pool)) pool

module _ (o : Operation) (pool : List ℕ) (ok : Accepted o pool) where
  buffer_length : length (buffer_in o pool) ≡ o.capacity
  buffer_length = turn_laws.stretch_length o.capacity o.buffer pool ok.in_pool

  pub front_length : length (front o pool) ≡ o.total
  front_length = length-take-le o.total (buffer_in o pool) (omega (arith, buffer_length, ok.in_buffer))

  tail_length : o.total + length (tail o pool) ≡ o.capacity
  tail_length = rw length-drop (omega (arith, buffer_length, ok.in_buffer))

  -- the pool at first
  pub lying_first : lying o pool (front o pool) [] ≡ pool
  lying_first = rw (take-append-drop o.total (buffer_in o pool)) (turn_laws.filled_own o.capacity o.buffer pool)

  -- as long as the buffer
  full : (rest before : List ℕ) → length rest + length before ≡ o.total → length (rest ++ (before ++ tail o pool)) ≡ o.capacity
  full rest before h = simp length-append (omega (arith, tail_length))

  -- what the buffer holds
  pub lying_buffer : (rest before : List ℕ) → length rest + length before ≡ o.total → buffer_in o (lying o pool rest before) ≡ rest ++ (before ++ tail o pool)
  lying_buffer rest before h = turn_laws.stretch_filled o.capacity o.buffer (rest ++ (before ++ tail o pool)) pool ok.in_pool (full rest before h)

  -- other bytes put there
  pub lying_with : (rest before bytes : List ℕ) → length rest + length before ≡ o.total → with_stretch o.capacity o.buffer bytes (lying o pool rest before) ≡ with_stretch o.capacity o.buffer bytes pool
  lying_with rest before bytes h = turn_laws.filled_twice o.capacity o.buffer (rest ++ (before ++ tail o pool)) bytes pool ok.in_pool (full rest before h)

  -- the operation's bytes, a then b, turn left by a
  turned_lying : (k : ℕ) (a b x y : List ℕ) → x ≡ a ++ (b ++ tail o pool) → b ++ (a ++ tail o pool) ≡ y → length a ≡ k → length a + length b ≡ o.total
      → turned_in o.capacity o.buffer o.total k (with_stretch o.capacity o.buffer x pool) ≡ with_stretch o.capacity o.buffer y pool
  turned_lying k a b x y e f p q =
      rw (e, ← f)
      (turned_with o.capacity o.buffer pool ok.in_pool (a ++ (b ++ tail o pool)) (full a b q) o.total k
      ∙ ap (λ (z : List ℕ). with_stretch o.capacity o.buffer z pool) (turned_parts o.total k a b (tail o pool) p q))

  pub after_piece : (done : ℕ) (x : Piece) (xs : List Piece) (new rest before : List ℕ) → length before ≡ done → length new ≡ x.count
      → length before + (length new + length rest) ≡ o.total → Left o (done + x.count) xs → turn_after o done x xs (lying o pool (new ++ rest) before) ≡ lying o pool rest (before ++ new)
  unfolding turn_after
  after_piece done x [] new [] before b n r c = turned_lying _ new before _ _ (simp append-nil) (simp append_assoc) (omega (arith, left_none o (done + x.count) c)) (omega arith)
  after_piece done x [] new (y ∷ ys) before b n r c = absurd (omega (arith, left_none o (done + x.count) c))
  after_piece done x (y ∷ ys) new rest before b n r c = turned_lying _ new (rest ++ before) _ _ (simp append_assoc) (simp append_assoc) (omega arith) (simp length-append (omega arith))
