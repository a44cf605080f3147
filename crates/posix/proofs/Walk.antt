-- The pieces of an operation one after another, by induction, for whatever a piece moves between card and buffer: a write and a read each say
-- what that is, and that two moves one behind the other are one.
use mathlib.Core.Path.{◌≡◌, refl, sym, ap, ◌∙◌}
use mathlib.Core.List.{List, [], ◌∷◌, ◌++◌, append-nil, append_assoc}
use Prim.Native.Nat.{ℕ, ◌+◌, ◌≤◌}
use native.Mathlib.Omega.{arith}
use lib.ListN.{length, take, drop, length-append, length-drop}
use Rattle.regionmap.specs.Map.{Piece, pieces}
use Rattle.regionmap.specs.Laws.{MapLaws}
use Rattle.posix.specs.Posix.{Card}
use Rattle.posix.specs.Transfer.{CardAndPool, Operation, turn_after, transferred, whole, Accepted}
use Rattle.posix.proofs.Step.{Left, left_none, First, first, all_left, front, lying, front_length, lying_first, after_piece}

-- an operation whose piece is taken whole by f. Moved done bytes new a b says of its bytes from done on that they were bytes and became new,
-- while the card a became b
module _ (o : Operation) (f : Operation → Piece → CardAndPool → CardAndPool) (Moved : ℕ → List ℕ → List ℕ → Card → Card → Type 0) (pool : List ℕ) where
  -- a piece, with the bytes that it leaves at the front of the buffer
  pub record Taken (done : ℕ) (x : Piece) (rest before : List ℕ) (s : CardAndPool) : Type 0 where
    pub new : List ℕ
    pub long : length new ≡ x.count
    pub moved : Moved done (take x.count rest) new s.card (f o x s).card
    pub brought : (f o x s).pool ≡ lying o pool (new ++ drop x.count rest) before

  abbrev pub Takes : Type 0
  Takes = (done : ℕ) (x : Piece) (xs : List Piece) → First o done x xs → (rest before : List ℕ) (s : CardAndPool) → s.pool ≡ lying o pool rest before → length rest + length before ≡ o.total → x.count ≤ length rest
      → Taken done x rest before s

  -- a piece and those behind it
  abbrev pub Joins : Type 0
  Joins = (done n : ℕ) (bytes new later : List ℕ) (a b c : Card) → n ≤ length bytes → done + length bytes ≡ o.total → Moved done (take n bytes) new a b → Moved (done + n) (drop n bytes) later b c
      → Moved done bytes (new ++ later) a c

  pub record Moves : Type 0 where
    pub none : (done : ℕ) (a : Card) → Moved done [] [] a a
    pub piece : Takes
    pub both : Joins

  -- what is left is moved, and the buffer is in its first arrangement
  pub record Walked (done : ℕ) (rest before : List ℕ) (a : Card) (after : CardAndPool) : Type 0 where
    pub new : List ℕ
    pub moved : Moved done rest new a after.card
    pub arranged : after.pool ≡ lying o pool [] (before ++ new)

module _ (laws : MapLaws) (o : Operation) (f : Operation → Piece → CardAndPool → CardAndPool) (Moved : ℕ → List ℕ → List ℕ → Card → Card → Type 0) (pool : List ℕ) (ok : Accepted o pool) (moves : Moves o f Moved pool) where
  join : (done : ℕ) (x : Piece) (rest before : List ℕ) (s after : CardAndPool) → x.count ≤ length rest → done + length rest ≡ o.total → (t : Taken o f Moved pool done x rest before s)
      → Walked o f Moved pool (done + x.count) (drop x.count rest) (before ++ t.new) (f o x s).card after → Walked o f Moved pool done rest before s.card after
  join done x rest before s after fits r t more =
      record {
        new = t.new ++ more.new;
        moved = moves.both done x.count rest t.new more.new s.card (f o x s).card after.card fits r t.moved more.moved;
        arranged = more.arranged ∙ ap (lying o pool []) (append_assoc before t.new more.new);
      }

  walk : (xs : List Piece) (done : ℕ) (rest before : List ℕ) (s : CardAndPool) → s.pool ≡ lying o pool rest before → length before ≡ done → length before + length rest ≡ o.total → Left o done xs
      → Walked o f Moved pool done rest before s.card (transferred f o done xs s)
  unfolding transferred
  walk [] done [] before s l b r c = record { new = []; moved = moves.none done s.card; arranged = l ∙ ap (lying o pool []) (sym (append-nil before)) }
  walk [] done (y ∷ ys) before s l b r c = absurd (omega (arith, left_none o done c))
  walk (x ∷ xs) done rest before s l b r c =
      let h = first laws o ok.lawful ok.in_data done x xs c in
      let fits : x.count ≤ length rest = omega (arith, h.ends) in
      let t = moves.piece done x xs h rest before s l (omega arith) fits in
      let long = t.long in
      let count : length before + (length t.new + length (drop x.count rest)) ≡ o.total = omega (arith, length-drop x.count rest) in
      let lies = ap (turn_after o done x xs) t.brought ∙ after_piece o pool ok done x xs t.new (drop x.count rest) before b long count h.follow in
      join done x rest before s _ fits (omega arith) t
      (walk xs (done + x.count) (drop x.count rest) (before ++ t.new) (record { card = (f o x s).card; pool = turn_after o done x xs (f o x s).pool }) lies (rw length-append (omega arith)) (rw length-append (omega arith)) h.follow)

-- all pieces
pub walk_whole : MapLaws → (o : Operation) (f : Operation → Piece → CardAndPool → CardAndPool) (Moved : ℕ → List ℕ → List ℕ → Card → Card → Type 0) (s : CardAndPool) → Accepted o s.pool → Moves o f Moved s.pool
    → Walked o f Moved s.pool 0 (front o s.pool) [] s.card (whole f o s)
unfolding whole
walk_whole laws o f Moved s ok moves =
    walk laws o f Moved s.pool ok moves (pieces o.map o.start o.total) 0 (front o s.pool) [] s (sym (lying_first o s.pool ok)) refl (omega (arith, front_length o s.pool ok))
    (all_left laws o ok.lawful ok.in_data)
