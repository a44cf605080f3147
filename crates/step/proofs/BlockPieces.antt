-- Multiples of a block are closed under sum, rest and minimum. So a map that keeps the opening's rule on blocks places a position on the block at a card offset on
-- it, and cuts pieces of whole blocks; and behind a piece of an operation on the block comes another on it.
use mathlib.Core.Path.{◌≡◌, sym}
use mathlib.Core.Bool.{true, ◌&&◌}
use mathlib.Core.List.{List, [], ◌∷◌}
use Prim.Native.Nat.{ℕ, ◌+◌, ◌-◌, ◌≤◌, min}
use native.Mathlib.Nat.{mul-zero, mul-add, mul-sub, min-eq_left, min-eq_right}
use native.Mathlib.Decide.{dec_le}
use native.Mathlib.Omega.{arith}
use lib.Dec.{leb}
use Rattle.layout.specs.Block.{on_block}
use Rattle.layout.specs.Laws.{Multiple}
use Rattle.layout.proofs.Laws.{block_laws}
use Rattle.layout.proofs.Tests.{and_left, and_right}
use Rattle.regionmap.specs.Map.{Run, Map, Span, first_run, span_from, map_run, map_run_end, map_run_left, place, piece_size}
use Rattle.completion.specs.declared.Reply.{Reply}
use Rattle.model.specs.declared.Split.{Split}
use Rattle.model.specs.declared.Awaits.{Awaits}
use Rattle.model.specs.declared.Awaits.TheVariants.{Nothing, Piece, Flush}
use Rattle.model.specs.State.{Region}
use Rattle.model.specs.Opening.{Plan, runs_on_block, blocks_rule}
use Rattle.step.specs.Questions.{byte_at}
use Rattle.step.specs.Rules.{first_of, left_of, piece_of, split_after, piece_length}
use Rattle.step.specs.Step.{plan_of, asks_for}
use Rattle.step.proofs.Picked.{by_pick}
use Rattle.step.proofs.Fates.{Follows}

-- ---- multiples of a block

module _ (b : ℕ) where
  abbrev pub On : ℕ → Type 0
  On x = on_block b x ≡ true

  pub on_zero : On 0
  on_zero = block_laws.on_block_lem b 0 (record { times = 0; product = sym (mul-zero b) })

  module _ (x y : ℕ) (e : On x) (f : On y) where
    abbrev m : Multiple b x
    m = block_laws.multiple b x e

    abbrev n : Multiple b y
    n = block_laws.multiple b y f

    on_sum : On (x + y)
    on_sum = block_laws.on_block_lem b (x + y) (record { times = m.times + n.times; product = cc (m.product, n.product, mul-add b m.times n.times) })

    on_rest : On (x - y)
    on_rest = block_laws.on_block_lem b (x - y) (record { times = m.times - n.times; product = cc (m.product, n.product, mul-sub b m.times n.times) })

    on_min : On (min x y)
    on_min = by_case (dec_le x y)
      where
        by_case : Dec (x ≤ y) → On (min x y)
        by_case (yes l) = rw (min-eq_left l) e
        by_case (no l) = rw (min-eq_right {n = y} {m = x} (omega arith)) f

  -- ---- a map on the block

  -- a run's start, offset and end are on the block
  abbrev SpanOn : Span → Type 0
  SpanOn s = On s.start × On s.offset × On s.end

  span_on : (r : Run) (xs : List Run) (cap p : ℕ) → On r.start → On r.offset → On cap → runs_on_block b xs ≡ true → SpanOn (span_from r xs cap p)
  unfolding span_from runs_on_block
  span_on r [] cap p start offset end ok = (start, offset, end)
  span_on r (x ∷ xs) cap p start offset end ok =
      let next = and_left (on_block b x.start) _ ok in
      let behind = and_right (on_block b x.start) _ ok in
      by_pick (leb x.start p) SpanOn
      (λ reached. span_on x xs cap p next (and_left (on_block b x.offset) _ behind) end (and_right (on_block b x.offset) _ behind)) (λ above. (start, offset, next))

  module _ (m : Map) (ok : blocks_rule b m ≡ true) (p : ℕ) (at : On p) where
    behind_first : (on_block b m.capacity && (on_block b m.data_length && runs_on_block b m.more)) ≡ true
    unfolding blocks_rule
    behind_first = and_right (on_block b m.first) _ ok

    behind_capacity : (on_block b m.data_length && runs_on_block b m.more) ≡ true
    behind_capacity = and_right (on_block b m.capacity) _ behind_first

    run_on : SpanOn (map_run m p)
    unfolding map_run blocks_rule
    run_on =
        span_on (first_run m) m.more m.capacity p on_zero (and_left (on_block b m.first) _ ok) (and_left (on_block b m.capacity) _ behind_first)
        (and_right (on_block b m.data_length) _ behind_capacity)

    place_on : On (place m p)
    unfolding place
    place_on = on_sum (map_run m p).offset (p - (map_run m p).start) run_on.1 (on_rest p (map_run m p).start at run_on.0)

    size_on : (left : ℕ) → On left → On (piece_size m p left)
    unfolding piece_size map_run_left map_run_end
    size_on left rest =
        let cut = and_left (on_block b m.data_length) _ behind_capacity in
        on_min (map_run_left m p) left (on_rest (map_run_end m p) p (on_min (map_run m p).end m.data_length run_on.2 cut) at) rest

  -- ---- what a row awaits, and a reply

  -- an operation's first position, its length and its bytes done are on the block
  pub record SplitOn (start : ℕ) (sp : Split) : Type 0 where
    pub first : On start
    pub total : On sp.total
    pub done : On sp.done

  pub piece_on : (m : Map) → blocks_rule b m ≡ true → (start : ℕ) (sp : Split) → SplitOn start sp → On (piece_of m start sp).offset.0 × On (piece_of m start sp).count
  unfolding piece_of
  piece_on m ok start sp o =
      let at = on_sum start sp.done o.first o.done in
      (place_on m ok (byte_at start sp.done) at, size_on m ok (byte_at start sp.done) at (left_of sp) (on_rest sp.total sp.done o.total o.done))

  -- what is awaited, if it is a piece, is on the block
  unfoldable pub AwaitsOn : Awaits → Type 0
  AwaitsOn Nothing = Unit {0}
  AwaitsOn (Piece k sp) = SplitOn (first_of k).0 sp
  AwaitsOn (Flush t) = Unit {0}

  -- a reply, if it is a piece, is on the block
  unfoldable pub ReplyOn : Reply → Type 0
  ReplyOn (Reply.Piece t offset count buffer) = On offset.0 × On count
  ReplyOn (Reply.No f) = Unit {0}
  ReplyOn (Reply.Rejected g o e buffer) = Unit {0}
  ReplyOn (Reply.Done t) = Unit {0}
  ReplyOn (Reply.Flush t need) = Unit {0}
  ReplyOn (Reply.Took c) = Unit {0}
  ReplyOn Reply.None = Unit {0}
  ReplyOn Reply.Ok = Unit {0}
  ReplyOn (Reply.Writes w) = Unit {0}
  ReplyOn (Reply.Mark n) = Unit {0}

  -- the piece that is asked for is that of what is awaited
  pub asks_on : (g : Plan) → blocks_rule b g.map ≡ true → (t buffer : ℕ) (a : Awaits) → AwaitsOn a → ReplyOn (asks_for g t buffer a)
  unfolding AwaitsOn ReplyOn asks_for piece_length
  asks_on g ok t buffer Nothing o = tt
  asks_on g ok t buffer (Piece k sp) o = piece_on g.map ok (first_of k).0 sp o
  asks_on g ok t buffer (Flush ticket) o = tt

  -- behind a piece on the block comes one on the block
  pub follows_on : (g : Region) → blocks_rule b g.map ≡ true → (was now : Awaits) → Follows g was now → AwaitsOn was → AwaitsOn now
  unfolding Follows AwaitsOn split_after piece_length plan_of
  follows_on g ok Nothing now f o = absurd f
  follows_on g ok (Piece k sp) Nothing f o = tt
  follows_on g ok (Piece k sp) (Piece k' sp') f o =
      rw (f.0, f.1) (record { first = o.first; total = o.total; done = on_sum sp.done _ o.done (piece_on g.map ok (first_of k).0 sp o).1 })
  follows_on g ok (Piece k sp) (Flush t) f o = tt
  follows_on g ok (Flush t) now f o = absurd f
