-- What is left of each part of the row memory and of the pool when an operation's end, or its going on, is carried into the table.
use Rattle.std.specs.Prelude.{◌≡◌, ℕ, ◌+◌, ◌-◌, false, List, nat_lt, slice_set}
use Rattle.layout.specs.Pick.{pick}
use Rattle.regionmap.specs.declared.FoundPiece.{FoundPiece}
use Rattle.regionmap.specs.Map.{Map}
use Rattle.regionmap.specs.Found.{wrap64}
use Rattle.iobuf.specs.Turn.{turned_in}
use Rattle.std.specs.declared.option.Option.{Option}
use Rattle.domain.specs.declared.FirstCause.{FirstCause}
use Rattle.completion.specs.declared.Reply.{Reply}
use Rattle.completion.specs.Buffers.{Buffer}
use Rattle.std.specs.declared.option.Option.TheVariants.{Some as Back, None as Lost}
use Rattle.model.specs.declared.{Counts.Counts, Opening.Opening, Kind.Kind, Split.Split, Awaits.Awaits, Row.Row}
use Rattle.model.specs.State.{freed}
use Rattle.step.specs.Rules.{first_of}
use Rattle.step.specs.Step.{raised, awaits_now, completion_of, row_of, rejection}
use Rattle.optable.specs.declared.Frees.TheVariants as Frees
use Rattle.optable.specs.declared.touched.Touched.{Touched}
use Rattle.optable.specs.Called.{away_with}
use Rattle.memory.specs.declared.liveregion.LiveRegion.{LiveRegion}
use Rattle.memory.specs.Piece.{PieceIn}
use Rattle.ring.specs.Queue.{published}
use Rattle.marks.specs.Marks.{poisoned_in}
use Rattle.settle.specs.declared.{Turn.Turn, Finished.Finished}
use Rattle.settle.specs.Finished.{plan_with}

-- the pool with a buffer's bytes turned
unfoldable pub turned_pool : ℕ → ℕ → Turn → List ℕ → List ℕ
turned_pool capacity b t pool = turned_in capacity b t.total t.by pool

-- the free stack starts at place `live`: a row goes on top, one place lower
unfoldable pub pushed : ℕ → ℕ → List ℕ → List ℕ
pushed live row free = pick (nat_lt 0 live) (slice_set free (live - 1) row) free

-- the owner's word of a buffer: the given one if it came back, else 2, lost
unfoldable pub owner_word : ℕ → Buffer → ℕ
owner_word back (Back h) = back
owner_word back Lost = 2

unfoldable pub poisoned_by : Option FirstCause → List ℕ → List ℕ
poisoned_by Option.None store = store
poisoned_by (Option.Some cause) store = poisoned_in cause store

-- the parts of the row memory and the pool, by what becomes of the operation
unfoldable pub store_by : Finished → List ℕ → List ℕ
store_by (Finished.Away f) store = store
store_by (Finished.Next a t) store = store
store_by (Finished.Ended end) store = poisoned_by end.cause store
store_by (Finished.Rejected e b) store = store

unfoldable pub free_by : Finished → ℕ → ℕ → List ℕ → List ℕ
free_by (Finished.Away f) live r free = free
free_by (Finished.Next a t) live r free = free
free_by (Finished.Ended end) live r free = pushed live r free
free_by (Finished.Rejected e b) live r free = pushed live r free

unfoldable pub ready_by : Finished → ℕ → ℕ → Row → List ℕ → List ℕ
ready_by (Finished.Away f) depth n row ready = ready
ready_by (Finished.Next a t) depth n row ready = ready
ready_by (Finished.Ended end) depth n row ready = published depth n (completion_of row end.outcome end.buf) ready
ready_by (Finished.Rejected e b) depth n row ready = ready

-- 1 is the table, 0 the host
unfoldable pub owners_by : Finished → Row → List ℕ → List ℕ
owners_by (Finished.Away f) row owners = owners
owners_by (Finished.Next a t) row owners = owners
owners_by (Finished.Ended end) row owners = slice_set owners row.buffer (owner_word 1 end.buf)
owners_by (Finished.Rejected e b) row owners = slice_set owners row.buffer (owner_word 0 b)

unfoldable pub pool_by : Finished → ℕ → Row → List ℕ → List ℕ
pool_by (Finished.Away f) capacity row pool = pool
pool_by (Finished.Next a t) capacity row pool = turned_pool capacity row.buffer t pool
pool_by (Finished.Ended end) capacity row pool = turned_pool capacity row.buffer end.turn pool
pool_by (Finished.Rejected e b) capacity row pool = pool

-- the next piece, found in the region's words
pub record AsksPiece (store : List ℕ) (row : Row) (t : ℕ) (k : Kind) (s : Split) (r : Reply) : Type 0 where
  pub found : FoundPiece
  pub is : PieceIn store row.handle (wrap64 ((first_of k).0 + s.done)) (s.total - s.done) found
  pub reply : r ≡ Reply.Piece t found.offset found.count row.buffer

-- what is asked of the host next: the next piece, or the flush
unfoldable pub AsksFor : List ℕ → Row → ℕ → Awaits → Reply → Type 0
AsksFor store row t Awaits.Nothing r = r ≡ Reply.Done t
AsksFor store row t (Awaits.Piece k s) r = AsksPiece store row t k s r
AsksFor store row t (Awaits.Flush ticket) r = r ≡ Reply.Flush t ticket.need

-- the row, the counts and the reply
unfoldable pub TouchedBy : Finished → ℕ → Row → LiveRegion → List ℕ → Touched → Type 0
TouchedBy (Finished.Away f) t row g store r = r ≡ away_with row f
TouchedBy (Finished.Next a turn) t row g store r =
    AsksFor store row t a r.reply × (r ≡ record { row = awaits_now row a; accepts = false; frees = Frees.Nothing; reply = r.reply })
TouchedBy (Finished.Ended end) t row g store r =
    r ≡ record { row = freed (raised row.generation); accepts = false; frees = Frees.Completed; reply = Reply.Done t }
TouchedBy (Finished.Rejected e b) t row g store r =
    (m : Map) → r ≡ record {
      row = freed row.generation;
      accepts = false;
      frees = Frees.Rejected;
      reply = rejection (plan_with g m) row.awaits e b;
    }

pub record Carried (f : Finished) (t : ℕ) (row : Row) (o : Opening) (g : LiveRegion) (c : Counts)
    (store free ready owners pool : List ℕ) (r : Touched) (store' free' ready' owners' pool' : List ℕ) : Type 0 where
  pub touched_is : TouchedBy f t row g store r
  pub store_is : store' ≡ store_by f store
  pub free_is : free' ≡ free_by f c.live (row_of t) free
  pub ready_is : ready' ≡ ready_by f o.depth c.ready row ready
  pub owners_is : owners' ≡ owners_by f row owners
  pub pool_is : pool' ≡ pool_by f o.capacity row pool
