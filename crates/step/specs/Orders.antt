-- Demand 3's claim of one small table and two orders, found by running `step` and not by the theorem: each clause stands here by itself, so that a
-- step that a clause rules out is refused at the clause. The opening is document 01's figures', with two buffers of 1,024. Row 0 writes 512 to 1,536
-- from buffer 0, in two pieces; row 1 reads 512 bytes at 0 into buffer 1, of which 100 come. In the first order the write is done and taken before
-- the read is answered; in the second the read's completion is ready all the while. Proved in proofs/Orders.antt (orders).
use Rattle.std.specs.Prelude.{◌≡◌, true, false, List, [], ◌∷◌, ◌++◌, ℕ, length, replicate}
use Rattle.regionmap.specs.Words.{position_of}
use Rattle.posix.specs.Posix.{Card}
use Rattle.model.specs.declared.{Opening.Opening, Lengths.Lengths, Request.Request, Call.Call}
use Rattle.model.specs.State.{State}
use Rattle.model.specs.Opening.{opens}
use Rattle.step.specs.Run.{Made.calls, Event, next, Start, opened_by, after}
use Rattle.step.specs.Demand3.{Agreed}
use Rattle.step.specs.Figures.{opening_with, figures_plan, asking, answers}

unfoldable pub opening : Opening
opening = opening_with 2 1000 2 1024 false

unfoldable pub lengths : Lengths
lengths = record { rows = 2; store = 118; free = 2; ready = 33; owners = 2; pool = 2048 }

-- the write's bytes in buffer 0, and what comes for the read in buffer 1
unfoldable pub filled : List ℕ
filled = replicate 512 5 ++ replicate 512 6 ++ replicate 1024 9

-- the read's request: its host tag is another than the write's
unfoldable pub reading : Request
reading = record { handle = 0; volume = 1; region = 7; generation = 3; offset = position_of 0; buffer = 1; length = 512; durable = false; tag = 71 }

-- calls, each with the pool as the last left it
unfoldable pub in_turn : State → List Call → List Event
in_turn s [] = []
in_turn s (c ∷ cs) = let e : Event = record { leaves = s.pool; lengths = lengths; made = calls c } in e ∷ in_turn (next s e) cs

module _ (admitted : opens opening figures_plan lengths ≡ true) (whole : length filled ≡ lengths.pool) where
  abbrev pub start : Start
  start = record { opening = opening; plan = figures_plan; lengths = lengths; pool = filled; admitted = admitted; whole = whole }

  abbrev pub history : List Event
  history = in_turn (opened_by start) (Call.Write (asking 512 1024) ∷ Call.ReadPage reading ∷ [])

  abbrev pub order₁ : List Event
  order₁ = in_turn (after start history) (answers 0 512 ∷ answers 0 512 ∷ Call.Take ∷ answers 1 100 ∷ Call.Take ∷ [])

  abbrev pub order₂ : List Event
  order₂ = in_turn (after start history) (answers 1 100 ∷ answers 0 512 ∷ answers 0 512 ∷ Call.Take ∷ Call.Take ∷ [])

pub record Orders : Type 0 where
  pub admitted : opens opening figures_plan lengths ≡ true
  pub whole : length filled ≡ lengths.pool
  pub agreed : (card : Card) → Agreed (start admitted whole) (history admitted whole) card (order₁ admitted whole) (order₂ admitted whole)
