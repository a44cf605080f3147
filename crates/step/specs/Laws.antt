-- What is proved of every step: an opening leaves a sound table, and every call and every write of the host to the pool keeps it sound; a call that
-- is turned away changes nothing, and one with other lengths gets 13; the questions have the paper's numbers, in its order; the pieces of the map for
-- an accepted operation's range act like one transfer (Demand2 says it of the answers). Proved in proofs/Laws.antt (step-laws).
use Rattle.std.specs.Prelude.{◌≡◌, Bool, true, false, List, [], ◌∷◌, map, ℕ, zero, suc, ◌+◌, length, ltb}
use Rattle.layout.specs.Pick.{pick}
use Rattle.regionmap.specs.declared.FoundPiece.{FoundPiece}
use Rattle.regionmap.specs.Map.{Map, place, pieces, Piece as MapPiece}
use Rattle.regionmap.specs.Words.{offset_of}
use Rattle.posix.specs.Transfer.{CardAndPool, Operation, wrote, read_in, whole, OneWrite, OneRead}
use Rattle.domain.specs.declared.FirstCause.{FirstCause}
use Rattle.std.specs.declared.option.Option.{Option}
use Rattle.completion.specs.declared.Refusal.{Refusal}
use Rattle.completion.specs.declared.Reply.TheVariants as Reply
use Rattle.completion.specs.Numbers.{number}
use Rattle.model.specs.declared.{Opening.Opening, Lengths.Lengths, Split.Split, Request.Request, Call.Call, Lookup.Lookup}
use Rattle.std.specs.declared.result.Result.{Result}
use Rattle.model.specs.State.{State, Region}
use Rattle.model.specs.Opening.{among, opened, plans_in, opens}
use Rattle.step.specs.Questions.{region_at, first_no, write_questions, read_questions, whole_of, Asked}
use Rattle.step.specs.Rules.{piece_of}
use Rattle.step.specs.Step.{begun, step, look, eq_lengths}
use Rattle.step.specs.Run.{Event, leave, run, Pools}
use Rattle.step.specs.Sound.{Sound}

-- ---- numbers

-- the answer is yes, or a refusal with one of these numbers
unfoldable pub says_one : List ℕ → Asked → Bool
says_one ns (Result.Ok _) = true
says_one ns (Result.Err f) = among (number f) ns

unfoldable pub SaysEach : List (List ℕ) → List Asked → Type 0
SaysEach [] [] = Unit {0}
SaysEach [] (a ∷ more) = ⊥
SaysEach (n ∷ ns) [] = ⊥
SaysEach (n ∷ ns) (a ∷ more) = (says_one n a ≡ true) × SaysEach ns more

abbrev pub one : ℕ → List ℕ
one n = n ∷ []

-- the numbers of questions 1 to 14: of the sixth, "recycled 4 StaleGeneration, released 5 NotReady"
unfoldable pub write_numbers : List (List ℕ)
write_numbers =
    one 1 ∷ one 2 ∷ one 11 ∷ one 3 ∷ one 12 ∷ (4 ∷ 5 ∷ []) ∷ one 6 ∷ one 7 ∷ one 6 ∷ one 1 ∷ one 4 ∷ one 8 ∷ one 9 ∷ one 10 ∷ []

-- of 1, 10, 11, 2, 3, 4, 5, 6, 12, 13, 14
unfoldable pub read_numbers : List (List ℕ)
read_numbers = one 1 ∷ one 1 ∷ one 4 ∷ one 2 ∷ one 11 ∷ one 3 ∷ one 12 ∷ (4 ∷ 5 ∷ []) ∷ one 8 ∷ one 9 ∷ one 10 ∷ []

-- ---- pieces

-- the split after a piece is answered whole
abbrev pub stepped : Map → ℕ → Split → Split
stepped m start s = record { total = s.total; done = s.done + (piece_of m start s).count }

-- the pieces that an operation is issued from a split on, each answered whole; at most as many as the first argument
unfoldable pub issued_up_to : ℕ → Map → ℕ → Split → List FoundPiece
issued_up_to zero m start s = []
issued_up_to (suc n) m start s = pick (ltb s.done s.total) (piece_of m start s ∷ issued_up_to n m start (stepped m start s)) []

-- a piece of the map: where its position lies on the card, and its count
abbrev pub on_card : Map → MapPiece → FoundPiece
on_card m x = record { offset = offset_of (place m x.position); count = x.count }

-- the operation of a request, over a table's pool
abbrev pub operation_of : State → Request → Operation
operation_of s q =
    record { map = (region_at s q.handle).map; capacity = s.settings.capacity; buffer = q.buffer; start = q.offset.0; total = whole_of q }

pub record StepLaws : Type 0 where
  pub opening : (o : Opening) (plan : List ℕ) (l : Lengths) (pool : List ℕ) → opens o plan l ≡ true → length pool ≡ l.pool
      → Sound (opened o (plans_in o.regions plan) l pool)
  pub keeps : (s : State) (l : Lengths) (c : Call) → Sound s → Sound (step s l c).0
  -- the host's writes
  pub leaves : (s : State) (pool : List ℕ) → Sound s → length pool ≡ length s.pool → Sound (leave s pool)
  -- so every table that calls after an opening have left is sound
  pub history : (o : Opening) (plan : List ℕ) (l : Lengths) (pool : List ℕ) → opens o plan l ≡ true → length pool ≡ l.pool → (es : List Event)
      → Pools l.pool es
      → Sound (run (opened o (plans_in o.regions plan) l pool) es)
  -- a call that is turned away changes nothing
  pub turned_away : (s : State) (l : Lengths) (c : Call) (f : Refusal) → (step s l c).1 ≡ Reply.No f → (step s l c).0 ≡ s
  -- another length is asked before all else, of a call and of a lookup
  pub another_length : (s : State) (l : Lengths) (c : Call) → eq_lengths l s.lengths ≡ false → (step s l c).1 ≡ Reply.No Refusal.Unfit
  pub another_length_looked : (s : State) (l : Lengths) (x : Lookup) → eq_lengths l s.lengths ≡ false → look s l x ≡ Reply.No Refusal.Unfit
  -- "the first cause kept": no call changes the poison of a poisoned store
  pub first_kept_lem : (s : State) (l : Lengths) (c : Call) (first : FirstCause) → s.poison ≡ Option.Some first
      → (step s l c).0.poison ≡ Option.Some first
  -- the questions have the paper's numbers, in its order
  pub write_numbers_lem : (s : State) (g : Region) (q : Request) → SaysEach write_numbers (write_questions s g q)
  pub read_numbers_lem : (s : State) (g : Region) (q : Request) → SaysEach read_numbers (read_questions s g q)
  -- the pieces of an operation are the map's for its range
  pub issued : (m : Map) (start total : ℕ) → issued_up_to total m start (begun total) ≡ map (on_card m) (pieces m start total)
  -- and those of an accepted one, each taken whole, act like one transfer, over any pool of the table's length
  pub write : (s : State) (q : Request) → Sound s → first_no (write_questions s (region_at s q.handle) q) ≡ Result.Ok tt → (x : CardAndPool)
      → length x.pool ≡ s.lengths.pool
      → OneWrite (operation_of s q) x (whole wrote (operation_of s q) x)
  pub read : (s : State) (q : Request) → Sound s → first_no (read_questions s (region_at s q.handle) q) ≡ Result.Ok tt → (x : CardAndPool)
      → length x.pool ≡ s.lengths.pool
      → OneRead (operation_of s q) x (whole read_in (operation_of s q) x)
