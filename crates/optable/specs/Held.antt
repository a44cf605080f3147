-- What a host holds is a table that calls have left: after an opening that was admitted and any calls and lookups since, in whatever lengths, the
-- memory that it lends holds the table after that history, but for the pool bytes that it has written since the last of them, as document 01 allows.
-- So what is proved of every history (demands 2 and 3, the projection) is said of that memory. Proved in proofs/Held.antt (held-laws).
use Rattle.std.specs.Prelude.{◌≡◌, ℕ, ◌<◌, true, false, ◌≢◌, ◌⊎◌, List, [], ◌∷◌, ◌++◌, map, length}
use Rattle.completion.specs.declared.Refusal.TheVariants as Refusal
use Rattle.completion.specs.declared.Reply.{Reply}
use Rattle.model.specs.declared.{Opening.Opening, Counts.Counts, Lengths.Lengths}
use Rattle.model.specs.State.{State, fresh}
use Rattle.model.specs.Opening.{opens, HEAD}
use Rattle.model.specs.Memory.{Lent, lengths_of, lengths_in, state_in, lent_after}
use Rattle.step.specs.Step.{eq_lengths}
use Rattle.step.specs.Sound.{Sound}
use Rattle.step.specs.Run.{Made, Made.calls, Made.looks, Event, Start, opened_by, leave, next, after, reply_to}
use Rattle.step.specs.Lists.{HostMay, Hosted}
use Rattle.step.specs.Demand3.{alones_after, Projected}
use Rattle.optable.specs.Called.{lent_of, CallsTo, LooksTo}

-- what is lent, with other bytes in the pool
abbrev pub lent_with : Lent → List ℕ → Lent
lent_with l pool = lent_of l.rows l.store l.free l.ready l.owners pool

-- the history h after the opening x is in what a host holds: "Between calls the host changes only buffers it holds and, for a read, the bytes of the
-- piece under way, never row memory"
pub record Holds (x : Start) (h : List Event) (c : Counts) (l : Lent) : Type 0 where
  pub hosted : Hosted (opened_by x) h
  pub may : HostMay (after x h) l.pool
  pub table : state_in c l ≡ leave (after x h) l.pool
  pub lengths : lengths_of l ≡ x.lengths

-- ---- one call or lookup

-- a call; or a lookup, to which all is lent by `&`, so that nothing can change
unfoldable pub MakesTo : Made → Counts → Lent → Reply → Counts → Lent → Type 0
MakesTo (calls call) c l r c' l' = CallsTo call c l r c' l'
MakesTo (looks x) c l r c' l' = LooksTo x c l r × (c' ≡ c) × (l' ≡ l)

-- Which length is another is told by the store's own words 13 to 18: those lent are the held store's, or fewer than 48 words are lent, which is
-- another length whatever they are. A host that lends others there has changed row memory.
abbrev pub OwnWords : List ℕ → List ℕ → Type 0
OwnWords held lent = (length lent < HEAD) ⊎ (lengths_in lent ≡ lengths_in held)

-- what is lent to it, of what is held: in the opening's lengths all that is held
pub record Lends (l lent : Lent) : Type 0 where
  pub words : OwnWords l.store lent.store
  pub all : lengths_of lent ≡ lengths_of l → lent ≡ l

-- one call or lookup of a host: the pool as the host leaves it, what is made and lent, the reply, the counts and the parts lent as they are
-- afterwards, and what the host holds then
pub record Turn : Type 0 where
  pub leaves : List ℕ
  pub made : Made
  pub lent : Lent
  pub reply : Reply
  pub counts_left : Counts
  pub left : Lent
  pub counts : Counts
  pub held : Lent

-- from what is held: the counts c and the memory l
pub record TurnFrom (c : Counts) (l : Lent) (u : Turn) : Type 0 where
  pub may : HostMay (state_in c l) u.leaves
  pub lends : Lends (lent_with l u.leaves) u.lent
  pub makes : MakesTo u.made c u.lent u.reply u.counts_left u.left
  -- it lent all that it holds: it holds what is left of that
  pub all : lengths_of u.lent ≡ lengths_of (lent_with l u.leaves) → (u.counts ≡ u.counts_left) × (u.held ≡ u.left)
  -- it lent other parts of it, and they are left as they were: it holds what it held
  pub others : lengths_of u.lent ≢ lengths_of (lent_with l u.leaves) → u.counts_left ≡ c → u.left ≡ u.lent
      → (u.counts ≡ c) × (u.held ≡ lent_with l u.leaves)

-- ---- lists of them

unfoldable pub TurnsFrom : Counts → Lent → List Turn → Type 0
TurnsFrom c l [] = Unit {0}
TurnsFrom c l (u ∷ us) = TurnFrom c l u × TurnsFrom u.counts u.held us

-- what is held after the last
unfoldable pub counts_after : Counts → List Turn → Counts
counts_after c [] = c
counts_after c (u ∷ us) = counts_after u.counts us

unfoldable pub held_after : Lent → List Turn → Lent
held_after l [] = l
held_after l (u ∷ us) = held_after u.held us

-- the history that they are
abbrev pub event : List ℕ → Lengths → Made → Event
event leaves lengths made = record { leaves = leaves; lengths = lengths; made = made }

abbrev pub event_of : Turn → Event
event_of u = event u.leaves (lengths_of u.lent) u.made

-- from the table s each of them is the step's: its reply, and what is held after it, to the byte
unfoldable pub AsSteps : State → List Turn → Type 0
AsSteps s [] = Unit {0}
AsSteps s (u ∷ us) = (u.reply ≡ reply_to s (event_of u)) × (state_in u.counts u.held ≡ next s (event_of u)) × AsSteps (next s (event_of u)) us

-- ---- an opening

-- a history begins with it
pub record Begins (o : Opening) (plan : List ℕ) (ls : Lengths) (pool : List ℕ) (x : Start) : Type 0 where
  pub opening_is : x.opening ≡ o
  pub plan_is : x.plan ≡ plan
  pub lengths_are : x.lengths ≡ ls
  pub pool_is : x.pool ≡ pool

abbrev pub start_at : (o : Opening) (plan : List ℕ) (l : Lent) → opens o plan (lengths_of l) ≡ true → length l.pool ≡ (lengths_of l).pool → Start
start_at o plan l ok whole = record { opening = o; plan = plan; lengths = lengths_of l; pool = l.pool; admitted = ok; whole = whole }

-- ---- the laws

-- after one more event: the history is in what is held, which then is the table after it to the byte, and the reply was the step's
pub record HoldsNext (x : Start) (h : List Event) (e : Event) (r : Reply) (c' : Counts) (l' : Lent) : Type 0 where
  pub holds : Holds x (h ++ (e ∷ [])) c' l'
  pub exactly : state_in c' l' ≡ next (after x h) e
  pub reply : r ≡ reply_to (after x h) e

pub record HeldLaws : Type 0 where
  pub opening : (o : Opening) (plan : List ℕ) (l : Lent) (ok : opens o plan (lengths_of l) ≡ true) (whole : length l.pool ≡ (lengths_of l).pool)
      → Holds (start_at o plan l ok whole) [] fresh (lent_after o plan l)
  pub opened : (o : Opening) (plan : List ℕ) (l : Lent) (ok : opens o plan (lengths_of l) ≡ true) (whole : length l.pool ≡ (lengths_of l).pool)
      → state_in fresh (lent_after o plan l) ≡ opened_by (start_at o plan l ok whole)
  -- so every call and lookup finds a table of which values are promised
  pub sound : (x : Start) (h : List Event) (c : Counts) (l : Lent) → Holds x h c l → Sound (state_in c l)
  -- the projection, of what is held: each operation in it is the operation alone
  pub projected : (x : Start) (h : List Event) (c : Counts) (l : Lent) → Holds x h c l → Projected (state_in c l) (alones_after x h)
  -- the host writes to the pool
  pub writes : (x : Start) (h : List Event) (c : Counts) (l : Lent) (pool : List ℕ) → Holds x h c l → HostMay (state_in c l) pool
      → Holds x h c (lent_with l pool)
  -- a call or a lookup over all that is held
  pub makes : (x : Start) (h : List Event) (c : Counts) (l : Lent) (m : Made) (r : Reply) (c' : Counts) (l' : Lent)
      → Holds x h c l → MakesTo m c l r c' l' → HoldsNext x h (event l.pool (lengths_of l) m) r c' l'
  -- an event in another length gets 13, and leaves what is held
  pub another_length : (x : Start) (h : List Event) (c : Counts) (l : Lent) (m : Made) (ls : Lengths)
      → Holds x h c l → eq_lengths ls x.lengths ≡ false → HoldsNext x h (event l.pool ls m) (Reply.No Refusal.Unfit) c l
  -- one in whatever lengths
  pub turn : (x : Start) (h : List Event) (c : Counts) (l : Lent) (u : Turn) → Holds x h c l → TurnFrom c l u
      → HoldsNext x h (event_of u) u.reply u.counts u.held
  -- any list of them
  pub turns : (x : Start) (h : List Event) (c : Counts) (l : Lent) (us : List Turn) → Holds x h c l → TurnsFrom c l us
      → Holds x (h ++ map event_of us) (counts_after c us) (held_after l us) × AsSteps (after x h) us
