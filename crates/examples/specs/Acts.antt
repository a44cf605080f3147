-- How the lists of the examples are written: what the host does before each call or lookup, and the events (step Laws.antt) that this comes to.
use Rattle.std.specs.Prelude.{List, [], ◌∷◌, ℕ}
use Rattle.iobuf.specs.Turn.{with_stretch}
use Rattle.completion.specs.declared.Reply.{Reply}
use Rattle.model.specs.declared.Lengths.{Lengths}
use Rattle.model.specs.State.{State}
use Rattle.model.specs.Memory.{over}
use Rattle.step.specs.Step.{row_at, bytes_at}
use Rattle.step.specs.Run.{Made, Event, next, reply_to}

pub data Act : Type 0 where
  -- a call or a lookup, with the pool as it was
  makes : Made → Act
  -- bytes at the front of a buffer first
  writes : ℕ → List ℕ → Made → Act
  -- bytes at the front of the buffer of a row first
  arrives : ℕ → List ℕ → Made → Act
  -- a call or a lookup with parts of other lengths
  lends : Lengths → Made → Act

unfoldable pub made_in : Act → Made
made_in (makes m) = m
made_in (writes b bytes m) = m
made_in (arrives r bytes m) = m
made_in (lends l m) = m

-- the pool with bytes at the front of a buffer
unfoldable pub fronted : State → ℕ → List ℕ → List ℕ
fronted s b bytes = with_stretch s.settings.capacity b (over bytes (bytes_at s b)) s.pool

unfoldable pub leaves_of : State → Act → List ℕ
leaves_of s (makes m) = s.pool
leaves_of s (writes b bytes m) = fronted s b bytes
leaves_of s (arrives r bytes m) = fronted s (row_at s r).buffer bytes
leaves_of s (lends l m) = s.pool

unfoldable pub lengths_of : State → Act → Lengths
lengths_of s (makes m) = s.lengths
lengths_of s (writes b bytes m) = s.lengths
lengths_of s (arrives r bytes m) = s.lengths
lengths_of s (lends l m) = l

abbrev pub event_of : State → Act → Event
event_of s a = record { leaves = leaves_of s a; lengths = lengths_of s a; made = made_in a }

unfoldable pub events_of : State → List Act → List Event
events_of s [] = []
events_of s (a ∷ more) = event_of s a ∷ events_of (next s (event_of s a)) more

-- what the table replies to each
unfoldable pub replies : State → List Event → List Reply
replies s [] = []
replies s (e ∷ es) = reply_to s e ∷ replies (next s e) es
