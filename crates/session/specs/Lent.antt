-- What is held between two lines, over the structs in which a program holds it: what the host holds by value, and the words that it lends on.
use Rattle.std.specs.Prelude.{List, ℕ}
use Rattle.model.specs.declared.{Opening.Opening, Row.Row}
use Rattle.model.specs.Memory.{Lent}
use Rattle.memory.specs.Words.{lent_words}
use Rattle.memory.specs.declared.words.Words.{Words}
use Rattle.session.specs.declared.{Host.Host, Stage.Stage, start.Started.Started, turn.Running.Running}
use Rattle.session.specs.Asking.{Held, held_of}
use Rattle.session.specs.Unopened.{Stood, stood_at}
use Rattle.session.specs.Start.{StartsTo}
use Rattle.session.specs.Replayed.{standing}

abbrev pub held_in : Host → Words → List ℕ → Held
held_in h w pool = held_of h.flushes h.counts (lent_words h.rows w pool)

abbrev pub stood_in : Stage → List ℕ → Host → Words → List ℕ → Stood
stood_in stage plan h w pool = stood_at stage plan h.flushes h.counts (lent_words h.rows w pool)

abbrev pub StartsIn : Opening → List ℕ → Lent → Started → List Row → Words → Type 0
StartsIn o plan l r rows w = StartsTo o plan l r rows w.store.now w.free.now w.ready.now w.owners.now

abbrev pub standing_in : Running → List ℕ → Words → List ℕ → Stood
standing_in r plan w pool = standing r plan w.store.now w.free.now w.ready.now w.owners.now pool
