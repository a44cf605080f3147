-- What `prepare` leaves: an admitted opening writes the front of each part of the row memory but the rows, and replies with the depth; a refused
-- one changes nothing and replies with none. For the code: the reply that a host gets is Opened's.
use Rattle.std.specs.Prelude.{◌≡◌, List, ℕ}
use Rattle.std.specs.declared.option.Option.{Option}
use Rattle.layout.specs.Pick.{pick}
use Rattle.model.specs.declared.{Opening.Opening, Lengths.Lengths}
use Rattle.model.specs.Memory.{store_opened, free_opened, ready_opened, owners_opened}
use Rattle.model.specs.Opening.{opens}
use Rattle.model.specs.declared.Row.{Row}
use Rattle.model.specs.Memory.{Lent}
use Rattle.memory.specs.declared.words.Words.{Words}
use Rattle.opening.specs.Opened.{Opened, OpensTo}

pub record Prepared (o : Opening) (plan : List ℕ) (l : Lengths) (depth : Option ℕ)
    (store free ready owners store' free' ready' owners' : List ℕ) : Type 0 where
  pub depth_is : depth ≡ pick (opens o plan l) (Option.Some o.depth) Option.None
  pub store_is : store' ≡ pick (opens o plan l) (store_opened o plan l store) store
  pub free_is : free' ≡ pick (opens o plan l) (free_opened o.depth free) free
  pub ready_is : ready' ≡ pick (opens o plan l) (ready_opened ready) ready
  pub owners_is : owners' ≡ pick (opens o plan l) (owners_opened o.buffers owners) owners

abbrev pub PreparedIn : Opening → List ℕ → Lengths → Option ℕ → Words → Words → Type 0
PreparedIn o plan l depth w w' =
    Prepared o plan l depth w.store.now w.free.now w.ready.now w.owners.now w'.store.now w'.free.now w'.ready.now w'.owners.now

-- what an opening leaves, likewise over the struct
abbrev pub OpensIn : Opening → List ℕ → Lent → Opened → List Row → Words → Type 0
OpensIn o plan l r rows w = OpensTo o plan l r rows w.store.now w.free.now w.ready.now w.owners.now
