-- What a host lends of row memory besides the rows, in the structs in which it is lent on.
use Rattle.std.specs.Prelude.{◌≡◌, List, ℕ, length}
use Rattle.model.specs.declared.{Row.Row, Lengths.Lengths}
use Rattle.model.specs.Memory.{Lent}
use Rattle.memory.specs.Lengths.{lengths_with}
use Rattle.memory.specs.declared.words.{Words.Words, View.View}

-- each part is the one that was lent, and as long
abbrev pub SameWords : Words → Words → Type 0
SameWords p p' =
    (p'.store.ghost_name ≡ p.store.ghost_name) × (p'.free.ghost_name ≡ p.free.ghost_name) × (p'.ready.ghost_name ≡ p.ready.ghost_name) ×
    (p'.owners.ghost_name ≡ p.owners.ghost_name) × (length p'.store.now ≡ length p.store.now) × (length p'.free.now ≡ length p.free.now) ×
    (length p'.ready.now ≡ length p.ready.now) × (length p'.owners.now ≡ length p.owners.now)

-- what is read in it is what stands in the parts
abbrev pub Sees : Words → View → Type 0
Sees p v =
    (v.store.now ≡ p.store.now) × (v.free.now ≡ p.free.now) × (v.ready.now ≡ p.ready.now) × (v.owners.now ≡ p.owners.now)

-- all that is lent, with the rows
abbrev pub lent_words : List Row → Words → List ℕ → Lent
lent_words rows p pool =
    record { rows = rows; store = p.store.now; free = p.free.now; ready = p.ready.now; owners = p.owners.now; pool = pool }

abbrev pub lent_seen : List Row → View → List ℕ → Lent
lent_seen rows v pool =
    record { rows = rows; store = v.store.now; free = v.free.now; ready = v.ready.now; owners = v.owners.now; pool = pool }

-- the lengths of all that is lent, with so many rows
abbrev pub lengths_lent : ℕ → Words → ℕ → Lengths
lengths_lent rows p pool = lengths_with rows p.store.now p.free.now p.ready.now p.owners.now pool

abbrev pub lengths_seen : ℕ → View → ℕ → Lengths
lengths_seen rows v pool = lengths_with rows v.store.now v.free.now v.ready.now v.owners.now pool
