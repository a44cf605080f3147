-- Where a region and the store's poison lie in the store's words (the places are the model's Memory), and what of a region a submission is asked.
use Rattle.std.specs.Prelude.{◌≡◌, List, ℕ, ◌+◌, ◌*◌, ◌≤◌, ◌<◌, length, take, drop}
use Rattle.model.specs.declared.Counts.{Counts}
use Rattle.model.specs.State.{Region}
use Rattle.model.specs.Memory.{Lent, region_in, state_in, settings_in, GATE}
use Rattle.model.specs.Opening.{HEAD, REGION}
use Rattle.step.specs.Questions.{region_at}
use Rattle.memory.specs.declared.liveregion.LiveRegion.{LiveRegion}

-- the words have a place for the region at handle h
pub record InStore (store : List ℕ) (h : ℕ) : Type 0 where
  pub below : h < 8
  pub room : HEAD + REGION + REGION * h ≤ length store

-- the region there
unfoldable pub region_of : List ℕ → ℕ → Region
region_of store h = region_in (take 3 (drop (GATE + 3 * h) store)) (take REGION (drop (HEAD + REGION * h) store))

unfoldable pub live_of : Region → LiveRegion
live_of g =
    record { id = g.id; generation = g.generation; «data» = g.map.data_length; gate = g.gate; read_only = g.read_only; forced = g.forced }

-- the state's regions are those in the words
pub record LiveLaws : Type 0 where
  pub region : (c : Counts) (l : Lent) (h : ℕ) → h < (settings_in l.store).regions → region_at (state_in c l) h ≡ region_of l.store h
