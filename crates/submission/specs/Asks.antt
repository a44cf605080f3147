-- The answer to a list of questions is promised for every state that is read off the words.
use Rattle.std.specs.Prelude.{◌≡◌, ℕ, ◌<◌, ◌≤◌, Bool, List, [], ◌∷◌, map, length, take}
use Rattle.std.specs.declared.option.Option.{Option}
use Rattle.domain.specs.declared.FirstCause.{FirstCause}
use Rattle.completion.specs.declared.Context.{Context}
use Rattle.model.specs.declared.{Opening.Opening, Counts.Counts, Request.Request}
use Rattle.model.specs.State.{State, Region}
use Rattle.model.specs.Memory.{settings_in, poison_in, owner_in}
use Rattle.model.specs.Opening.{HEAD}
use Rattle.step.specs.Questions.{range_from, region_at, first_no, buffer_in_pool, host_holds_buffer, room_in_table, lifetime_left, gate_open, Asked}
use Rattle.step.specs.Questions.{store_writable, unpoisoned, region_writable, volume_and_region_match, generation_matches}
use Rattle.step.specs.Questions.{length_above0, aligned, within_data}
use Rattle.memory.specs.declared.liveregion.LiveRegion.{LiveRegion}
use Rattle.memory.specs.Live.{InStore, region_of}

-- a state whose counts are c and whose settings, poison, regions and owners lie in these words
pub record Reads (s : State) (c : Counts) (store owners : List ℕ) : Type 0 where
  pub words : HEAD ≤ length store
  pub counts : s.counts ≡ c
  pub settings : s.settings ≡ settings_in store
  pub poison : s.poison ≡ poison_in store
  pub owners_are : s.owners ≡ map owner_in (take (settings_in store).buffers owners)
  pub in_store : (h : ℕ) → h < (settings_in store).regions → InStore store h
  pub regions : (h : ℕ) → h < (settings_in store).regions → region_at s h ≡ region_of store h

-- the answer to a list of questions
abbrev pub Questions : (State → Region → Request → List Asked) → Counts → List ℕ → List ℕ → Request → Asked → Type 0
Questions list c store owners q r = (s : State) → Reads s c store owners → r ≡ first_no (list s (region_at s q.handle) q)

-- the questions of a write behind the first, of what was read: 2 to 14
unfoldable pub write_list : Opening → Counts → LiveRegion → Option FirstCause → Bool → Request → List Asked
write_list o n g p held q =
    let c = Context.Region g.id in
    buffer_in_pool o.buffers o.capacity c q
    ∷ host_holds_buffer held c
    ∷ room_in_table o.depth n c
    ∷ lifetime_left o.lifetime n c
    ∷ gate_open g.gate c
    ∷ store_writable o.read_only
    ∷ unpoisoned p
    ∷ region_writable g.read_only c
    ∷ volume_and_region_match o.volume g.id c q
    ∷ generation_matches g.generation c q
    ∷ length_above0 c q
    ∷ aligned o.block c q
    ∷ within_data g.«data» c q
    ∷ []

-- of a read: 10, 11, 2 to 6, 12 to 14
unfoldable pub read_list : Opening → Counts → LiveRegion → Bool → Request → List Asked
read_list o n g held q =
    let c = Context.Region g.id in
    let r = range_from g.id q.offset q.length in
    volume_and_region_match o.volume g.id c q
    ∷ generation_matches g.generation c q
    ∷ buffer_in_pool o.buffers o.capacity c q
    ∷ host_holds_buffer held c
    ∷ room_in_table o.depth n c
    ∷ lifetime_left o.lifetime n c
    ∷ gate_open g.gate c
    ∷ length_above0 r q
    ∷ aligned o.block r q
    ∷ within_data g.«data» r q
    ∷ []
