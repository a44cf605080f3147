-- What the opening's rules on numbers mean, as propositions: used instead of the tests' text.
use Rattle.std.specs.Prelude.{◌≡◌, true, ◌-◌, ◌^◌, ◌≤◌}
use Rattle.layout.specs.Block.{is_block, on_block}
use Rattle.model.specs.declared.{Opening.Opening, Lengths.Lengths}
use Rattle.model.specs.Opening.{store_words, ready_words}

pub record Numbers (o : Opening) : Type 0 where
  pub some_depth : 1 ≤ o.depth
  pub most_depth : o.depth ≤ 4096
  pub block : is_block o.block ≡ true
  pub some_buffers : 1 ≤ o.buffers
  pub most_buffers : o.buffers ≤ 4096
  pub some_capacity : 1 ≤ o.capacity
  pub most_capacity : o.capacity ≤ 65536
  pub on_block_lem : on_block o.block o.capacity ≡ true
  pub some_lifetime : 1 ≤ o.lifetime
  pub most_lifetime : o.lifetime ≤ 2 ^ 62
  pub some_regions : 1 ≤ o.regions
  pub most_regions : o.regions ≤ 8
  pub card : o.card ≤ 2 ^ 63 - 1

-- the row memory is long enough
pub record Room (o : Opening) (l : Lengths) : Type 0 where
  pub rows : o.depth ≤ l.rows
  pub store : store_words o.regions ≤ l.store
  pub free : o.depth ≤ l.free
  pub ready : ready_words o.depth ≤ l.ready
  pub owners : o.buffers ≤ l.owners
