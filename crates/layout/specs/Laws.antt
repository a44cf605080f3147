-- The laws of the block: what other crates use instead of the definitions' text. Each is proved in proofs/Laws.antt.
use Rattle.std.specs.Prelude.{◌≡◌, true, ℕ, ◌*◌, ◌≤◌, ◌^◌}
use Rattle.layout.specs.Block.{is_block, on_block}

-- "Block is a power of two, 512 to 65,536."
pub record Block (n : ℕ) : Type 0 where
  pub low : 512 ≤ n
  pub high : n ≤ 65536
  pub log2 : ℕ
  pub power : n ≡ 2 ^ log2

-- x is a multiple of b
pub record Multiple (b x : ℕ) : Type 0 where
  pub times : ℕ
  pub product : x ≡ b * times

pub record BlockLaws : Type 0 where
  -- the test of a block, both ways
  pub block : (n : ℕ) → is_block n ≡ true → Block n
  pub is_block_lem : (n : ℕ) → Block n → is_block n ≡ true
  -- the test of a multiple, both ways; for b = 0 too
  pub multiple : (b x : ℕ) → on_block b x ≡ true → Multiple b x
  pub on_block_lem : (b x : ℕ) → Multiple b x → on_block b x ≡ true
