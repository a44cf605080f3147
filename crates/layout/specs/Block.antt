-- "Block is a power of two, 512 to 65,536." "Positions, card offsets and lengths here are multiples of the block."
use Rattle.std.specs.Prelude.{Bool, false, ◌&&◌, ◌||◌, ℕ, zero, suc, ◌%◌, ◌^◌, leb, eqb}

-- n is a power of two, 2^k for some k below the first argument
unfoldable pub power_below : ℕ → ℕ → Bool
power_below zero n = false
power_below (suc k) n = eqb n (2 ^ k) || power_below k n

-- "a power of two, 512 to 65,536"
unfoldable pub is_block : ℕ → Bool
is_block n = leb 512 n && (leb n 65536 && power_below 64 n)

-- x is a multiple of the block b
unfoldable pub on_block : ℕ → ℕ → Bool
on_block b x = eqb (x % b) 0
