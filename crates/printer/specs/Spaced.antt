-- A number in decimal digits, behind a space.
use Rattle.std.specs.Prelude.{List, [], ◌∷◌, ◌++◌, ℕ, zero, suc, ◌+◌, ◌/◌, ◌%◌, ltb}
use Rattle.layout.specs.Pick.{pick}

-- a number in decimal digits, without zeros in front; at most as many digits as the first argument says
unfoldable pub decimal_up_to : ℕ → ℕ → List ℕ
decimal_up_to zero n = []
decimal_up_to (suc k) n = pick (ltb n 10) ((48 + n) ∷ []) (decimal_up_to k (n / 10) ++ ((48 + n % 10) ∷ []))

-- of a number of 64 bits
unfoldable pub decimal : ℕ → List ℕ
decimal n = decimal_up_to 20 n

-- a space and a number
unfoldable pub spaced : ℕ → List ℕ
spaced n = 32 ∷ decimal n
