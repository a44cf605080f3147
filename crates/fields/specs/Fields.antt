-- The fields of a line: "Fields are decimal digits (1 to 20 of them, no sign) separated by one space"; "a number over 2^64 − 1" is none.
use Rattle.std.specs.Prelude.{Bool, true, false, ◌&&◌, List, [], ◌∷◌, ℕ, zero, suc, ◌+◌, ◌-◌, ◌*◌, ◌^◌, length, leb, ltb, eqb}
use Rattle.std.specs.Prelude.{Option, Some, None, unwrap_or}
use Rattle.layout.specs.Pick.{pick}

-- how many spaces a line has; its fields are one more
unfoldable pub spaces : List ℕ → ℕ
spaces [] = 0
spaces (c ∷ cs) = pick (eqb c 32) 1 0 + spaces cs

-- the k-th field, from 0: what stands behind the k-th space, up to the next
unfoldable pub field : ℕ → List ℕ → List ℕ
field k [] = []
field zero (c ∷ cs) = pick (eqb c 32) [] (c ∷ field zero cs)
field (suc k) (c ∷ cs) = pick (eqb c 32) (field k cs) (field (suc k) cs)

unfoldable pub digit : ℕ → Bool
digit c = leb 48 c && leb c 57

unfoldable pub all_digits : List ℕ → Bool
all_digits [] = true
all_digits (c ∷ cs) = digit c && all_digits cs

-- the value of digits behind those whose value is n
unfoldable pub value : ℕ → List ℕ → ℕ
value n [] = n
value n (c ∷ cs) = value (10 * n + (c - 48)) cs

-- "decimal digits (1 to 20 of them, no sign)", at most 2^64 − 1
unfoldable pub is_number : List ℕ → Bool
is_number f = leb 1 (length f) && (leb (length f) 20 && (all_digits f && ltb (value 0 f) (2 ^ 64)))

-- the number that a field spells, if it spells one
unfoldable pub number_in : List ℕ → Option ℕ
number_in f = pick (is_number f) (Some (value 0 f)) None

-- whether two lists hold the same bytes
unfoldable pub eq_bytes : List ℕ → List ℕ → Bool
eq_bytes [] [] = true
eq_bytes [] (d ∷ ds) = false
eq_bytes (c ∷ cs) [] = false
eq_bytes (c ∷ cs) (d ∷ ds) = eqb c d && eq_bytes cs ds

-- whether the k-th field is a word
unfoldable pub word_in : ℕ → List ℕ → List ℕ → Bool
word_in k word cs = eq_bytes (field k cs) word

-- the number in the k-th field, 0 where it holds none
unfoldable pub num : ℕ → List ℕ → ℕ
num k cs = unwrap_or (number_in (field k cs)) 0

-- whether the fields behind the first are numbers, up to the n-th
unfoldable pub are_numbers : ℕ → List ℕ → Bool
are_numbers zero cs = true
are_numbers (suc n) cs = is_number (field (suc n) cs) && are_numbers n cs

-- "Flags are 0 or 1."
unfoldable pub is_flag : ℕ → List ℕ → Bool
is_flag k cs = is_number (field k cs) && leb (num k cs) 1
