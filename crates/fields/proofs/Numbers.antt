-- When a field is a number: exactly where it has 1 to 20 bytes, all digits, whose value is below 2^64; and how a number is read from a place on.
use mathlib.Core.Path.{◌≡◌, refl}
use mathlib.Core.List.{List, [], ◌∷◌}
use mathlib.Core.Bool.{Bool, true, false, ◌&&◌, and-false}
use Prim.Native.Nat.{ℕ, zero, suc, ◌+◌, ◌-◌, ◌*◌, ◌^◌, ◌≤◌, ◌<◌}
use native.Mathlib.Omega.{arith}
use lib.ListN.{length, drop, get_or, drop_of_length-le}
use lib.Dec.{leb, ltb}
use borrow.Author.Tests.{le-leb, lt-leb, leb-true, leb-false, lt-ltb, le-ltb}
use Rattle.std.specs.Prelude.{Option, Some, None, is_some, unwrap_or}
use Rattle.std.specs.Char.{is_ascii_digit}
use Rattle.layout.specs.Pick.{pick}
use Rattle.fields.specs.Fields.{field, digit, all_digits, value, is_number, number_in, num, are_numbers, is_flag}
use Rattle.fields.proofs.Fields.{from_on}

-- the number that digits spell behind those whose value is n, if it is below 2^64
unfoldable pub number_behind : ℕ → List ℕ → Option ℕ
number_behind n l = pick (all_digits l && ltb (value n l) (2 ^ 64)) (Some (value n l)) None

pub number_of_none : (f : List ℕ) → length f < 1 → number_in f ≡ None
unfolding number_in is_number pick
number_of_none f h = rw (lt-leb 1 (length f) h)

pub number_too_long : (f : List ℕ) → 20 < length f → number_in f ≡ None
unfolding number_in is_number pick
number_too_long f h = rw (lt-leb (length f) 20 h, and-false (leb 1 (length f)))

pub number_from_start : (f : List ℕ) → 1 ≤ length f → length f ≤ 20 → number_in f ≡ number_behind 0 f
unfolding number_in is_number pick number_behind
number_from_start f some few = rw (le-leb 1 (length f) some, le-leb (length f) 20 few)

-- more digits make no smaller number
value_grows : (n : ℕ) (l : List ℕ) → n ≤ value n l
unfolding value
value_grows n [] = omega arith
value_grows n (c ∷ cs) = let h = value_grows (10 * n + (c - 48)) cs in omega arith

pub number_at_end : (n : ℕ) (l : List ℕ) (i : ℕ) → length l ≤ i → n < 2 ^ 64 → number_behind n (drop i l) ≡ Some n
unfolding number_behind all_digits value pick
number_at_end n l i h fits = rw (drop_of_length-le l {i = i} h, lt-ltb n (2 ^ 64) fits)

module _ (n : ℕ) (l : List ℕ) (i : ℕ) (h : i < length l) where
  -- a digit joins the value
  pub number_on : is_ascii_digit (get_or l i 0) ≡ true → number_behind n (drop i l) ≡ number_behind (10 * n + (get_or l i 0 - 48)) (drop (i + 1) l)
  unfolding number_behind all_digits value digit
  number_on d = rw (from_on l i h, d)

  -- a byte that is none ends it
  pub number_out : is_ascii_digit (get_or l i 0) ≡ false → number_behind n (drop i l) ≡ None
  unfolding number_behind all_digits pick digit
  number_out d = rw (from_on l i h, d)

  -- and so does a value that is too large
  pub number_over : 2 ^ 64 ≤ 10 * n + (get_or l i 0 - 48) → number_behind n (drop i l) ≡ None
  unfolding number_behind value pick
  number_over large =
      let grows = value_grows (10 * n + (get_or l i 0 - 48)) (drop (i + 1) l) in
      rw (from_on l i h, le-ltb (value (10 * n + (get_or l i 0 - 48)) (drop (i + 1) l)) (2 ^ 64) (omega arith), and-false (all_digits (get_or l i 0 ∷ drop (i + 1) l)))

-- whether a field is a number, and which
pub is_some_number_in : (f : List ℕ) → is_some (number_in f) ≡ is_number f
unfolding number_in pick
is_some_number_in f = by_test (is_number f)
  where
    by_test : (t : Bool) → is_some (pick t (Some (value 0 f)) None) ≡ t
    by_test true = refl
    by_test false = refl

-- a field is a flag by the number that it holds
abbrev pub flag_of : Option ℕ → Bool
flag_of None = false
flag_of (Some n) = leb n 1

pub is_flag_by : (k : ℕ) (cs : List ℕ) → is_flag k cs ≡ flag_of (number_in (field k cs))
unfolding number_in pick is_flag num
is_flag_by k cs = by_test (is_number (field k cs)) (value 0 (field k cs))
  where
    by_test : (t : Bool) (n : ℕ) → (t && leb (unwrap_or (pick t (Some n) None) 0) 1) ≡ flag_of (pick t (Some n) None)
    by_test true n = refl
    by_test false n = refl

-- the fields up to the n-th are numbers where each is one
pub numbers_each : (n : ℕ) (cs : List ℕ) → ((k : ℕ) → 1 ≤ k → k ≤ n → is_number (field k cs) ≡ true) → are_numbers n cs ≡ true
unfolding are_numbers
numbers_each zero cs h = refl
numbers_each (suc n) cs h = rw (h (suc n) (omega arith) (omega arith)) (numbers_each n cs (λ k a b. h k a (omega arith)))

pub numbers_not : (n : ℕ) (cs : List ℕ) (k : ℕ) → 1 ≤ k → k ≤ n → is_number (field k cs) ≡ false → are_numbers n cs ≡ false
unfolding are_numbers
numbers_not zero cs k some within f = absurd (omega arith)
numbers_not (suc n) cs k some within f = by_last (leb k n) refl (λ h. numbers_not n cs k some h f)
  where
    by_last : (t : Bool) → leb k n ≡ t → (k ≤ n → are_numbers n cs ≡ false) → (is_number (field (suc n) cs) && are_numbers n cs) ≡ false
    by_last true e h = rw (h (leb-true k n e)) (and-false (is_number (field (suc n) cs)))
    by_last false e h = let last : suc n ≡ k = omega (arith, leb-false k n e) in rw (last, f)

pub ruleset reading = (number_of_none, number_too_long, number_from_start, number_at_end, number_on, number_out, number_over)
