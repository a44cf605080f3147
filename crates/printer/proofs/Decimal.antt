-- The digits that `io::decimal` makes, the fewest that hold the number, are the number's decimal digits. By induction on how many there are: the
-- last is the number's remainder by 10, and those in front are the fewest that hold its quotient.
use mathlib.Core.Path.{◌≡◌}
use Prim.Native.Nat.{ℕ, zero, suc, ◌+◌, ◌-◌, ◌*◌, ◌/◌, ◌%◌, ◌^◌, ◌≤◌, ◌<◌}
use native.Mathlib.Nat.{le_trans, mul-le-mul_right, one-le-pow, pow-le-pow_right, lt_of_not-le, pow-suc, mod-lt, mod-eq_of_lt, le-div_iff_mul-le, div-lt_iff_lt-mul}
use native.Mathlib.Omega.{arith}
use borrow.Author.Tests.{lt-ltb, le-ltb}
use Rattle.layout.specs.Pick.{pick}
use Rattle.io.specs.Digits.{hex_digit_ascii, last_digits, IsDigitCount}
use Rattle.printer.specs.Spaced.{decimal_up_to, decimal}

-- a remainder by 10 is written as one digit
last : (n : ℕ) → hex_digit_ascii (n % 10) ≡ 48 + n % 10
last n = rw (lt-ltb (n % 10) 10 (mod-lt n (omega arith)))

down : (k : ℕ) → suc k - 1 ≡ k
down k = omega arith

module _ (n k : ℕ) (f : IsDigitCount 10 1 n (suc (suc k))) where
  -- a number of k + 2 digits is at least 10^(k+1), so no single digit
  least : 10 ^ k * 10 ≤ n
  least = rw (down (suc k), pow-suc 10 k) at (f.2 (omega arith))

  ten_up : 10 ≤ n
  ten_up = le_trans (mul-le-mul_right 10 (one-le-pow k 10 (omega arith))) least

  -- without its last digit it has the fewest digits that hold its quotient
  front : IsDigitCount 10 1 (n / 10) (suc k)
  front = (
    omega arith,
    (div-lt_iff_lt-mul {k = 10} (omega arith)).1 (rw (pow-suc 10 (suc k)) at f.1),
    λ more. rw (down k) ((le-div_iff_mul-le {k = 10} (omega arith)).1 least),
  )

spelled_up_to : (m k n : ℕ) → k ≤ m → IsDigitCount 10 1 n k → last_digits 10 k n ≡ decimal_up_to m n
unfolding decimal_up_to pick
spelled_up_to m zero n h f = absurd (omega arith)
spelled_up_to zero (suc k) n h f = absurd (omega arith)
spelled_up_to (suc m) (suc zero) n h f =
    let small : n < 10 = f.1 in rw (lt-ltb n 10 small, mod-eq_of_lt small, lt-ltb n 10 small)
spelled_up_to (suc m) (suc (suc k)) n h f =
    rw (le-ltb n 10 (ten_up n k f), last n, spelled_up_to m (suc k) (n / 10) (omega arith) (front n k f))

-- a number of 64 bits has at most 20 digits
module _ (k n : ℕ) (f : IsDigitCount 10 1 n k) (small : n < 2 ^ 64) where
  too_many : 21 ≤ k → ⊥
  too_many h =
      let tens : 10 ^ 20 ≤ 10 ^ (k - 1) = pow-le-pow_right {n = 10} (omega arith) {i = 20} {j = k - 1} (omega arith) in
      let held : 10 ^ (k - 1) ≤ n = f.2 (omega arith) in omega arith

  pub few : k ≤ 20
  few = let below : k < 21 = lt_of_not-le too_many in omega arith

  pub is_decimal : last_digits 10 k n ≡ decimal n
  unfolding decimal
  is_decimal = spelled_up_to 20 k n few f
