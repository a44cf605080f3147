-- The bytes that a fill writes, one by one; one byte more of a sum; a stretch within the pool by a quotient.
use mathlib.Core.Path.{◌≡◌, refl, sym, ap, ◌∙◌}
use mathlib.Core.Logic.{⊎_elim}
use mathlib.Core.List.{List}
use Prim.Native.Nat.{ℕ, zero, suc, ◌+◌, ◌-◌, ◌*◌, ◌/◌, ◌%◌, ◌≤◌, ◌<◌}
use native.Mathlib.Nat.{mod-add-div, add-mul-div_left, add-mul-mod_self_left, le-div_iff_mul-le}
use native.Mathlib.Omega.{arith}
use lib.Dec.{leb}
use borrow.Author.Tests.{leb-true, leb-false, le-leb}
use Rattle.layout.proofs.Tests.{true_or_false}
use lib.ListN.{length, get_or, drop}
use lib.Seq.{drop-cons}
use Rattle.hostfill.specs.Writes.{fill_byte, fill_bytes, sum_from}

pub as_many : (seed i n : ℕ) → length (fill_bytes seed i n) ≡ n
unfolding fill_bytes
as_many seed i zero = refl
as_many seed i (suc n) = ap suc (as_many seed (i + 1) n)

pub byte_at : (seed i n j : ℕ) → j < n → get_or (fill_bytes seed i n) j 0 ≡ fill_byte seed (i + j)
unfolding fill_bytes
byte_at seed i zero j l = absurd (omega (arith, l))
byte_at seed i (suc n) zero l = ap (fill_byte seed) (let e : i ≡ i + 0 = omega arith in e)
byte_at seed i (suc n) (suc j) l = byte_at seed (i + 1) n j (omega (arith, l)) ∙ ap (fill_byte seed) (let e : i + 1 + j ≡ i + suc j = omega arith in e)

pub byte_first : (seed n j : ℕ) → j < n → get_or (fill_bytes seed 0 n) j 0 ≡ fill_byte seed j
byte_first seed n j l = byte_at seed 0 n j l ∙ ap (fill_byte seed) (let e : 0 + j ≡ j = omega arith in e)

-- the byte by the last bytes of the numbers
pub low_byte : (seed i : ℕ) → (seed % 256 + (7 * (i % 65536) + i % 65536 / 256)) % 256 ≡ fill_byte seed i
unfolding fill_byte
low_byte seed i =
    let low = i % 65536 in
    let q = i / 65536 in
    let s = seed / 256 in
    let y = seed % 256 + (7 * low + low / 256) in
    let is : low + 65536 * q ≡ i = mod-add-div i 65536 in
    let split : low + 256 * (256 * q) ≡ i = omega (arith, is) in
    let quotient : i / 256 ≡ low / 256 + 256 * q = ap (λ (k : ℕ). k / 256) (sym split) ∙ add-mul-div_left low (256 * q) {y = 256} (omega arith) in
    let seeds : seed % 256 + 256 * s ≡ seed = mod-add-div seed 256 in
    let whole : seed + 7 * i + i / 256 ≡ y + 256 * (s + 1792 * q + q) = omega (arith, is, quotient, seeds) in
    sym (ap (λ (k : ℕ). k % 256) whole ∙ add-mul-mod_self_left y 256 (s + 1792 * q + q))

pub one_more_lem : (s1 s2 i : ℕ) (bytes : List ℕ) → i < length bytes
    → sum_from s1 s2 (drop i bytes) ≡ sum_from ((s1 + get_or bytes i 0) % 4294967291) ((s2 + (s1 + get_or bytes i 0) % 4294967291) % 4294967291) (drop (suc i) bytes)
unfolding sum_from
one_more_lem s1 s2 i bytes l = ap (sum_from s1 s2) (drop-cons bytes i 0 l)

-- buffer b lies in the pool, by the quotient
pub by_quotient : (b capacity len : ℕ) → 0 < capacity → capacity ≤ len → leb b ((len - capacity) / capacity) ≡ leb (b * capacity + capacity) len
by_quotient b capacity len some room =
    ⊎_elim
    (λ t. let inside = leb-true (b * capacity + capacity) len t in le-leb b _ ((le-div_iff_mul-le some).1 (omega (arith, inside))) ∙ sym t)
    (λ t. let outside = leb-false (b * capacity + capacity) len t in ⊎_elim
    (λ u. absurd (let most = (le-div_iff_mul-le some).0 (leb-true b ((len - capacity) / capacity) u) in omega (arith, outside, most, room)))
    (λ u. u ∙ sym t)
    (true_or_false (leb b ((len - capacity) / capacity))))
    (true_or_false (leb (b * capacity + capacity) len))
