-- The laws of the block: a test that a number is a power of two gives the power, by going through the powers; 2 ^ k grows with k, so
-- the bounds on the number bound the power.
use mathlib.Core.Path.{◌≡◌, refl, sym, ap, ◌∙◌, subst}
use mathlib.Core.Logic.{◌⊎◌, inl, inr, ⊎_elim}
use mathlib.Core.Bool.{true, false, ◌&&◌, ◌||◌}
use Prim.Native.Nat.{ℕ, zero, suc, ◌+◌, ◌-◌, ◌*◌, ◌/◌, ◌%◌, ◌≤◌, ◌<◌, ◌^◌}
use native.Mathlib.Nat.{le_of_suc-le-suc, not-suc-le-zero, eq-or-lt_of_le, div-add-mod, mul-mod_right, add-zero, lt_of_le_of_lt, lt_of_lt_of_le}
use native.Mathlib.Omega.{arith}
use borrow.Author.Tests.{leb-true, leb-false, le-leb, eqb-true, eq-eqb}
use lib.Dec.{leb, eqb, lit<}
use lib.Pow.{pow-lt}
use Rattle.layout.specs.Block.{power_below, is_block, on_block}
use Rattle.layout.specs.Laws.{Block, Multiple, BlockLaws}
use Rattle.layout.proofs.Tests.{true_or_false, and_left, and_right, and_both, or_cases, or_first, or_second, not_both}

-- the power that the test found
record Power (k n : ℕ) : Type 0 where
  log2 : ℕ
  below : log2 < k
  power : n ≡ 2 ^ log2

one_more_lem : {k n : ℕ} → Power k n → Power (suc k) n
one_more_lem p = record { log2 = p.log2; below = omega (arith, p.below); power = p.power }

power_of : (k n : ℕ) → power_below k n ≡ true → Power k n
unfolding power_below
power_of zero n e = absurd (not_both e refl)
power_of (suc k) n e =
    ⊎_elim (λ (t : eqb n (2 ^ k) ≡ true). record { log2 = k; below = omega arith; power = eqb-true n (2 ^ k) t })
    (λ (t : power_below k n ≡ true). one_more_lem (power_of k n t))
    (or_cases (eqb n (2 ^ k)) (power_below k n) e)

power_test : (k j n : ℕ) → n ≡ 2 ^ j → j < k → power_below k n ≡ true
unfolding power_below
power_test zero j n e l = absurd (not-suc-le-zero l)
power_test (suc k) j n e l = last (eq-or-lt_of_le (le_of_suc-le-suc l)) (power_test k j n e)
  where
    last : (j ≡ k) ⊎ (j < k) → (j < k → power_below k n ≡ true) → (eqb n (2 ^ k) || power_below k n) ≡ true
    last (inl q) rest = or_first (eqb n (2 ^ k)) (power_below k n) (eq-eqb n (2 ^ k) (e ∙ ap (λ (x : ℕ). 2 ^ x) q))
    last (inr q) rest = or_second (eqb n (2 ^ k)) (power_below k n) (rest q)

-- the order of two powers is that of their logarithms
log_less : (i j : ℕ) → 2 ^ i < 2 ^ j → i < j
log_less i j h =
    ⊎_elim (λ (t : leb (suc i) j ≡ true). leb-true (suc i) j t)
    (λ (f : leb (suc i) j ≡ false). absurd (over (leb-false (suc i) j f)))
    (true_or_false (leb (suc i) j))
  where
    over : j < suc i → ⊥
    over l = ⊎_elim (λ (q : j ≡ i). omega (arith, ap (λ (x : ℕ). 2 ^ x) q)) (λ (q : j < i). omega (arith, pow-lt q)) (eq-or-lt_of_le (le_of_suc-le-suc l))

block : (n : ℕ) → is_block n ≡ true → Block n
unfolding is_block
block n e =
    let rest : (leb n 65536 && power_below 64 n) ≡ true = and_right (leb 512 n) _ e in
    let p : Power 64 n = power_of 64 n (and_right (leb n 65536) _ rest) in
    record {
      low = leb-true 512 n (and_left (leb 512 n) _ e);
      high = leb-true n 65536 (and_left (leb n 65536) _ rest);
      log2 = p.log2;
      power = p.power;
    }

is_block_lem : (n : ℕ) → Block n → is_block n ≡ true
unfolding is_block
is_block_lem n b =
    let small : 2 ^ b.log2 < 2 ^ 64 = subst (λ (x : ℕ). x < 2 ^ 64) b.power (lt_of_le_of_lt b.high (lit< tt)) in
    and_both (leb 512 n) _ (le-leb 512 n b.low)
    (and_both (leb n 65536) _ (le-leb n 65536 b.high) (power_test 64 b.log2 n b.power (log_less b.log2 64 small)))

-- the eight blocks
abbrev pub Eight : ℕ → Type 0
Eight n = (n ≡ 512) ⊎ ((n ≡ 1024) ⊎ ((n ≡ 2048) ⊎ ((n ≡ 4096) ⊎ ((n ≡ 8192) ⊎ ((n ≡ 16384) ⊎ ((n ≡ 32768) ⊎ (n ≡ 65536)))))))

pub all_blocks : (n : ℕ) → Eight n → is_block n ≡ true
unfolding is_block power_below
all_blocks n (inl e) = ap is_block e
all_blocks n (inr (inl e)) = ap is_block e
all_blocks n (inr (inr (inl e))) = ap is_block e
all_blocks n (inr (inr (inr (inl e)))) = ap is_block e
all_blocks n (inr (inr (inr (inr (inl e))))) = ap is_block e
all_blocks n (inr (inr (inr (inr (inr (inl e)))))) = ap is_block e
all_blocks n (inr (inr (inr (inr (inr (inr (inl e))))))) = ap is_block e
all_blocks n (inr (inr (inr (inr (inr (inr (inr e))))))) = ap is_block e

among : (n i : ℕ) → n ≡ 2 ^ (9 + i) → i < 8 → Eight n
among n zero e l = inl e
among n (suc zero) e l = inr (inl e)
among n (suc (suc zero)) e l = inr (inr (inl e))
among n (suc (suc (suc zero))) e l = inr (inr (inr (inl e)))
among n (suc (suc (suc (suc zero)))) e l = inr (inr (inr (inr (inl e))))
among n (suc (suc (suc (suc (suc zero))))) e l = inr (inr (inr (inr (inr (inl e)))))
among n (suc (suc (suc (suc (suc (suc zero)))))) e l = inr (inr (inr (inr (inr (inr (inl e))))))
among n (suc (suc (suc (suc (suc (suc (suc zero))))))) e l = inr (inr (inr (inr (inr (inr (inr e))))))
among n (suc (suc (suc (suc (suc (suc (suc (suc i)))))))) e l = absurd (omega arith)

pub no_other : (n : ℕ) → is_block n ≡ true → Eight n
no_other n e =
    let b : Block n = block n e in
    let low : 8 < b.log2 = log_less 8 b.log2 (lt_of_lt_of_le (lit< tt) (subst (λ (x : ℕ). 512 ≤ x) b.power b.low)) in
    let high : b.log2 < 17 = log_less b.log2 17 (lt_of_le_of_lt (subst (λ (x : ℕ). x ≤ 65536) b.power b.high) (lit< tt)) in
    let split : b.log2 ≡ 9 + (b.log2 - 9) = omega arith in
    among n (b.log2 - 9) (b.power ∙ ap (λ (x : ℕ). 2 ^ x) split) (omega arith)

multiple : (b x : ℕ) → on_block b x ≡ true → Multiple b x
unfolding on_block
multiple b x e = record { times = x / b; product = sym (div-add-mod x b) ∙ ap (λ (y : ℕ). b * (x / b) + y) (eqb-true (x % b) 0 e) ∙ add-zero (b * (x / b)) }

on_block_lem : (b x : ℕ) → Multiple b x → on_block b x ≡ true
unfolding on_block
on_block_lem b x m = eq-eqb (x % b) 0 (ap (λ (y : ℕ). y % b) m.product ∙ mul-mod_right b m.times)

pub block_laws : BlockLaws
block_laws = record { block = block; is_block_lem = is_block_lem; multiple = multiple; on_block_lem = on_block_lem }
