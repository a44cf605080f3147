-- The laws of the two transfers: reading by induction on the count, writing by the two tests of whether an offset lies in the range; a read
-- of what was written has the same length and the same byte at each place.
use mathlib.Core.Path.{◌≡◌, refl, ap, ◌∙◌}
use mathlib.Core.Bool.{Bool, true, false, ◌&&◌}
use mathlib.Core.List.{List}
use Prim.Native.Nat.{ℕ, zero, suc, ◌+◌, ◌-◌, ◌≤◌, ◌<◌}
use native.Mathlib.Omega.{arith}
use lib.ListN.{length, get_or}
use lib.Seq.{ext_get_or}
use lib.Dec.{leb, ltb}
use borrow.Author.Tests.{leb-true, ltb-true, le-leb, lt-ltb}
use Rattle.layout.specs.Pick.{pick}
use Rattle.posix.specs.Posix.{Card, pread, within, pwrite, TransferLaws}

-- ---- reading

count : (card : Card) (offset n : ℕ) → length (pread card offset n) ≡ n
unfolding pread
count card offset zero = refl
count card offset (suc n) = ap suc (count card _ n)

reads : (card : Card) (offset n i : ℕ) → i < n → get_or (pread card offset n) i 0 ≡ card (offset + i)
unfolding pread
reads card offset zero i h = absurd (omega arith)
reads card offset (suc n) zero h = ap card (omega arith)
reads card offset (suc n) (suc i) h = reads card _ n i (omega arith) ∙ ap card (omega arith)

-- ---- writing

is_within : (offset n x : ℕ) → offset ≤ x → x < offset + n → within offset n x ≡ true
unfolding within
is_within offset n x h k = rw (le-leb offset x h, lt-ltb x (offset + n) k)

bounds : (offset n x : ℕ) → within offset n x ≡ true → (offset ≤ x) × (x < offset + n)
unfolding within
bounds offset n x p = go (leb offset x) refl p
  where
    go : (b : Bool) → leb offset x ≡ b → (b && ltb x (offset + n)) ≡ true → (offset ≤ x) × (x < offset + n)
    go true q r = (leb-true offset x q, ltb-true x (offset + n) r)
    go false q r = absurd (let z : ◌≡◌ {A = ℕ} 0 1 = cc in omega arith)

picked : (b : Bool) (new old : ℕ) → b ≡ true → pick b new old ≡ new
unfolding pick
picked b new old p = rw p

unpicked : (b : Bool) (new old : ℕ) → (b ≡ true → ⊥) → pick b new old ≡ old
unfolding pick
unpicked true new old n = absurd (n refl)
unpicked false new old n = refl

replaces : (card : Card) (offset : ℕ) (bytes : List ℕ) (i : ℕ) → i < length bytes → pwrite card offset bytes (offset + i) ≡ get_or bytes i 0
unfolding pwrite
replaces card offset bytes i h = picked _ _ _ (is_within _ _ _ (omega arith) (omega arith)) ∙ ap (λ (j : ℕ). get_or bytes j 0) (omega arith)

others : (card : Card) (offset : ℕ) (bytes : List ℕ) (x : ℕ) → ((i : ℕ) → i < length bytes → offset + i ≡ x → ⊥) → pwrite card offset bytes x ≡ card x
unfolding pwrite
others card offset bytes x away = unpicked _ _ _ (λ p. let h = bounds _ _ _ p in away (x - offset) (omega arith) (omega arith))

given_back_lem : (card : Card) (offset : ℕ) (bytes : List ℕ) → pread (pwrite card offset bytes) offset (length bytes) ≡ bytes
given_back_lem card offset bytes =
    let after = pwrite card offset bytes in
    let same = count after offset (length bytes) in
    ext_get_or 0 (pread after offset (length bytes)) bytes same (λ i h. let k : i < length bytes = omega arith in reads after offset (length bytes) i k ∙ replaces card offset bytes i k)

pub transfer_laws : TransferLaws
transfer_laws = record { count = count; reads = reads; replaces = replaces; others = others; given_back_lem = given_back_lem }
