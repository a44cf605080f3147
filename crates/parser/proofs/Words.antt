-- A region's words, one by one.
use mathlib.Core.Path.{◌≡◌, refl, ap, ◌∙◌}
use mathlib.Core.List.{List}
use Prim.Native.Nat.{ℕ, zero, suc, ◌+◌, ◌<◌}
use native.Mathlib.Omega.{arith}
use lib.ListN.{length, get_or}
use mathlib.Core.Bool.{Bool, true, false, ◌&&◌}
use Prim.Native.Nat.{◌^◌}
use lib.Dec.{ltb}
use Rattle.std.specs.Prelude.{Option, Some, None, unwrap_or}
use Rattle.layout.specs.Pick.{pick}
use Rattle.fields.specs.Fields.{field, is_number, number_in, num, value}
use Rattle.parser.specs.Values.{is_raw}
use Rattle.parser.specs.Openings.{region_word_in, words_from, region_words}

words_length : (n j : ℕ) (cs : List ℕ) → length (words_from n j cs) ≡ n
unfolding words_from
words_length zero j cs = refl
words_length (suc n) j cs = ap suc (words_length n (j + 1) cs)

words_at : (n j i : ℕ) (cs : List ℕ) → i < n → get_or (words_from n j cs) i 0 ≡ region_word_in (j + i) cs
unfolding words_from
words_at zero j i cs h = absurd (omega arith)
words_at (suc n) j zero cs h = let same : j ≡ j + 0 = omega arith in ap (λ (m : ℕ). region_word_in m cs) same
words_at (suc n) j (suc i) cs h =
    let same : j + 1 + i ≡ j + suc i = omega arith in words_at n (j + 1) i cs (omega arith) ∙ ap (λ (m : ℕ). region_word_in m cs) same

module _ (cs : List ℕ) where
  pub seventy : length (region_words cs) ≡ 70
  unfolding region_words
  seventy = words_length 70 0 cs

  pub word_at : (i : ℕ) → i < 70 → get_or (region_words cs) i 0 ≡ region_word_in i cs
  unfolding region_words
  word_at i h = let same : 0 + i ≡ i = omega arith in words_at 70 0 i cs h ∙ ap (λ (m : ℕ). region_word_in m cs) same

-- a field is an OS error by the number that it holds
abbrev pub raw_of : Option ℕ → Bool
raw_of None = false
raw_of (Some n) = ltb n (2 ^ 32)

pub is_raw_by : (k : ℕ) (cs : List ℕ) → is_raw k cs ≡ raw_of (number_in (field k cs))
unfolding is_raw number_in num pick
is_raw_by k cs = by_test (is_number (field k cs)) (value 0 (field k cs))
  where
    by_test : (t : Bool) (n : ℕ) → (t && ltb (unwrap_or (pick t (Some n) None) 0) (2 ^ 32)) ≡ raw_of (pick t (Some n) None)
    by_test true n = refl
    by_test false n = refl
