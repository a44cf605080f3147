-- The laws of rows in words: a row is read back from its words, by cases on what it awaits; a row that is put changes the 16 words of its place, by induction
-- on the place.
use mathlib.Core.Path.{◌≡◌, refl, sym, ap, ap₂, ◌∙◌}
use mathlib.Core.Bool.{Bool, true, false}
use mathlib.Core.Logic.{◌⊎◌, inl, inr}
use mathlib.Core.List.{List, [], ◌∷◌, ◌++◌, append_assoc}
use Prim.Native.Nat.{ℕ, zero, suc, ◌+◌, ◌*◌, ◌/◌, ◌≤◌, ◌<◌}
use native.Mathlib.Nat.{mod-eq_of_lt, not-suc-le-zero, le_of_suc-le-suc}
use native.Mathlib.Decide.{dec_lt}
use native.Mathlib.Omega.{arith}
use lib.ListN.{length, get_or, take, drop, set, replicate, length-replicate, length-append, length-drop, replicate-append-replicate, get_or-eq_default}
use lib.Seq.{length-take-le, take_at, drop_at, take-add, drop-drop, set_out}
use borrow.Author.Tests.{lt-ltb, le-ltb}
use Rattle.layout.specs.Pick.{pick}
use Rattle.model.specs.declared.Awaits.{Awaits}
use Rattle.model.specs.declared.Awaits.TheVariants.{Nothing, Piece, Flush}
use Rattle.model.specs.declared.Kind.TheVariants.{Page, Read}
use Rattle.model.specs.declared.Row.{Row}
use Rattle.model.specs.State.{freed}
use Rattle.model.specs.Memory.{flag, word01, over}
use Rattle.ring.specs.Queue.{placed}
use Rattle.ring.proofs.Laws.{placed_long, placed_other}
use Rattle.abi.specs.RowWords.{split_in, ticket_in, awaits_in, row_in, awaits_words, words_of, AwaitsFits, RowFits, rows_from, rows_in, row_put, rows_cleared, RowLaws}

-- ---- one row

awaits_long : (a : Awaits) → length (awaits_words a) ≡ 10
unfolding awaits_words
awaits_long Nothing = refl
awaits_long (Piece (Page a b) s) = refl
awaits_long (Piece (Read a b) s) = refl
awaits_long (Flush t) = refl

pub long : (r : Row) → length (words_of r) ≡ 16
unfolding words_of
long r = omega (arith, awaits_long r.awaits)

-- one that awaits nothing lies in words
pub nothing_fits : (a : Awaits) → get_or (awaits_words a) 0 0 ≡ 0 → AwaitsFits a
unfolding awaits_words AwaitsFits
nothing_fits Nothing e = tt
nothing_fits (Piece (Page a b) s) e = tt
nothing_fits (Piece (Read a b) s) e = tt
nothing_fits (Flush t) e = absurd (omega (arith, e))

-- the words, one by one
abbrev ten : List ℕ → List ℕ
ten x = get_or x 0 0 ∷ get_or x 1 0 ∷ get_or x 2 0 ∷ get_or x 3 0 ∷ get_or x 4 0 ∷ get_or x 5 0 ∷ get_or x 6 0 ∷ get_or x 7 0 ∷ get_or x 8 0 ∷ get_or x 9 0 ∷ []

awaits_ten : (a : Awaits) → ten (awaits_words a) ≡ awaits_words a
unfolding awaits_words
awaits_ten Nothing = refl
awaits_ten (Piece (Page a b) s) = refl
awaits_ten (Piece (Read a b) s) = refl
awaits_ten (Flush t) = refl

pub words_are : (r : Row) (x : List ℕ) (d : ℕ) → x ≡ awaits_words r.awaits → d ≡ word01 r.durable → r.generation ∷ r.tag ∷ r.seq ∷ r.handle ∷ r.buffer ∷ d ∷ ten x ≡ words_of r
unfolding words_of
words_are r x d e f =
    ap₂ (λ (m : ℕ) (ys : List ℕ). r.generation ∷ r.tag ∷ r.seq ∷ r.handle ∷ r.buffer ∷ m ∷ ys) f (ap ten e ∙ awaits_ten r.awaits)

awaits_read : (a : Awaits) (g t s h b d : ℕ) → AwaitsFits a → awaits_in (g ∷ t ∷ s ∷ h ∷ b ∷ d ∷ awaits_words a) ≡ a
unfolding awaits_in awaits_words split_in ticket_in AwaitsFits pick
awaits_read Nothing g t s h b d f = refl
awaits_read (Piece (Page x y) z) g t s h b d f = refl
awaits_read (Piece (Read x y) z) g t s h b d f = refl
awaits_read (Flush x) g t s h b d f =
    λ i. Flush (record { volume = x.volume; region = x.region; generation = mod-eq_of_lt f i; start = x.start; end = x.end; need = x.need; epoch = x.epoch })

flag_read : (b : Bool) → flag (word01 b) ≡ b
unfolding flag
flag_read true = refl
flag_read false = refl

pub held : (r : Row) → RowFits r → row_in (words_of r) ≡ r
unfolding row_in words_of
held r f = λ i. record {
  generation = mod-eq_of_lt f.generation i;
  tag = r.tag;
  seq = r.seq;
  handle = r.handle;
  buffer = r.buffer;
  durable = flag_read r.durable i;
  awaits = awaits_read r.awaits r.generation r.tag r.seq r.handle r.buffer (word01 r.durable) f.awaits i;
}

zeros : words_of (freed 0) ≡ replicate 16 0
unfolding words_of awaits_words freed
zeros = refl

blank : row_in (replicate 16 0) ≡ freed 0
unfolding row_in awaits_in freed flag pick
blank = refl

-- ---- the rows

from_long : (n : ℕ) (ws : List ℕ) → length (rows_from n ws) ≡ n
unfolding rows_from
from_long zero ws = refl
from_long (suc n) ws = ap suc (from_long n (drop 16 ws))

pub count : (ws : List ℕ) → length (rows_in ws) ≡ length ws / 16
unfolding rows_in
count ws = from_long (length ws / 16) ws

from_at : (n : ℕ) (ws : List ℕ) (at : ℕ) → at < n → get_or (rows_from n ws) at (freed 0) ≡ row_in (take 16 (drop (16 * at) ws))
unfolding rows_from
from_at zero ws at l = absurd (not-suc-le-zero l)
from_at (suc n) ws zero l = refl
from_at (suc n) ws (suc at) l =
    let more : 16 + 16 * at ≡ 16 * suc at = omega arith in
    from_at n (drop 16 ws) at (le_of_suc-le-suc l) ∙ ap (λ (vs : List ℕ). row_in (take 16 vs)) (drop-drop (16 * at) 16 ws ∙ ap (λ (k : ℕ). drop k ws) more)

pub row_there : (ws : List ℕ) (at : ℕ) → at < length ws / 16 → get_or (rows_in ws) at (freed 0) ≡ row_in (take 16 (drop (16 * at) ws))
unfolding rows_in
row_there ws at l = from_at (length ws / 16) ws at l

pub no_row : (ws : List ℕ) (at : ℕ) → length ws / 16 ≤ at → get_or (rows_in ws) at (freed 0) ≡ freed 0
no_row ws at g = get_or-eq_default (rows_in ws) (freed 0) (omega (arith, g, count ws))

-- ---- a row that is put

placed_more : (k : ℕ) (xs ws : List ℕ) → placed (16 + k) xs ws ≡ take 16 ws ++ placed k xs (drop 16 ws)
unfolding placed
placed_more k xs ws =
    ap₂ (λ (front behind : List ℕ). front ++ over xs behind) (take-add 16 k ws) (sym (drop-drop k 16 ws))
    ∙ append_assoc (take 16 ws) (take k (drop 16 ws)) (over xs (drop k (drop 16 ws)))

-- the rows of 16 words and of what follows
from_next : (n : ℕ) (xs ys : List ℕ) → length xs ≡ 16 → rows_from (suc n) (xs ++ ys) ≡ row_in xs ∷ rows_from n ys
unfolding rows_from
from_next n xs ys e = ap₂ (λ (a b : List ℕ). row_in a ∷ rows_from n b) (take_at xs ys 16 e) (drop_at xs ys 16 e)

put_first : (n : ℕ) (xs ws : List ℕ) → length xs ≡ 16 → rows_from (suc n) (placed 0 xs ws) ≡ row_in xs ∷ rows_from n (drop 16 ws)
unfolding placed over
put_first n xs ws e = from_next n xs (drop (length xs) ws) e ∙ ap (λ (k : ℕ). row_in xs ∷ rows_from n (drop k ws)) e

from_put : (n at : ℕ) (xs ws : List ℕ) → length xs ≡ 16 → at < n → 16 * n ≤ length ws → rows_from n (placed (16 * at) xs ws) ≡ set (rows_from n ws) at (row_in xs)
unfolding rows_from
from_put zero at xs ws e l room = absurd (not-suc-le-zero l)
from_put (suc n) zero xs ws e l room = put_first n xs ws e
from_put (suc n) (suc at) xs ws e l room =
    let more : 16 * suc at ≡ 16 + 16 * at = omega arith in
    let front : length (take 16 ws) ≡ 16 = length-take-le 16 ws (omega arith) in
    ap (λ (k : ℕ). rows_from (suc n) (placed k xs ws)) more
    ∙ ap (rows_from (suc n)) (placed_more (16 * at) xs ws)
    ∙ from_next n (take 16 ws) (placed (16 * at) xs (drop 16 ws)) front
    ∙ ap (λ (rs : List Row). row_in (take 16 ws) ∷ rs) (from_put n at xs (drop 16 ws) e (le_of_suc-le-suc l) (omega (arith, length-drop 16 ws)))

module _ (at : ℕ) (r : Row) (ws : List ℕ) where
  pub put_there : at < length ws / 16 → row_put at r ws ≡ placed (16 * at) (words_of r) ws
  unfolding row_put pick
  put_there l = rw (lt-ltb at (length ws / 16) l)

  -- of what is written there word by word
  pub put_words_are : (w : List ℕ) → w ≡ words_of r → at < length ws / 16 → take (16 * at) ws ++ w ++ drop (16 * at + length w) ws ≡ row_put at r ws
  unfolding placed over
  put_words_are w e l =
      ap (λ (vs : List ℕ). take (16 * at) ws ++ vs ++ drop (16 * at + length vs) ws) e
      ∙ append_assoc (take (16 * at) ws) (words_of r) (drop (16 * at + length (words_of r)) ws)
      ∙ ap (λ (vs : List ℕ). take (16 * at) ws ++ (words_of r ++ vs)) (sym (drop-drop (length (words_of r)) (16 * at) ws))
      ∙ sym (put_there l)

  pub put_nowhere : length ws / 16 ≤ at → row_put at r ws ≡ ws
  unfolding row_put pick
  put_nowhere g = rw (le-ltb at (length ws / 16) g)

  room : at < length ws / 16 → 16 * at + length (words_of r) ≤ length ws
  room l = omega (arith, long r)

  by_place : {A : Type 0} → (at < length ws / 16 → A) → (length ws / 16 ≤ at → A) → A
  by_place {A} f g = by_test (dec_lt at (length ws / 16))
    where
      by_test : Dec (at < length ws / 16) → A
      by_test (yes l) = f l
      by_test (no n) = g (omega arith)

  pub put_long : length (row_put at r ws) ≡ length ws
  put_long = by_place (λ l. ap length (put_there l) ∙ placed_long (16 * at) (words_of r) ws (room l)) (λ g. ap length (put_nowhere g))

  pub put_others : (i : ℕ) → (i < 16 * at) ⊎ (16 * at + 16 ≤ i) → get_or (row_put at r ws) i 0 ≡ get_or ws i 0
  put_others i apart =
      by_place (λ l. ap (λ (vs : List ℕ). get_or vs i 0) (put_there l) ∙ placed_other (16 * at) (words_of r) ws (room l) i (counted apart))
      (λ g. ap (λ (vs : List ℕ). get_or vs i 0) (put_nowhere g))
    where
      counted : (i < 16 * at) ⊎ (16 * at + 16 ≤ i) → (i < 16 * at) ⊎ (16 * at + length (words_of r) ≤ i)
      counted (inl l) = inl l
      counted (inr g) = inr (omega (arith, g, long r))

  pub put_rows : RowFits r → rows_in (row_put at r ws) ≡ set (rows_in ws) at r
  unfolding rows_in
  put_rows f = by_place there nowhere
    where
      n : ℕ
      n = length ws / 16

      there : at < n → rows_from (length (row_put at r ws) / 16) (row_put at r ws) ≡ set (rows_from n ws) at r
      there l =
          ap (λ (k : ℕ). rows_from (k / 16) (row_put at r ws)) put_long
          ∙ ap (rows_from n) (put_there l)
          ∙ from_put n at (words_of r) ws (long r) l (omega arith)
          ∙ ap (set (rows_from n ws) at) (held r f)

      nowhere : n ≤ at → rows_from (length (row_put at r ws) / 16) (row_put at r ws) ≡ set (rows_from n ws) at r
      nowhere g = ap (λ (vs : List ℕ). rows_from (length vs / 16) vs) (put_nowhere g) ∙ sym (set_out (rows_from n ws) at r (omega (arith, g, from_long n ws)))

-- ---- rows that are cleared

abbrev front : {A : Type 0} → A → ℕ → List A → List A
front x n ys = replicate n x ++ drop n ys

over_is : {A : Type 0} (x : A) (n : ℕ) (ys : List A) → over (replicate n x) ys ≡ front x n ys
unfolding over
over_is x n ys = ap (λ (m : ℕ). replicate n x ++ drop m ys) (length-replicate n x)

from_cleared : (k n : ℕ) (ws : List ℕ) → k ≤ n → rows_from n (front 0 (16 * k) ws) ≡ front (freed 0) k (rows_from n ws)
unfolding rows_from
from_cleared zero n ws le = refl
from_cleared (suc k) zero ws le = absurd (not-suc-le-zero le)
from_cleared (suc k) (suc n) ws le =
    let more : 16 * suc k ≡ 16 + 16 * k = omega arith in
    ap (λ (m : ℕ). rows_from (suc n) (front 0 m ws)) more
    ∙ ap₂ (λ (a b : List ℕ). rows_from (suc n) (a ++ b)) (sym (replicate-append-replicate 16 (16 * k) 0)) (sym (drop-drop (16 * k) 16 ws))
    ∙ ap (rows_from (suc n)) (append_assoc (replicate 16 0) (replicate (16 * k) 0) (drop (16 * k) (drop 16 ws)))
    ∙ from_next n (replicate 16 0) (front 0 (16 * k) (drop 16 ws)) refl
    ∙ ap₂ (λ (r : Row) (rs : List Row). r ∷ rs) blank (from_cleared k n (drop 16 ws) (le_of_suc-le-suc le))

pub cleared_long : (n : ℕ) (ws : List ℕ) → n ≤ length ws / 16 → length (rows_cleared n ws) ≡ length ws
unfolding rows_cleared
cleared_long n ws le =
    ap length (over_is 0 (16 * n) ws) ∙ omega (arith, le, length-append (replicate (16 * n) 0) (drop (16 * n) ws), length-replicate {A = ℕ} (16 * n) 0, length-drop (16 * n) ws)

pub cleared_is : (n : ℕ) (ws : List ℕ) → rows_cleared n ws ≡ front 0 (16 * n) ws
unfolding rows_cleared
cleared_is n ws = over_is 0 (16 * n) ws

pub cleared_rows : (n : ℕ) (ws : List ℕ) → n ≤ length ws / 16 → rows_in (rows_cleared n ws) ≡ over (replicate n (freed 0)) (rows_in ws)
unfolding rows_in rows_cleared
cleared_rows n ws le =
    ap (λ (k : ℕ). rows_from (k / 16) (rows_cleared n ws)) (cleared_long n ws le)
    ∙ ap (rows_from (length ws / 16)) (over_is 0 (16 * n) ws)
    ∙ from_cleared n (length ws / 16) ws le
    ∙ sym (over_is (freed 0) n (rows_from (length ws / 16) ws))

pub row_laws : RowLaws
row_laws = record {
  long = long;
  held = held;
  zeros = zeros;
  count = count;
  put = put_rows;
  put_long = put_long;
  put_others = put_others;
  cleared = cleared_rows;
}
