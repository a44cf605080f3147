-- The words that a mark or a poison changes, by cases on the tests.
use mathlib.Core.Path.{◌≡◌, ap, ◌∙◌}
use mathlib.Core.Bool.{Bool, true, false, not}
use mathlib.Core.List.{List}
use Prim.Native.Nat.{ℕ, ◌+◌, ◌*◌, ◌≤◌, ◌<◌}
use lib.ListN.{length, get_or, set}
use lib.Dec.{ltb}
use borrow.Author.Tests.{lt-ltb, le-ltb, le-leb, lt-leb, eq-eqb, ne_eqb}
use Rattle.layout.specs.Pick.{pick}
use Rattle.domain.specs.declared.FirstCause.{FirstCause}
use Rattle.model.specs.Memory.{flag, op_word, has_word, raw_word}
use Rattle.marks.specs.Marks.{marked_in, poisoned_in}

module _ (h mark word : ℕ) (store : List ℕ) where
  pub marked_in_lem : h < 8 → mark < 3 → marked_in h mark word store ≡ set store (24 + 3 * h + mark) word
  unfolding marked_in pick
  marked_in_lem l m =
      ap (λ (b : Bool). pick b (pick (ltb mark 3) (set store (24 + 3 * h + mark) word) store) store) (lt-ltb h 8 l)
      ∙ ap (λ (b : Bool). pick b (set store (24 + 3 * h + mark) word) store) (lt-ltb mark 3 m)

  pub marked_handle : 8 ≤ h → marked_in h mark word store ≡ store
  unfolding marked_in pick
  marked_handle l = ap (λ (b : Bool). pick b (pick (ltb mark 3) (set store (24 + 3 * h + mark) word) store) store) (le-ltb h 8 l)

  pub marked_mark : h < 8 → 3 ≤ mark → marked_in h mark word store ≡ store
  unfolding marked_in pick
  marked_mark l m =
      ap (λ (b : Bool). pick b (pick (ltb mark 3) (set store (24 + 3 * h + mark) word) store) store) (lt-ltb h 8 l)
      ∙ ap (λ (b : Bool). pick b (set store (24 + 3 * h + mark) word) store) (le-ltb mark 3 m)

pub flag_on : (n : ℕ) → (n ≡ 0 → ⊥) → flag n ≡ true
unfolding flag
flag_on n e = ap not (ne_eqb n 0 e)

pub flag_off : (n : ℕ) → n ≡ 0 → flag n ≡ false
unfolding flag
flag_off n e = ap not (eq-eqb n 0 e)

-- the four words of a cause
abbrev pub cause_at : ℕ → ℕ → ℕ → List ℕ → List ℕ
cause_at a b d store = set (set (set (set store 19 1) 20 a) 21 b) 22 d

module _ (c : FirstCause) (store : List ℕ) where
  abbrev pub new : List ℕ
  new = cause_at (op_word c.op) (has_word c.raw) (raw_word c.raw) store

  pub poisoned_short : length store < 48 → poisoned_in c store ≡ store
  unfolding poisoned_in pick
  poisoned_short l = ap (λ (b : Bool). pick b (pick (flag (get_or store 19 0)) store new) store) (lt-leb 48 (length store) l)

  pub poisoned_first : 48 ≤ length store → flag (get_or store 19 0) ≡ true → poisoned_in c store ≡ store
  unfolding poisoned_in pick
  poisoned_first l e =
      ap (λ (b : Bool). pick b (pick (flag (get_or store 19 0)) store new) store) (le-leb 48 (length store) l)
      ∙ ap (λ (b : Bool). pick b store new) e

  pub poisoned_new : 48 ≤ length store → flag (get_or store 19 0) ≡ false → poisoned_in c store ≡ new
  unfolding poisoned_in pick
  poisoned_new l e =
      ap (λ (b : Bool). pick b (pick (flag (get_or store 19 0)) store new) store) (le-leb 48 (length store) l)
      ∙ ap (λ (b : Bool). pick b store new) e
