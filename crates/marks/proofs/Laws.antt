-- Poison in the words is poison of the state. The four words of a cause are read where they were stored; the words before them are the settings and
-- the lengths, and those behind them the marks and the regions.
use mathlib.Core.Path.{◌≡◌, refl, sym, ap, ap₂, ◌∙◌, subst}
use mathlib.Core.Logic.{⊎_elim}
use mathlib.Core.Bool.{Bool, true, false}
use mathlib.Core.List.{List}
use Prim.Native.Nat.{ℕ, ◌≤◌, ◌<◌}
use native.Mathlib.Decide.{dec_le}
use native.Mathlib.Omega.{arith}
use lib.ListN.{length, get_or, set, drop, length-set}
use lib.Seq.{drop-set-lt, get_or-set_same, get_or-set_other}
use lib.Dec.{lit≤}
use Rattle.layout.specs.Pick.{pick}
use Rattle.layout.proofs.Tests.{true_or_false}
use Rattle.domain.specs.declared.FirstCause.{FirstCause}
use Rattle.std.specs.declared.option.Option.{Option}
use Rattle.std.specs.declared.option.Option.TheVariants.{None, Some}
use Rattle.domain.specs.Domain.{first_kept}
use Rattle.model.specs.declared.Counts.{Counts}
use Rattle.model.specs.Memory.{Lent, flag, cause_in, op_word, has_word, raw_word, ErrorFits, settings_in, poison_in, regions_in, state_in}
use Rattle.model.proofs.Completions.{cause_read}
use Rattle.step.specs.Step.{with_poison}
use Rattle.marks.specs.Marks.{poisoned_in, with_store, PoisonLaws}
use Rattle.marks.proofs.Words.{cause_at, new, poisoned_short, poisoned_first, poisoned_new}
use Rattle.marks.proofs.Parts.{state_with}

-- ---- the four words

module _ (a b d : ℕ) (store : List ℕ) where
  pub at_length : length (cause_at a b d store) ≡ length store
  at_length = simp length-set refl

  pub at_behind : (n : ℕ) → 23 ≤ n → drop n (cause_at a b d store) ≡ drop n store
  at_behind n l =
      drop-set-lt n (set (set (set store 19 1) 20 a) 21 b) 22 d (omega (arith, l))
      ∙ drop-set-lt n (set (set store 19 1) 20 a) 21 b (omega (arith, l))
      ∙ drop-set-lt n (set store 19 1) 20 a (omega (arith, l))
      ∙ drop-set-lt n store 19 1 (omega (arith, l))

  pub at_before : (j : ℕ) → j < 19 → get_or (cause_at a b d store) j 0 ≡ get_or store j 0
  at_before j l =
      get_or-set_other (set (set (set store 19 1) 20 a) 21 b) 22 j d 0 (λ e. omega (arith, e, l))
      ∙ get_or-set_other (set (set store 19 1) 20 a) 21 j b 0 (λ e. omega (arith, e, l))
      ∙ get_or-set_other (set store 19 1) 20 j a 0 (λ e. omega (arith, e, l))
      ∙ get_or-set_other store 19 j 1 0 (λ e. omega (arith, e, l))

  module _ (enough : 48 ≤ length store) where
    -- a word and those stored behind it
    at_22 : get_or (cause_at a b d store) 22 0 ≡ d
    at_22 = get_or-set_same (set (set (set store 19 1) 20 a) 21 b) 22 d 0 (simp length-set (omega (arith, enough)))

    at_21 : get_or (cause_at a b d store) 21 0 ≡ b
    at_21 = get_or-set_other (set (set (set store 19 1) 20 a) 21 b) 22 21 d 0 (λ e. omega (arith, e)) ∙ get_or-set_same (set (set store 19 1) 20 a) 21 b 0 (simp length-set (omega (arith, enough)))

    at_20 : get_or (cause_at a b d store) 20 0 ≡ a
    at_20 =
        get_or-set_other (set (set (set store 19 1) 20 a) 21 b) 22 20 d 0 (λ e. omega (arith, e))
        ∙ get_or-set_other (set (set store 19 1) 20 a) 21 20 b 0 (λ e. omega (arith, e))
        ∙ get_or-set_same (set store 19 1) 20 a 0 (simp length-set (omega (arith, enough)))

    at_19 : get_or (cause_at a b d store) 19 0 ≡ 1
    at_19 =
        get_or-set_other (set (set (set store 19 1) 20 a) 21 b) 22 19 d 0 (λ e. omega (arith, e))
        ∙ get_or-set_other (set (set store 19 1) 20 a) 21 19 b 0 (λ e. omega (arith, e))
        ∙ get_or-set_other (set store 19 1) 20 19 a 0 (λ e. omega (arith, e))
        ∙ get_or-set_same store 19 1 0 (omega (arith, enough))

    pub poison_at : poison_in (cause_at a b d store) ≡ Some (cause_in a b d)
    unfolding poison_in pick flag
    poison_at = λ i. pick (flag (at_19 i)) (Some (cause_in (at_20 i) (at_21 i) (at_22 i))) None

-- ---- the laws

-- the first is kept
is_first : (store : List ℕ) → flag (get_or store 19 0) ≡ true → poison_in store ≡ Some (cause_in (get_or store 20 0) (get_or store 21 0) (get_or store 22 0))
unfolding poison_in pick
is_first store e = ap (λ (b : Bool). pick b (Some (cause_in (get_or store 20 0) (get_or store 21 0) (get_or store 22 0))) None) e

is_never : (store : List ℕ) → flag (get_or store 19 0) ≡ false → poison_in store ≡ None
unfolding poison_in pick
is_never store e = ap (λ (b : Bool). pick b (Some (cause_in (get_or store 20 0) (get_or store 21 0) (get_or store 22 0))) None) e

module _ (c : Counts) (l : Lent) (cause : FirstCause) (enough : 48 ≤ length l.store) (fits : ErrorFits cause.raw) where
  abbrev kept : Option FirstCause
  kept = first_kept (poison_in l.store) cause

  when_poisoned : flag (get_or l.store 19 0) ≡ true → state_in c (with_store l (poisoned_in cause l.store)) ≡ with_poison (state_in c l) kept
  unfolding state_in with_poison
  when_poisoned e =
      let first = is_first l.store e in
      ap (λ (w : List ℕ). state_in c (with_store l w)) (poisoned_first cause l.store enough e)
      ∙ ap (with_poison (state_in c l)) (first ∙ sym (ap (λ (p : Option FirstCause). first_kept p cause) first))

  when_not : flag (get_or l.store 19 0) ≡ false → state_in c (with_store l (poisoned_in cause l.store)) ≡ with_poison (state_in c l) kept
  unfolding state_in with_poison
  when_not e =
      let a = op_word cause.op in
      let b = has_word cause.raw in
      let d = raw_word cause.raw in
      let first = poison_at a b d l.store enough ∙ ap Some (cause_read cause fits) in
      ap (λ (w : List ℕ). state_in c (with_store l w)) (poisoned_new cause l.store enough e)
      ∙ state_with c l (new cause l.store) (at_before a b d l.store) (state_in c l).regions kept
      (ap₂ (regions_in (settings_in l.store).regions) (at_behind a b d l.store 24 (lit≤ tt)) (at_behind a b d l.store 48 (lit≤ tt)))
      (first ∙ sym (ap (λ (p : Option FirstCause). first_kept p cause) (is_never l.store e)))

-- what holds of the words as they are, and with a cause in its place, holds of poisoned words
either : (P : List ℕ → Type 0) (cause : FirstCause) (store : List ℕ) → P store → P (new cause store) → P (poisoned_in cause store)
either P cause store as_is stored = by_case (dec_le 48 (length store))
  where
    by_case : Dec (48 ≤ length store) → P (poisoned_in cause store)
    by_case (yes l) =
        ⊎_elim (λ e. subst P (sym (poisoned_first cause store l e)) as_is) (λ e. subst P (sym (poisoned_new cause store l e)) stored) (true_or_false (flag (get_or store 19 0)))
    by_case (no n) = subst P (sym (poisoned_short cause store (omega (arith, n)))) as_is

behind : (cause : FirstCause) (store : List ℕ) → (length (poisoned_in cause store) ≡ length store) × (drop 48 (poisoned_in cause store) ≡ drop 48 store)
behind cause store =
    let a = op_word cause.op in
    let b = has_word cause.raw in
    let d = raw_word cause.raw in
    either (λ w. (length w ≡ length store) × (drop 48 w ≡ drop 48 store)) cause store (refl, refl) (at_length a b d store, at_behind a b d store 48 (lit≤ tt))

pub poison_laws : PoisonLaws
poison_laws = record {
  poisoned = λ c l cause enough fits. ⊎_elim (when_poisoned c l cause enough fits) (when_not c l cause enough fits) (true_or_false (flag (get_or l.store 19 0)));
  beyond = behind;
}
