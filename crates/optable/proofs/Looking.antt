-- From what the parts of a lookup ensure to what it ensures: the reply is the step's, since of a sound table the two tests of the lengths agree, the live
-- rows are those counted, and no mark exceeds 64 bits.
use Rattle.std.proofs.Common.{◌≡◌, ℕ, ◌+◌, ◌*◌, ◌^◌, ◌<◌, ◌≤◌, min, Bool, true, false, eqb, ◌⊎◌, List, [], ◌∷◌, length, take, sym, refl, ap, ◌∙◌, subst, inl, inr, le_trans, le_refl, mod-eq_of_lt, arith}
use native.Mathlib.Nat.{min-le_right}
use Rattle.std.specs.declared.option.Option.{Option}
use Rattle.std.specs.declared.option.Option.TheVariants.{None, Some}
use Rattle.layout.proofs.Tests.{true_or_false}
use Rattle.layout.specs.Pick.{pick}
use Rattle.regionmap.specs.Found.{wrap64}
use Rattle.completion.specs.declared.Refusal.TheVariants.{Unfit}
use Rattle.completion.specs.declared.Reply.{Reply}
use Rattle.completion.specs.declared.Reply.TheVariants.{No as turnedAway, Mark}
use Rattle.model.specs.declared.Counts.{Counts}
use Rattle.model.specs.declared.Row.{Row}
use Rattle.model.specs.declared.Lookup.{Lookup}
use Rattle.model.specs.declared.Lookup.TheVariants.{WritesLive, Mark as MarkNow}
use Rattle.model.specs.State.{State, live_rows}
use Rattle.model.specs.Memory.{Lent, lengths_of, same_lengths, settings_in, state_in}
use Rattle.step.specs.Step.{is_live, oldest, mark_of, looked_up, look}
use Rattle.step.specs.Sound.{Sound}
use Rattle.step.proofs.Memory.{lengths_same}
use Rattle.optable.specs.Called.{lent_of, LooksTo}
use Rattle.optable.specs.declared.lookup.Looked.{Looked}
use Rattle.optable.specs.Looked.{looked_in, mark_wrapped, replies_as, answer_of}

-- a number of 64 bits is itself
wrapped : (n : ℕ) → n < 2 ^ 64 → wrap64 n ≡ n
unfolding wrap64
wrapped n l = mod-eq_of_lt l

-- the oldest live sequence number is at most the next
not_above : (t : Bool) (a m n : ℕ) → m ≤ n → pick t (min a m) m ≤ n
unfolding pick
not_above true a m n l = le_trans (min-le_right a m) l
not_above false a m n l = l

oldest_most : (n : ℕ) (rows : List Row) → oldest n rows ≤ n
unfolding oldest
oldest_most n [] = le_refl n
oldest_most n (r ∷ rs) = not_above (is_live r.awaits) r.seq (oldest n rs) n (oldest_most n rs)

-- the mark as a number of 64 bits is the mark
marks : (c : Counts) (rows : List Row) → c.live ≡ live_rows rows → c.submissions ≤ 2 ^ 62
    → mark_wrapped c (oldest c.submissions rows) ≡ pick (eqb (live_rows rows) 0) (2 * c.submissions) (2 * oldest c.submissions rows + 1)
unfolding mark_wrapped
marks c rows live most =
    let n : ℕ = oldest c.submissions rows in
    let n_most : n ≤ c.submissions = oldest_most c.submissions rows in
    let none_live : wrap64 (c.submissions + c.submissions) ≡ 2 * c.submissions = wrapped (c.submissions + c.submissions) (omega (arith, most)) ∙ omega arith in
    let twice : wrap64 (n + n) ≡ n + n = wrapped (n + n) (omega (arith, n_most, most)) in
    let some_live : wrap64 (wrap64 (n + n) + 1) ≡ 2 * n + 1 = ap (λ (k : ℕ). wrap64 (k + 1)) twice ∙ wrapped (n + n + 1) (omega (arith, n_most, most)) ∙ omega arith in
    λ i. pick (eqb (live i) 0) (none_live i) (some_live i)

module _ (x : Lookup) (c : Counts) (rows : List Row) (store free ready owners pool : List ℕ) where
  abbrev lent : Lent
  lent = lent_of rows store free ready owners pool

  abbrev s : State
  s = state_in c lent

  abbrev same : Bool
  same = same_lengths (lengths_of lent) store

  -- what is found in the rows, by the depth, where there is one
  abbrev pub looked_by : Option ℕ → Option Looked
  looked_by None = None
  looked_by (Some depth) = Some (looked_in c.submissions (take depth rows))

  -- the depth, by the test of the lengths
  abbrev pub fit_by : Bool → Option ℕ
  fit_by t = pick t (Some (settings_in store).depth) None

  -- the reply by the test of the lengths
  abbrev by_test : Bool → Reply
  by_test t = answer_of x c (looked_by (fit_by t))

  as_looked : (y : Lookup) → Sound s → replies_as y c (looked_in c.submissions (take (settings_in store).depth rows)) ≡ looked_up s y
  unfolding replies_as looked_in looked_up mark_of state_in
  as_looked WritesLive i = refl
  as_looked MarkNow i = ap Mark (marks c (take (settings_in store).depth rows) i.live (le_trans i.submissions i.numbers.most_lifetime))

  looks_to : LooksTo x c lent (by_test same)
  unfolding answer_of pick look state_in
  looks_to = record { another_length = λ e. ap by_test e; as_look = λ i. by_lengths i (true_or_false same) }
    where
      by_lengths : Sound s → (same ≡ true) ⊎ (same ≡ false) → by_test same ≡ look s (lengths_of lent) x
      by_lengths i (inl e) = ap by_test e ∙ as_looked x i ∙ sym (ap (λ (t : Bool). pick t (looked_up s x) (turnedAway Unfit)) (sym (lengths_same c lent i) ∙ e))
      by_lengths i (inr e) = ap by_test e ∙ sym (ap (λ (t : Bool). pick t (looked_up s x) (turnedAway Unfit)) (sym (lengths_same c lent i) ∙ e))

  -- the test of the lengths, of n rows
  abbrev same_with : ℕ → Bool
  same_with n = same_lengths (record { rows = n; store = length store; free = length free; ready = length ready; owners = length owners; pool = length pool }) store

  -- what is found in the rows, by the depth, and the reply by whether there is one
  pub looks_as : (n : ℕ) → length rows ≡ n → (fit : Option ℕ) (l : Option Looked) (r : Reply) → fit ≡ fit_by (same_with n) → l ≡ looked_by fit → r ≡ answer_of x c l → LooksTo x c lent r
  unfolding lengths_of
  looks_as n long fit l r fits found answered =
      let here : same_with n ≡ same = ap same_with (sym long) in
      subst (LooksTo x c lent) (sym (answered ∙ ap (answer_of x c) (found ∙ ap looked_by (fits ∙ ap fit_by here)))) looks_to
