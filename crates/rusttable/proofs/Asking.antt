-- The first no of a list of questions, one question at a time; and the Rust's tests, which ask the other way round.
use mathlib.Core.Path.{◌≡◌, refl, ap}
use mathlib.Core.Bool.{Bool, true, false, not, ◌&&◌, ◌||◌}
use mathlib.Core.List.{List, ◌∷◌}
use Prim.Native.Nat.{ℕ}
use native.Mathlib.Omega.{arith}
use borrow.Author.Tests.{ltb-true, ltb-false, eq-eqb, ne_eqb, le-leb, lt-leb}
use lib.Dec.{leb, ltb, eqb}
use Rattle.domain.specs.declared.FirstCause.{FirstCause}
use Rattle.std.specs.declared.option.Option.{Option}
use Rattle.std.specs.declared.option.Option.TheVariants.{None, Some}
use Rattle.completion.specs.declared.Context.{Context}
use Rattle.completion.specs.declared.Refusal.{Refusal}
use Rattle.completion.specs.declared.Refusal.TheVariants.{StaleGeneration, NotReady, Poisoned as poisoned_by}
use Rattle.model.specs.declared.Gate.{Gate}
use Rattle.model.specs.declared.Gate.TheVariants.{Open, Recycled, Released}
use Rattle.std.specs.declared.result.Result.TheVariants.{Err}
use Rattle.step.specs.Questions.{ask, first_no, gate_open, unpoisoned, Asked}

pub by_ask : (b : Bool) (f : Refusal) (more : List Asked) (P : Asked → Type 0) → (b ≡ true → P (first_no more)) → (b ≡ false → P (Err f)) → P (first_no (ask b f ∷ more))
unfolding first_no ask
by_ask true f more P y n = y refl
by_ask false f more P y n = n refl

pub by_gate : (g : Gate) (c : Context) (more : List Asked) (P : Asked → Type 0) → (g ≡ Open → P (first_no more)) → (g ≡ Recycled → P (Err (StaleGeneration c))) → (g ≡ Released → P (Err (NotReady c))) → P (first_no (gate_open g c ∷ more))
unfolding first_no gate_open
by_gate Open c more P y n m = y refl
by_gate Recycled c more P y n m = n refl
by_gate Released c more P y n m = m refl

pub by_poison : (p : Option FirstCause) (more : List Asked) (P : Asked → Type 0) → (p ≡ None → P (first_no more)) → ((cause : FirstCause) → p ≡ Some cause → P (Err (poisoned_by cause))) → P (first_no (unpoisoned p ∷ more))
unfolding first_no unpoisoned
by_poison None more P y n = y refl
by_poison (Some cause) more P y n = n cause refl

-- `a != b || c != d`
pub not_or : (a b v : Bool) → (a && b) ≡ v → (not a || not b) ≡ not v
not_or true b v e = ap not e
not_or false b v e = ap not e

pub zero_test : (n : ℕ) (v : Bool) → ltb 0 n ≡ v → eqb n 0 ≡ not v
zero_test n true e = ne_eqb n 0 (λ z. let lt = ltb-true 0 n e in omega arith)
zero_test n false e = eq-eqb n 0 (let le = ltb-false 0 n e in omega arith)

-- `live + ready.len() >= rows.len()`
pub full_test : (n depth : ℕ) (v : Bool) → ltb n depth ≡ v → leb depth n ≡ not v
full_test n depth true e = lt-leb depth n (ltb-true n depth e)
full_test n depth false e = le-leb depth n (ltb-false n depth e)
