-- Queue tags and live rows: a tag is its row and its generation, a tag that names a row is that row's, and a live row lies within the table.
use mathlib.Core.Path.{◌≡◌, refl, sym, ap, ◌∙◌}
use mathlib.Core.Bool.{true, false}
use Prim.Native.Nat.{ℕ, ◌<◌, ◌^◌}
use native.Mathlib.Omega.{arith}
use borrow.Author.Tests.{eqb-true, eq-eqb}
use lib.Dec.{eqb}
use lib.ListN.{length}
use Rattle.layout.proofs.Tests.{not_both, and_left, and_right, and_both}
use Rattle.model.specs.declared.Awaits.{Awaits}
use Rattle.model.specs.declared.Awaits.TheVariants.{Nothing, Piece, Flush}
use Rattle.model.specs.declared.Row.{Row}
use Rattle.model.specs.State.{State, freed, awaiting}
use Rattle.step.specs.Step.{queue_tag, row_at, row_of, generation_of, is_live, names}
use Rattle.step.specs.Sound.{Sound}
use Rattle.step.specs.Lists.{tag_at}
use Rattle.step.proofs.Places.{within}
use Rattle.step.proofs.Named.{live_below}

-- two different numbers
pub clash {ℓ} : {A : Type ℓ} → ◌≡◌ {A = ℕ} 0 1 → A
clash z = absurd (let e : ◌≡◌ {A = ℕ} 0 1 = z in omega arith)

-- ---- queue tags

pub row_of_tag : (r g : ℕ) → r < 2 ^ 32 → row_of (queue_tag r g) ≡ r
unfolding row_of queue_tag
row_of_tag r g h = omega arith

pub generation_of_tag : (r g : ℕ) → r < 2 ^ 32 → generation_of (queue_tag r g) ≡ g
unfolding generation_of queue_tag
generation_of_tag r g h = omega arith

pub tag_of : (t : ℕ) → t ≡ queue_tag (row_of t) (generation_of t)
unfolding row_of generation_of queue_tag
tag_of t = omega arith

-- ---- live rows

pub dead_awaiting : (a : Awaits) → is_live a ≡ false → awaiting a ≡ 0
unfolding is_live awaiting
dead_awaiting Nothing e = refl
dead_awaiting (Piece k s) e = clash (cc)
dead_awaiting (Flush t) e = clash (cc)

-- a freed row is not live
pub freed_dead : (g : ℕ) → is_live (freed g).awaits ≡ false
unfolding is_live freed
freed_dead g = refl

-- a live row lies in the list
pub live_in : (s : State) (r : ℕ) → is_live (row_at s r).awaits ≡ true → r < length s.rows
unfolding row_at
live_in s r live = within s.rows r (freed 0) (λ (x : Row). is_live x.awaits ≡ true) (λ h. not_both h (freed_dead 0)) live

-- depths have 12 bits, rows 32
pub small_row : (s : State) → Sound s → (r : ℕ) → r < s.settings.depth → r < 2 ^ 32
small_row s i r lt = let m = i.numbers.most_depth in omega (arith, m)

-- ---- a tag that names a row

pub names_live : (r : Row) (t : ℕ) → names r t ≡ true → is_live r.awaits ≡ true
unfolding names
names_live r t e = and_left (is_live r.awaits) (eqb r.generation (generation_of t)) e

pub names_generation : (r : Row) (t : ℕ) → names r t ≡ true → r.generation ≡ generation_of t
unfolding names
names_generation r t e = eqb-true _ _ (and_right (is_live r.awaits) (eqb r.generation (generation_of t)) e)

pub names_by : (r : Row) (t : ℕ) → is_live r.awaits ≡ true → r.generation ≡ generation_of t → names r t ≡ true
unfolding names
names_by r t l e = and_both (is_live r.awaits) (eqb r.generation (generation_of t)) l (eq-eqb _ _ e)

pub named_tag : (s : State) (t : ℕ) → names (row_at s (row_of t)) t ≡ true → t ≡ tag_at s (row_of t)
unfolding tag_at
named_tag s t e = tag_of t ∙ ap (queue_tag (row_of t)) (sym (names_generation (row_at s (row_of t)) t e))

-- two tags that name one row are one
pub one_tag : (r : Row) (t u : ℕ) → row_of t ≡ row_of u → names r t ≡ true → names r u ≡ true → t ≡ u
one_tag r t u e a b = tag_of t ∙ (λ i. queue_tag (e i) ((sym (names_generation r t a) ∙ names_generation r u b) i)) ∙ sym (tag_of u)

module _ (s : State) (i : Sound s) (r : ℕ) (live : is_live (row_at s r).awaits ≡ true) where
  pub row_of_its_tag : row_of (tag_at s r) ≡ r
  unfolding tag_at
  row_of_its_tag = row_of_tag r (row_at s r).generation (small_row s i r (live_below s i r live))

  pub generation_of_its_tag : generation_of (tag_at s r) ≡ (row_at s r).generation
  unfolding tag_at
  generation_of_its_tag = generation_of_tag r (row_at s r).generation (small_row s i r (live_below s i r live))
