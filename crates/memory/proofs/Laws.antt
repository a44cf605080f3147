-- The state's regions are those in the words: the h-th of the list has dropped 3 marks and 70 words h times, by induction on h.
use mathlib.Core.Path.{◌≡◌, refl, ap, ap₂, ◌∙◌}
use mathlib.Core.List.{List}
use Prim.Native.Nat.{ℕ, zero, suc, ◌+◌, ◌*◌, ◌<◌}
use native.Mathlib.Nat.{not-suc-le-zero, le_of_suc-le-suc}
use native.Mathlib.Omega.{arith}
use lib.ListN.{get_or, take, drop}
use lib.Seq.{drop-drop}
use Rattle.model.specs.declared.Counts.{Counts}
use Rattle.model.specs.State.{Region, no_region}
use Rattle.model.specs.Memory.{Lent, region_in, regions_in, settings_in, state_in}
use Rattle.step.specs.Questions.{region_at}
use Rattle.memory.specs.Live.{region_of, LiveLaws}

-- the region whose marks and words start at the given places
abbrev from : List ℕ → List ℕ → ℕ → ℕ → Region
from marks ws i j = region_in (take 3 (drop i marks)) (take 70 (drop j ws))

-- a part of what is left behind the first n starts n later
behind : (marks ws : List ℕ) (m n i j p q : ℕ) → m + i ≡ p → n + j ≡ q → from (drop m marks) (drop n ws) i j ≡ from marks ws p q
behind marks ws m n i j p q e f =
    ap₂ (λ (x y : List ℕ). region_in (take 3 x) (take 70 y))
    (drop-drop i m marks ∙ ap (λ (k : ℕ). drop k marks) e)
    (drop-drop j n ws ∙ ap (λ (k : ℕ). drop k ws) f)

at : (n h : ℕ) (marks ws : List ℕ) → h < n → get_or (regions_in n marks ws) h no_region ≡ from marks ws (3 * h) (70 * h)
unfolding regions_in
at zero h marks ws l = absurd (not-suc-le-zero l)
at (suc n) zero marks ws l = refl
at (suc n) (suc h) marks ws l = at n h (drop 3 marks) (drop 70 ws) (le_of_suc-le-suc l) ∙ behind marks ws 3 70 (3 * h) (70 * h) (3 * suc h) (70 * suc h) (omega arith) (omega arith)

region : (c : Counts) (l : Lent) (h : ℕ) → h < (settings_in l.store).regions → region_at (state_in c l) h ≡ region_of l.store h
unfolding region_at state_in region_of
region c l h below =
    let s = l.store in
    at (settings_in s).regions h (drop 24 s) (drop 48 s) below ∙ behind s s 24 48 (3 * h) (70 * h) (24 + 3 * h) (48 + 70 * h) refl refl

pub live_laws : LiveLaws
live_laws = record { region = region }
