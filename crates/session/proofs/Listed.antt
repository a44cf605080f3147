-- `rows` of an open table.
use mathlib.Core.Path.{◌≡◌, ◌∙◌}
use mathlib.Core.List.{List}
use Prim.Native.Nat.{ℕ, ◌≤◌}
use native.Mathlib.Omega.{arith}
use lib.ListN.{length, length-take}
use Rattle.model.specs.declared.Counts.{Counts}
use Rattle.model.specs.declared.Row.{Row}
use Rattle.model.specs.Memory.{settings_in, state_in}
use Rattle.printer.specs.Listed.{listed_text}
use Rattle.session.specs.Host.{ListsIn}

-- its depth is at most 64
pub lists : (c : Counts) (rows : List Row) (store free : List ℕ) (depth live : ℕ) (text : List ℕ) → length rows ≡ 64 → depth ≡ (settings_in store).depth → live ≡ c.live
    → (depth ≤ 64 → text ≡ listed_text depth live rows free) → ListsIn c rows store free text
unfolding state_in listed_text
lists c rows store free depth live text long d l told =
    λ ready owners pool o.
    let many = o.sound.rows in
    let is = length-take (settings_in store).depth rows in
    told (omega (arith, many, is, long, d)) ∙ (λ j. listed_text (d j) (l j) rows free)
