-- A line between `open` and `start`: by what the line says, the definition computes.
use mathlib.Core.Path.{◌≡◌, refl, sym, ap, ◌∙◌, subst}
use mathlib.Core.Bool.{Bool, true, false}
use mathlib.Core.List.{List, []}
use Prim.Native.Nat.{ℕ, ◌≤◌}
use native.Mathlib.Omega.{arith}
use lib.ListN.{length, get_or}
use lib.Dec.{leb, eqb}
use borrow.Author.Tests.{leb-true}
use Rattle.layout.specs.Pick.{pick}
use Rattle.model.specs.declared.Counts.{Counts}
use Rattle.model.specs.declared.Opening.{Opening}
use Rattle.model.specs.Memory.{Lent}
use Rattle.fields.specs.Trace.{line_read}
use Rattle.parser.specs.declared.preamble.OpenLine.{OpenLine}
use Rattle.parser.specs.declared.preamble.OpenLine.TheVariants.{Comment, Open, Region, Start, Bad}
use Rattle.parser.specs.Openings.{open_line_in, open_line_read, regions_after, plan_after}
use Rattle.printer.specs.Texts.{bad_text}
use Rattle.session.specs.Start.{started_as}
use Rattle.session.specs.declared.Stage.TheVariants.{Planned}
use Rattle.session.specs.Unopened.{Stood, stood_at, Tells, with_regions, with_region, start_line, planned_line}

-- a line that tells a region has at most 4,096 bytes
short_if : (t u : Bool) (x : OpenLine) → Region ≡ pick t x (pick u Comment Bad) → t ≡ true
unfolding pick
short_if true u x e = refl
short_if false true x e = absurd (let z : ◌≡◌ {A = ℕ} 0 1 = cc in omega arith)
short_if false false x e = absurd (let z : ◌≡◌ {A = ℕ} 0 1 = cc in omega arith)

pub region_short : (bytes : List ℕ) → Region ≡ open_line_read bytes → length bytes ≤ 4096
unfolding open_line_read line_read
region_short bytes e = leb-true (length bytes) 4096 (short_if (leb (length bytes) 4096) (eqb (get_or bytes 0 0) 35) (open_line_in bytes) e)

module _ (o : Opening) (bytes : List ℕ) (n : ℕ) (plan : List ℕ) (flushes : ℕ) (counts : Counts) (lent : Lent) where
  abbrev s : Stood
  s = stood_at (Planned o) plan flushes counts lent

  pub bad_planned : (x : OpenLine) → (x ≡ Comment → ⊥) → (x ≡ Region → ⊥) → (x ≡ Start → ⊥) → (text : List ℕ) → text ≡ bad_text n → Tells (planned_line x o bytes n s) s text
  unfolding planned_line
  bad_planned Comment w v h text p = absurd (w refl)
  bad_planned (Open x) w v h text p = (refl, p)
  bad_planned Region w v h text p = absurd (v refl)
  bad_planned Start w v h text p = absurd (h refl)
  bad_planned Bad w v h text p = (refl, p)

  module _ (line : OpenLine) where
    pub comment_planned : line ≡ Comment → Tells (planned_line line o bytes n s) s []
    unfolding planned_line
    comment_planned e = subst (λ (x : OpenLine). Tells (planned_line x o bytes n s) s []) (sym e) (refl, refl)

    pub region_planned : line ≡ Region → (k : ℕ) → k ≡ regions_after o.regions → (o' : Opening) → o' ≡ with_regions k o → (plan' : List ℕ) → plan' ≡ plan_after bytes o.regions plan
        → Tells (planned_line line o bytes n s) (stood_at (Planned o') plan' flushes counts lent) []
    unfolding planned_line with_region
    region_planned e k is o' with-k plan' put =
        subst (λ (x : OpenLine). Tells (planned_line x o bytes n s) (stood_at (Planned o') plan' flushes counts lent) []) (sym e)
        (λ j. stood_at (Planned ((with-k ∙ ap (λ (i : ℕ). with_regions i o) is) j)) (put j) flushes counts lent, refl)

    pub start_planned : line ≡ Start → line ≡ open_line_read bytes → (s' : Stood) (text : List ℕ) → Tells (start_line (started_as o plan lent) o s) s' text
        → Tells (planned_line (open_line_read bytes) o bytes n s) s' text
    unfolding planned_line
    start_planned e read s' text t = subst (λ (x : OpenLine). Tells (planned_line x o bytes n s) s' text) (sym e ∙ read) t

    pub other_planned : line ≡ open_line_read bytes → (s' : Stood) (text : List ℕ) → Tells (planned_line line o bytes n s) s' text → Tells (planned_line (open_line_read bytes) o bytes n s) s' text
    other_planned read s' text t = subst (λ (x : OpenLine). Tells (planned_line x o bytes n s) s' text) read t
