-- Each of a region's three marks, set in its words.
use mathlib.Core.Path.{◌≡◌, refl, ap, ◌∙◌}
use mathlib.Core.Bool.{Bool, true, false}
use mathlib.Core.List.{List}
use Prim.Native.Nat.{ℕ, ◌<◌}
use native.Mathlib.Omega.{arith}
use lib.ListN.{length, set}
use lib.Seq.{get_or-set_same, get_or-set_other}
use Rattle.layout.specs.Pick.{pick}
use Rattle.model.specs.declared.Gate.{Gate}
use Rattle.model.specs.declared.Gate.TheVariants.{Open, Recycled, Released}
use Rattle.model.specs.Memory.{flag, gate_in, region_in, word01}
use Rattle.model.specs.Opening.{plan_in}
use Rattle.step.specs.Step.{with_gate, with_read_only, with_forced}
use Rattle.marks.specs.Marks.{gate_word}

gate_read : (g : Gate) → gate_in (gate_word g) ≡ g
unfolding gate_in gate_word pick
gate_read Open = refl
gate_read Recycled = refl
gate_read Released = refl

flag_read : (b : Bool) → flag (word01 b) ≡ b
unfolding flag
flag_read true = refl
flag_read false = refl

module _ (marks ws : List ℕ) where
  pub gate_set : (g : Gate) → 0 < length marks → region_in (set marks 0 (gate_word g)) ws ≡ with_gate (region_in marks ws) g
  unfolding region_in with_gate
  gate_set g l = λ i. record {
    id = (plan_in ws).id;
    generation = (plan_in ws).generation;
    map = (plan_in ws).map;
    gate = (ap gate_in (get_or-set_same marks 0 (gate_word g) 0 l) ∙ gate_read g) i;
    read_only = flag (get_or-set_other marks 0 1 (gate_word g) 0 (λ e. omega (arith, e)) i);
    forced = flag (get_or-set_other marks 0 2 (gate_word g) 0 (λ e. omega (arith, e)) i);
  }

  pub read_only_set : (b : Bool) → 1 < length marks → region_in (set marks 1 (word01 b)) ws ≡ with_read_only (region_in marks ws) b
  unfolding region_in with_read_only
  read_only_set b l = λ i. record {
    id = (plan_in ws).id;
    generation = (plan_in ws).generation;
    map = (plan_in ws).map;
    gate = gate_in (get_or-set_other marks 1 0 (word01 b) 0 (λ e. omega (arith, e)) i);
    read_only = (ap flag (get_or-set_same marks 1 (word01 b) 0 l) ∙ flag_read b) i;
    forced = flag (get_or-set_other marks 1 2 (word01 b) 0 (λ e. omega (arith, e)) i);
  }

  pub forced_set : (b : Bool) → 2 < length marks → region_in (set marks 2 (word01 b)) ws ≡ with_forced (region_in marks ws) b
  unfolding region_in with_forced
  forced_set b l = λ i. record {
    id = (plan_in ws).id;
    generation = (plan_in ws).generation;
    map = (plan_in ws).map;
    gate = gate_in (get_or-set_other marks 2 0 (word01 b) 0 (λ e. omega (arith, e)) i);
    read_only = flag (get_or-set_other marks 2 1 (word01 b) 0 (λ e. omega (arith, e)) i);
    forced = (ap flag (get_or-set_same marks 2 (word01 b) 0 l) ∙ flag_read b) i;
  }
