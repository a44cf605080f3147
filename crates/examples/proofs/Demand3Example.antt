-- The suppositions of demand 3 can be met: they hold of the two lists of specs/Demand3Lists.antt. What an operation gets in the second list it gets in the first, by demand 3.
use mathlib.Core.Path.{◌≡◌, sym, ◌∙◌}
use mathlib.Core.Bool.{true}
use mathlib.Core.List.{List}
use Prim.Native.Nat.{ℕ}
use lib.ListN.{length, length-replicate}
use Rattle.layout.proofs.Tests.{not_both}
use Rattle.posix.specs.Posix.{Card}
use Rattle.step.specs.Step.{row_at, is_live}
use Rattle.step.specs.Sound.{Sound}
use Rattle.step.specs.Lists.{Given, given, Completed, Hosted, tag_at}
use Rattle.step.specs.Demand3.{AllDone, GivenAlike, Supposed, Agreed, Demand3}
use Rattle.step.specs.Run.{Start, plans_of, opened_by, after}
use Rattle.step.proofs.ProjectionReached.{reached_opened}
use Rattle.step.proofs.Projection.{reached_after}
use Rattle.step.proofs.Demand3.{demand3}
use Rattle.examples.specs.Demand3Lists.{lengths, pool, opening, table, submissions, history, s, first, second, l₁, l₂, Gets, start, Demand3Example}
use Rattle.examples.proofs.Beside.{apart_of}
use Rattle.examples.proofs.Acts.{acts_hosted, acts_fit, given_told}
use Rattle.examples.proofs.Demand3Computed.{admitted, by_row, Alike, GetsFirst, computed}

whole_pool : length pool ≡ lengths.pool
unfolding lengths
whole_pool = length-replicate {A = ℕ} 6144 0

abbrev opens_so : Start
opens_so = start admitted whole_pool

hosted : Hosted table history
unfolding table opened_by plans_of opening
hosted = acts_hosted table submissions (reached_opened opens_so).sound computed.permitted_all

sound : Sound s
unfolding s table after opened_by plans_of opening
sound = (reached_after opens_so history hosted).sound

-- ---- the suppositions

alike : (r : ℕ) (what : List Given) → Alike r what → given s l₁ (tag_at s r) ≡ given s l₂ (tag_at s r)
alike r what a =
    given_told s first (tag_at s r) sound a.telling₁ ∙ a.told₁ ∙ sym a.told₂ ∙ sym (given_told s second (tag_at s r) sound a.telling₂)

supposed : Supposed s l₁ l₂
unfolding GivenAlike AllDone
supposed = record {
  apart = apart_of s sound 4096 computed.laid;
  fits₁ = acts_fit s first sound computed.fair₁;
  fits₂ = acts_fit s second sound computed.fair₂;
  alike = by_row (λ r. is_live (row_at s r).awaits ≡ true → given s l₁ (tag_at s r) ≡ given s l₂ (tag_at s r))
      (λ live. alike 0 _ computed.alike_0)
      (λ live. alike 1 _ computed.alike_1)
      (λ live. alike 2 _ computed.alike_2)
      (λ live. alike 3 _ computed.alike_3)
      (λ live. alike 4 _ computed.alike_4)
      (λ live. alike 5 _ computed.alike_5)
      (λ r live. absurd (not_both live (computed.none_else r)));
  done₁ = computed.done₁;
  done₂ = computed.done₂;
}

-- so the two lists agree
agreed : (card : Card) → Agreed opens_so history card l₁ l₂
unfolding Demand3 s table after opened_by plans_of opening
agreed card = demand3 opens_so history hosted card l₁ l₂ supposed

-- and an operation gets in the second what it gets in the first
both : (r : ℕ) (what : Completed) → GetsFirst r what → Gets r what
unfolding s table after opened_by plans_of opening
both r what e = let one = (agreed (λ z. 0)).each r e.live in record { in_first = e.it; in_second = one.second ∙ sym one.first ∙ e.it }

pub demand3_example : Demand3Example
demand3_example = record {
  admitted = admitted;
  whole_pool = whole_pool;
  hosted = hosted;
  supposed = supposed;
  replied₁ = computed.replied₁;
  replied₂ = computed.replied₂;
  wrote₁ = computed.wrote₁;
  wrote₂ = computed.wrote₂;
  gets_0 = both 0 _ computed.gets_0;
  gets_1 = both 1 _ computed.gets_1;
  gets_2 = both 2 _ computed.gets_2;
  gets_3 = both 3 _ computed.gets_3;
  gets_4 = both 4 _ computed.gets_4;
  gets_5 = both 5 _ computed.gets_5;
  agreed = agreed;
}
