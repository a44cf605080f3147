-- `opening::admits` meets its contract: the definition's conjunction, test by test, and each rule's requires by those that were asked before.
use Rattle.std.proofs.Common.{◌≡◌, ◌≤◌, ◌∙◌, true, sym, arith}
use Rattle.std.proofs.lemmas.Grind.{common_steps}
use Rattle.model.specs.declared.Opening.{Opening}
use Rattle.model.specs.Opening.{all_true, number_rules, region_rules, within_rule, apart_rule, admits, listed, opens}
use Rattle.model.proofs.Rules.{numbers_mean, listed_mean}
use Rattle.opening.proofs.CardRuns.{few_runs}
use Rattle.opening.proofs.admits.Goals as goal

few_regions : (o : Opening) → all_true (number_rules o) ≡ true → o.regions ≤ 8
few_regions o h = (numbers_mean o h).most_regions

pub lengths-requires : goal.lengths-requires
lengths-requires c =
    let n = numbers_mean c.args.o (sym c.numbers.ensures ∙ c.if-numbers.true) in
    (n.most_buffers, (n.most_capacity, (n.most_depth, n.most_regions)))

pub each_region-requires : goal.each_region-requires
unfolding listed
each_region-requires c = grind (arith, few_regions, listed_mean)

pub ids_rule-requires : goal.ids_rule-requires
unfolding listed
ids_rule-requires c = grind (arith, few_regions, listed_mean)

pub within_rule-requires : goal.within_rule-requires
unfolding listed
within_rule-requires c = grind (arith, listed_mean, few_runs)

pub apart_rule-requires : goal.apart_rule-requires
unfolding listed
apart_rule-requires c = grind (arith, listed_mean, few_runs)

pub returns-then-within_rule : goal.returns-then-within_rule
unfolding opens admits region_rules all_true listed within_rule apart_rule
returns-then-within_rule c = grind (arith, common_steps)

pub returns-else-within_rule : goal.returns-else-within_rule
unfolding opens admits region_rules all_true listed within_rule apart_rule
returns-else-within_rule c = grind (arith, common_steps)
