-- `take::take` meets its contract: what its callees read, took and wrote.
use Rattle.std.proofs.Common.{refl, rules}
use Rattle.arrival.proofs.Taking.{none_taken, one_taken_lem}
use Rattle.arrival.proofs.take.take.Goals as goal

pub returns-then-counts-eq0 : goal.returns-then-counts-eq0
returns-then-counts-eq0 c = record { takes_to = none_taken _ _ _ _ _ (search rules); no_row = refl }

pub returns : goal.returns
returns c =
    let a = c.args in record {
      takes_to = one_taken_lem a.row a.counts a.store.now a.ready.now a.owners.now c.if-counts-eq0.false c.settings-o.result c.settings-o.ensures
          c.oldest-c.result c.oldest-c.ensures _ _ c.pop.ensures c.give_back.ensures;
      no_row = refl;
    }
