-- A line of an open table: its part of the pool is lent, and the rest stays.
use mathlib.Core.Path.{◌≡◌, ap, subst}
use mathlib.Core.List.{List, ◌++◌}
use Prim.Native.Nat.{ℕ, min}
use lib.ListN.{length, take, drop}
use Rattle.layout.proofs.Cuts.{take_cut, drop_cut}
use Rattle.model.specs.declared.Counts.{Counts}
use Rattle.model.specs.declared.Row.{Row}
use Rattle.optable.specs.Called.{lent_of}
use Rattle.parser.specs.declared.forms.Said.{Said}
use Rattle.session.specs.Asking.{held_of}
use Rattle.session.specs.Table.{Answers}
use Rattle.session.specs.declared.Stage.TheVariants.{Table}
use Rattle.session.specs.Unopened.{stood_at}
use Rattle.session.specs.Opened.{part_of, joined, TableLine}

pub part_answered : (n k : ℕ) (said said' : Said) → said ≡ said' → (number flushes : ℕ) (counts : Counts) (rows : List Row) (store free ready owners pool plan : List ℕ) → k ≡ min n (length pool)
    → (flushes' : ℕ) (counts' : Counts) (rows' : List Row) (store' free' ready' owners' pool' text : List ℕ)
    → Answers said number (held_of flushes counts (lent_of rows store free ready owners (take k pool))) (held_of flushes' counts' (lent_of rows' store' free' ready' owners' pool')) text
    → TableLine n said' number (stood_at (Table n) plan flushes counts (lent_of rows store free ready owners pool)) (stood_at (Table n) plan flushes' counts' (lent_of rows' store' free' ready' owners' (pool' ++ drop k pool))) text
unfolding part_of joined
part_answered n k said said' is number flushes counts rows store free ready owners pool plan e flushes' counts' rows' store' free' ready' owners' pool' text a =
    let part = held_of flushes' counts' (lent_of rows' store' free' ready' owners' pool') in
    record {
      part = part;
      answers =
          subst (λ (x : Said × List ℕ). Answers x.0 number (held_of flushes counts (lent_of rows store free ready owners x.1)) part text)
          (λ j. (is j, take_cut n k pool e j)) a;
      stood = ap (λ (l : List ℕ). stood_at (Table n) plan flushes' counts' (lent_of rows' store' free' ready' owners' (pool' ++ l))) (drop_cut n k pool e);
    }
