-- `runs::run_of` meets its contract. Words too few hold no map; else the run found by halving is the map's (Found).
use Rattle.std.proofs.Common.{ℕ, List, get_or, arith}
use Rattle.regionmap.proofs.Found.{EndIs, end_next, end_last, found_first, found_further}
use Rattle.regionmap.proofs.runs.run_of.Goals as goal
use Rattle.regionmap.proofs.runs.run_of.Goals.{Joined-k-count, then-k-count, else-k-count}

abbrev words : Joined-k-count → List ℕ
words c = c.args.map.now

-- what the code took for the run's end
ends : (c : Joined-k-count) → EndIs (words c) (get_or (words c) 3 0) c.runs_up_to-k.result c.if-k-count.end
ends c = elim c.if-k-count.branch [ then-k-count w ↦ end_next w.if-k-count.true w.end-is | else-k-count w ↦ end_last w.if-k-count.false w.end-is ]

pub returns-then-k-eq0-clause-value : goal.returns-then-k-eq0-clause-value
returns-then-k-eq0-clause-value c =
    let j = (goal.at.returns-then-k-eq0-clause-value c).Joined-k-count in
    λ h. found_first _ h _ _ _ j.runs_up_to-k.ensures (ends j) c.if-k-eq0.true

pub returns-clause-value : goal.returns-clause-value
returns-clause-value c =
    let j = (goal.at.returns-clause-value c).Joined-k-count in
    λ h. found_further _ h _ _ _ j.runs_up_to-k.ensures (ends j) (omega (arith, c.if-k-eq0.false))
