-- `settings::mark` meets its contract: each arm is what its function ensures.
use Rattle.entry.proofs.Each.{known}
use Rattle.entry.proofs.settings.mark.Goals as goal

pub returns-in-Gate : goal.returns-in-Gate
returns-in-Gate c =
    let did = c.set_gate in
    let a = c.args in
    known c.in-Gate.is a.row a.store.now did.result _ did.ensures

pub returns-in-ReadOnly : goal.returns-in-ReadOnly
returns-in-ReadOnly c =
    let did = c.set_read_only in
    let a = c.args in
    known c.in-ReadOnly.is a.row a.store.now did.result _ did.ensures

pub returns-in-Forced : goal.returns-in-Forced
returns-in-Forced c =
    let did = c.set_forced in
    let a = c.args in
    known c.in-Forced.is a.row a.store.now did.result _ did.ensures

pub returns-in-Poison : goal.returns-in-Poison
returns-in-Poison c =
    let did = c.report_poison in
    let a = c.args in
    known c.in-Poison.is a.row a.store.now did.result _ did.ensures
