-- `poison::report_poison` meets its contract: the cause's error is a u32.
use Rattle.marks.proofs.Raw.{cause_fits}
use Rattle.marks.proofs.Poisoning.{reports}
use Rattle.marks.proofs.poison.report_poison.Goals as goal

pub returns : goal.returns
returns c =
    let a = c.args in
    let r = c.poison in
    reports a.cause (cause_fits a.cause _ c.well_formed.1.1.0) a.row a.store.now r.new.store r.ensures
