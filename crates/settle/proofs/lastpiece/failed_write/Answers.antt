-- `lastpiece::failed_write` meets its contract: its parts are what the callees ensure.
use Rattle.std.proofs.Common.{ℕ, sym, refl, ap, ◌∙◌}
use Rattle.layout.specs.Pick.{pick}
use Rattle.step.specs.Rules.{buffer_as, range_of, first_of, last_of, cause_of, last_piece}
use Rattle.settle.specs.Finished.{cause_is, fate_by, plan_with}
use Rattle.settle.proofs.Settling.{same_end}
use Rattle.settle.proofs.lastpiece.failed_write.Goals as goal

pub returns : goal.returns
unfolding fate_by cause_is plan_with range_of first_of last_of cause_of last_piece pick
returns c =
    let a = c.args in
    λ o m first row flushes own unwritten bytes.
    rw (unwritten, c.error_of.ensures)
    (same_end refl (c.buffer_as.ensures ∙ ap (λ (b : ℕ). buffer_as a.back b a.s.total) (sym own)) (c.turn_back.ensures bytes))
