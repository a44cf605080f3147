-- `lastpiece::last_read` meets its contract: its parts are what the callees ensure.
use Rattle.std.proofs.Common.{sym, ◌∙◌, ap₂}
use Rattle.step.specs.Rules.{buffer_as, range_of, first_of, last_of, last_piece}
use Rattle.settle.specs.Finished.{cause_is, fate_by, plan_with}
use Rattle.settle.proofs.Settling.{same_end}
use Rattle.settle.proofs.lastpiece.last_read.Goals as goal

pub returns : goal.returns
unfolding fate_by cause_is plan_with range_of first_of last_of last_piece
returns c =
    let back = c.args.back in
    λ o m first row flushes own fits bytes.
    same_end (c.read_outcome.ensures fits)
    (c.buffer_as.ensures ∙ ap₂ (buffer_as back) (sym own) (c.read_length.ensures fits))
    (c.turn_back.ensures bytes)
