-- `lookup::reply` meets its contract, case by case.
use Rattle.std.proofs.Common.{sym, ap, ◌∙◌}
use Rattle.completion.specs.declared.Reply.TheVariants.{Mark}
use Rattle.model.specs.declared.Lookup.{Lookup}
use Rattle.optable.specs.Looked.{replies_as}
use Rattle.optable.proofs.lookup.reply.Goals as goal

pub returns-in-WritesLive : goal.returns-in-WritesLive
unfolding replies_as
returns-in-WritesLive c =
    let a = c.args in
    sym (ap (λ (x : Lookup). replies_as x a.counts a.l) c.in-WritesLive.is)

pub returns-in-Mark : goal.returns-in-Mark
unfolding replies_as
returns-in-Mark c =
    let a = c.args in
    ap Mark c.mark.ensures ∙ sym (ap (λ (x : Lookup). replies_as x a.counts a.l) c.in-Mark.is)
