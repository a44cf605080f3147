-- `issue::issue` meets its contract: each arm knows the verdict, and there the definitions compute.
use Rattle.std.proofs.Common.{true, sym, ap, ◌∙◌}
use Rattle.completion.specs.declared.Reply.TheVariants.{Piece as piece}
use Rattle.step.specs.Step.{Verdict}
use Rattle.optable.specs.declared.Frees.TheVariants.{Nothing as none}
use Rattle.submission.specs.Touched.{issued, owners_after}
use Rattle.submission.proofs.issue.issue.Goals as goal

pub returns-in-Err : goal.returns-in-Err
unfolding issued owners_after
returns-in-Err c =
    let a = c.args in
    let is = c.in-Err.is in
    (c.away.ensures ∙ sym (ap (λ (v : Verdict). issued v a.row a.seq a.q) is), sym (ap (λ (v : Verdict). owners_after v a.q a.owners.now) is))

pub returns-in-Ok : goal.returns-in-Ok
unfolding issued owners_after
returns-in-Ok c =
    let a = c.args in
    let is = c.in-Ok.is in
    let p = c.in-Ok.accepted.piece in
    ((λ i. record { row = c.start.ensures i; accepts = true; frees = none; reply = piece (c.queue_tag.ensures i) p.offset p.count a.q.buffer }) ∙ sym (ap (λ (v : Verdict). issued v a.row a.seq a.q) is), c.lend.ensures ∙ sym (ap (λ (v : Verdict). owners_after v a.q a.owners.now) is))
