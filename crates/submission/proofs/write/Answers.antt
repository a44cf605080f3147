-- `submission::write` meets its contract: the questions' answer decides (Deciding).
use Rattle.model.specs.declared.Kind.TheVariants.{Page}
use Rattle.step.specs.Questions.{write_questions}
use Rattle.step.specs.Step.{start_of, write_verdict}
use Rattle.step.proofs.Answers.{write_passed}
use Rattle.submission.proofs.Deciding.{decides}
use Rattle.submission.proofs.write.Goals as goal

pub returns : goal.returns
unfolding write_verdict
returns c =
    let a = c.args in
    decides write_questions write_passed (λ q end. Page (start_of q) end) a.counts a.store.now a.free.now a.owners.now a.q
    c.ask_write-asked.result c.ask_write-asked.ensures c.end_of.result c.end_of.ensures c.decide.result c.decide.ensures
