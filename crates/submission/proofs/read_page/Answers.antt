-- `submission::read_page` meets its contract: the questions' answer decides (Deciding).
use Rattle.model.specs.declared.Kind.TheVariants.{Read}
use Rattle.step.specs.Questions.{read_questions}
use Rattle.step.specs.Step.{start_of, read_verdict}
use Rattle.step.proofs.Answers.{read_passed}
use Rattle.submission.proofs.Deciding.{decides}
use Rattle.submission.proofs.read_page.Goals as goal

pub returns : goal.returns
unfolding read_verdict
returns c =
    let a = c.args in
    decides read_questions read_passed (λ q end. Read (start_of q) end) a.counts a.store.now a.free.now a.owners.now a.q
    c.ask_read-asked.result c.ask_read-asked.ensures c.end_of.result c.end_of.ensures c.decide.result c.decide.ensures
