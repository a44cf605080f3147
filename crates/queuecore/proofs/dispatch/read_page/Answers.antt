-- `dispatch::read_page` meets its contract: the verdict, and what `issue` leaves of it, is one step (Touching).
use mathlib.Core.Path.{refl}
use Rattle.model.specs.declared.Call.TheVariants.{ReadPage}
use Rattle.model.specs.declared.Kind.TheVariants.{Read}
use Rattle.step.specs.Questions.{region_at, first_no, read_questions}
use Rattle.step.specs.Step.{start_of, end_of, read_verdict, called}
use Rattle.step.proofs.Answers.{read_passed}
use Rattle.optable.specs.Called.{place_of}
use Rattle.queuecore.proofs.Touching.{went, submits}
use Rattle.queuecore.proofs.dispatch.read_page.Goals as goal

pub returns : goal.returns
unfolding called read_verdict place_of
returns c =
    let a = c.args in
    submits read_verdict (ReadPage a.q) a.q (λ x. refl) (λ x. went (first_no (read_questions x (region_at x a.q.handle) a.q)) x (Read (start_of a.q) (end_of a.q)) a.q (read_passed x a.q))
    a.counts a.rows a.store.now a.free.now a.owners.now refl c.read_page-v.result c.read_page-v.ensures a.row c.issue.result _ c.issue.ensures.0 c.issue.ensures.1
