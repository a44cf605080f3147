-- `dispatch::write` meets its contract: the verdict, and what `issue` leaves of it, is one step (Touching).
use mathlib.Core.Path.{refl}
use Rattle.model.specs.declared.Call.TheVariants.{Write}
use Rattle.model.specs.declared.Kind.TheVariants.{Page}
use Rattle.step.specs.Questions.{region_at, first_no, write_questions}
use Rattle.step.specs.Step.{start_of, end_of, write_verdict, called}
use Rattle.step.proofs.Answers.{write_passed}
use Rattle.optable.specs.Called.{place_of}
use Rattle.queuecore.proofs.Touching.{went, submits}
use Rattle.queuecore.proofs.dispatch.write.Goals as goal

pub returns : goal.returns
unfolding called write_verdict place_of
returns c =
    let a = c.args in
    submits write_verdict (Write a.q) a.q (λ x. refl) (λ x. went (first_no (write_questions x (region_at x a.q.handle) a.q)) x (Page (start_of a.q) (end_of a.q)) a.q (write_passed x a.q))
    a.counts a.rows a.store.now a.free.now a.owners.now refl c.write-v.result c.write-v.ensures a.row c.issue.result _ c.issue.ensures.0 c.issue.ensures.1
