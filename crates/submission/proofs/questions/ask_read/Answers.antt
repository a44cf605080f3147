-- `questions::ask_read` meets its contract: what it reads of the words is what the state holds (Asking).
use Rattle.std.proofs.Common.{◌∙◌, rules}
use Rattle.std.proofs.lemmas.Result.{err_from_is_err_and}
use Rattle.step.specs.Questions.{ask, read_questions}
use Rattle.submission.proofs.Asking.{foreign, below_by, read_asked}
use Rattle.submission.proofs.questions.ask_read.Goals as goal

pub returns-in_err-ask : goal.returns-in_err-ask
unfolding ask
returns-in_err-ask c = λ s r. let w = r.words in search rules

pub returns-in_err-ask-2 : goal.returns-in_err-ask-2
unfolding read_questions
returns-in_err-ask-2 c =
    let a = c.args in
    let p = err_from_is_err_and c.from_residual-in_err-ask-2.result c.from_residual-in_err-ask-2.ensures.1 in
    λ s r. rw (p.1, p.2) (foreign s a.counts a.store.now a.owners.now a.q _ r _ (c.settings-o.ensures r.words) _ c.in_err-ask-2.ensures)

pub returns : goal.returns
returns c =
    let a = c.args in
    λ s r.
    c.read_answers.ensures
    ∙ read_asked s a.counts a.store.now a.owners.now a.q r c.settings-o.result c.region_at-g.result c.held-held.result
    (record { settings = c.settings-o.ensures r.words; below = below_by a.q c.settings-o.result c.in_ok-ask-2.ensures; region = c.region_at-g.ensures; holder = c.held-held.ensures })
