-- `entry::table_answer` meets its contract, by whether the code names an answer.
use mathlib.Core.Path.{refl, ap}
use mathlib.Core.Option.{none}
use Rattle.arrival.specs.Arrived.{arrived_call}
use Rattle.abi.specs.Asked.{answer_form, answering}
use Rattle.entry.specs.Entry.{AnswersOut, nameless_words}
use Rattle.entry.proofs.Forms.{by_form}
use borrow.Author.Rules.{rules}
use Rattle.entry.proofs.table_answer.Goals as goal

pub returns-in-Some : goal.returns-in-Some
unfolding AnswersOut arrived_call answering
returns-in-Some c =
    let form = c.answer_form-named in
    let a = c.args in
    let z = by_form (answering a.qtag a.back a.flushes) form.result (answer_form a.form a.count a.raw a.media) form.ensures _ (ap (answering a.qtag a.back a.flushes) c.in-Some.is) _ _ _ c.arrived.ensures.calls in
    search rules

pub returns-in-None : goal.returns-in-None
unfolding AnswersOut nameless_words answering
returns-in-None c =
    let form = c.answer_form-named in
    let a = c.args in
    by_form (answering a.qtag a.back a.flushes) form.result (answer_form a.form a.count a.raw a.media) form.ensures none (ap (answering a.qtag a.back a.flushes) c.in-None.is) _ _ _ (refl, c.nameless.ensures)
