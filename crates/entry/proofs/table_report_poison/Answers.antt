-- `entry::table_report_poison` meets its contract, by whether the code names a cause.
use mathlib.Core.Path.{refl, ap}
use mathlib.Core.Option.{none}
use Rattle.abi.specs.Asked.{cause_form, poisoning}
use Rattle.entry.specs.Entry.{AnswersOut, nameless_words}
use Rattle.entry.proofs.Forms.{by_form}
use borrow.Author.Rules.{rules}
use Rattle.entry.proofs.table_report_poison.Goals as goal

pub returns-in-Some : goal.returns-in-Some
unfolding AnswersOut poisoning
returns-in-Some c =
    let form = c.cause_form-named in
    let a = c.args in
    let z = by_form poisoning form.result (cause_form a.op a.has a.raw) form.ensures _ (ap poisoning c.in-Some.is) _ _ _ c.set.ensures.calls in
    search rules

pub returns-in-None : goal.returns-in-None
unfolding AnswersOut nameless_words poisoning
returns-in-None c =
    let form = c.cause_form-named in
    let a = c.args in
    by_form poisoning form.result (cause_form a.op a.has a.raw) form.ensures none (ap poisoning c.in-None.is) _ _ _ (refl, c.nameless.ensures)
