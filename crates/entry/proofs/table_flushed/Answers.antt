-- `entry::table_flushed` meets its contract, by whether the code names a flush result.
use mathlib.Core.Path.{refl, ap}
use mathlib.Core.Option.{none}
use Rattle.arrival.specs.Arrived.{arrived_call}
use Rattle.abi.specs.Asked.{flushed_form, flushing}
use Rattle.entry.specs.Entry.{AnswersOut, nameless_words}
use Rattle.entry.proofs.Forms.{by_form}
use borrow.Author.Rules.{rules}
use Rattle.entry.proofs.table_flushed.Goals as goal

pub returns-in-Some : goal.returns-in-Some
unfolding AnswersOut arrived_call flushing
returns-in-Some c =
    let form = c.flushed_form-named in
    let a = c.args in
    let z = by_form (flushing a.qtag) form.result (flushed_form a.form a.need a.op a.has a.raw) form.ensures _ (ap (flushing a.qtag) c.in-Some.is) _ _ _ c.arrived.ensures.calls in
    search rules

pub returns-in-None : goal.returns-in-None
unfolding AnswersOut nameless_words flushing
returns-in-None c =
    let form = c.flushed_form-named in
    let a = c.args in
    by_form (flushing a.qtag) form.result (flushed_form a.form a.need a.op a.has a.raw) form.ensures none (ap (flushing a.qtag) c.in-None.is) _ _ _ (refl, c.nameless.ensures)
