-- `entry::table_set_gate` meets its contract, by whether the code names a gate.
use mathlib.Core.Path.{refl, ap}
use mathlib.Core.Option.{none}
use Rattle.abi.specs.Asked.{gate_form, gating}
use Rattle.entry.specs.Entry.{AnswersOut, nameless_words}
use Rattle.entry.proofs.Forms.{by_form}
use borrow.Author.Rules.{rules}
use Rattle.entry.proofs.table_set_gate.Goals as goal

pub returns-in-Some : goal.returns-in-Some
unfolding AnswersOut gating
returns-in-Some c =
    let form = c.gate_form-named in
    let a = c.args in
    let z = by_form (gating a.handle) form.result (gate_form a.gate) form.ensures _ (ap (gating a.handle) c.in-Some.is) _ _ _ c.set.ensures.calls in
    search rules

pub returns-in-None : goal.returns-in-None
unfolding AnswersOut nameless_words gating
returns-in-None c =
    let form = c.gate_form-named in
    let a = c.args in
    by_form (gating a.handle) form.result (gate_form a.gate) form.ensures none (ap (gating a.handle) c.in-None.is) _ _ _ (refl, c.nameless.ensures)
