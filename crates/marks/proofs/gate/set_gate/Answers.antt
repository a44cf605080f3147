-- `gate::set_gate` meets its contract: mark 0 is the gate.
use mathlib.Core.Path.{refl}
use Prim.Native.Nat.{ℕ}
use lib.Dec.{lit<}
use mathlib.Core.Path.{subst}
use Rattle.model.specs.declared.Call.TheVariants.{SetGate}
use Rattle.step.specs.Step.{called, with_gate}
use Rattle.marks.specs.Marks.{gate_word, SetsMark}
use Rattle.marks.proofs.Marks.{gate_set}
use Rattle.marks.proofs.Setting.{sets}
use Rattle.marks.proofs.gate.set_gate.Goals as goal

pub returns : goal.returns
unfolding called
returns c =
    let a = c.args in
    let r = c.set_mark in
    sets (SetGate a.handle a.gate) a.handle 0 (gate_word a.gate) (λ g. with_gate g a.gate) (λ s. refl) (lit< tt) (λ marks ws l. gate_set marks ws a.gate l) a.row a.store.now r.result r.new.store
    (subst (λ (w : ℕ). SetsMark a.row a.handle 0 w a.store.now r.result r.new.store) c.gate_word.ensures r.ensures)
