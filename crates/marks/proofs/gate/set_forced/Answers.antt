-- `gate::set_forced` meets its contract: mark 2 is forced.
use mathlib.Core.Path.{refl}
use Prim.Native.Nat.{ℕ}
use lib.Dec.{lit<}
use mathlib.Core.Path.{subst}
use Rattle.model.specs.declared.Call.TheVariants.{SetForced}
use Rattle.model.specs.Memory.{word01}
use Rattle.step.specs.Step.{called, with_forced}
use Rattle.marks.specs.Marks.{SetsMark}
use Rattle.marks.proofs.Marks.{forced_set}
use Rattle.marks.proofs.Setting.{sets}
use Rattle.marks.proofs.gate.set_forced.Goals as goal

pub returns : goal.returns
unfolding called
returns c =
    let a = c.args in
    let r = c.set_mark in
    sets (SetForced a.handle a.on) a.handle 2 (word01 a.on) (λ g. with_forced g a.on) (λ s. refl) (lit< tt) (λ marks ws l. forced_set marks ws a.on l) a.row a.store.now r.result r.new.store
    (subst (λ (w : ℕ). SetsMark a.row a.handle 2 w a.store.now r.result r.new.store) c.flag_word.ensures r.ensures)
