-- `gate::set_read_only` meets its contract: mark 1 is read-only.
use mathlib.Core.Path.{refl}
use Prim.Native.Nat.{ℕ}
use lib.Dec.{lit<}
use mathlib.Core.Path.{subst}
use Rattle.model.specs.declared.Call.TheVariants.{SetReadOnly}
use Rattle.model.specs.Memory.{word01}
use Rattle.step.specs.Step.{called, with_read_only}
use Rattle.marks.specs.Marks.{SetsMark}
use Rattle.marks.proofs.Marks.{read_only_set}
use Rattle.marks.proofs.Setting.{sets}
use Rattle.marks.proofs.gate.set_read_only.Goals as goal

pub returns : goal.returns
unfolding called
returns c =
    let a = c.args in
    let r = c.set_mark in
    sets (SetReadOnly a.handle a.on) a.handle 1 (word01 a.on) (λ g. with_read_only g a.on) (λ s. refl) (lit< tt) (λ marks ws l. read_only_set marks ws a.on l) a.row a.store.now r.result r.new.store
    (subst (λ (w : ℕ). SetsMark a.row a.handle 1 w a.store.now r.result r.new.store) c.flag_word.ensures r.ensures)
