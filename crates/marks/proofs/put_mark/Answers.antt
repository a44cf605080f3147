-- `marks::put_mark` meets its contract: by the tests, and where the word is not there storing it changes nothing.
use mathlib.Core.Path.{sym, ◌∙◌}
use Prim.Native.Nat.{◌+◌, ◌*◌}
use native.Mathlib.Omega.{arith}
use lib.Seq.{set_out}
use Rattle.marks.proofs.Words.{marked_in_lem, marked_handle, marked_mark}
use Rattle.marks.proofs.put_mark.Goals as goal

pub returns-then-handle-ge8 : goal.returns-then-handle-ge8
returns-then-handle-ge8 c =
    let a = c.args in
    sym (marked_handle a.handle a.mark a.word a.store.now (omega arith))

pub returns-then-mark-ge3 : goal.returns-then-mark-ge3
returns-then-mark-ge3 c =
    let a = c.args in
    sym (marked_mark a.handle a.mark a.word a.store.now (omega arith) (omega arith))

pub returns-then-at-store : goal.returns-then-at-store
returns-then-at-store c =
    let a = c.args in
    sym (marked_in_lem a.handle a.mark a.word a.store.now (omega arith) (omega arith))

pub returns-else-at-store : goal.returns-else-at-store
returns-else-at-store c =
    let a = c.args in
    sym (marked_in_lem a.handle a.mark a.word a.store.now (omega arith) (omega arith) ∙ set_out a.store.now (24 + 3 * a.handle + a.mark) a.word (omega arith))
