-- `poison::poison` meets its contract: where the store is not poisoned yet the four words are stored, and otherwise nothing is.
use mathlib.Core.Path.{sym, ◌∙◌}
use native.Mathlib.Omega.{arith}
use lib.ListN.{get_or, length-set}
use Rattle.marks.proofs.Words.{flag_on, flag_off, cause_at, poisoned_short, poisoned_first, poisoned_new}
use Rattle.marks.proofs.poison.poison.Goals as goal

pub returns-then-store-lt-HEAD : goal.returns-then-store-lt-HEAD
returns-then-store-lt-HEAD c =
    let a = c.args in
    sym (poisoned_short a.cause a.store.now (omega arith))

pub returns-then-store-ne0 : goal.returns-then-store-ne0
returns-then-store-ne0 c =
    let a = c.args in
    sym (poisoned_first a.cause a.store.now (omega arith) (flag_on (get_or a.store.now 19 0) c.if-store-ne0.true))

pub bounds-store-20 : goal.bounds-store-20
bounds-store-20 c = simp length-set (omega arith)

pub bounds-store-21 : goal.bounds-store-21
bounds-store-21 c = simp length-set (omega arith)

pub bounds-store-22 : goal.bounds-store-22
bounds-store-22 c = simp length-set (omega arith)

pub returns : goal.returns
returns c =
    let a = c.args in
    (λ i. cause_at (c.op_word.ensures i) (c.has_word.ensures i) (c.raw_word.ensures i) a.store.now)
    ∙ sym (poisoned_new a.cause a.store.now (omega arith) (flag_off (get_or a.store.now 19 0) c.if-store-ne0.false))
