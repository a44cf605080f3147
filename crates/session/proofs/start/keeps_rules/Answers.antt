-- `start::keeps_rules` meets its contract: numbers that are too large break a rule, and with the others no sum or product exceeds 64 bits.
use mathlib.Core.Path.{sym}
use native.Mathlib.Nat.{mul-le-mul}
use native.Mathlib.Omega.{arith}
use Rattle.layout.proofs.Tests.{refused}
use Rattle.model.proofs.Laws.{opening_laws}
use Rattle.session.specs.Start.{lengths_for, keeps}
use Rattle.session.proofs.start.keeps_rules.Goals as goal

pub returns-then-o-gt4096 : goal.returns-then-o-gt4096
unfolding keeps
returns-then-o-gt4096 c =
    let a = c.args in
    sym (refused _ (λ e. let most = (opening_laws.numbers a.o a.plan.now _ e).most_depth in omega arith))

pub returns-then-o-gt4096-2 : goal.returns-then-o-gt4096-2
unfolding keeps
returns-then-o-gt4096-2 c =
    let a = c.args in
    sym (refused _ (λ e. let most = (opening_laws.numbers a.o a.plan.now _ e).most_buffers in omega arith))

pub returns-then-o-gt65536 : goal.returns-then-o-gt65536
unfolding keeps
returns-then-o-gt65536 c =
    let a = c.args in
    sym (refused _ (λ e. let most = (opening_laws.numbers a.o a.plan.now _ e).most_capacity in omega arith))

pub returns-then-o-gt8 : goal.returns-then-o-gt8
unfolding keeps
returns-then-o-gt8 c =
    let a = c.args in
    sym (refused _ (λ e. let most = (opening_laws.numbers a.o a.plan.now _ e).most_regions in omega arith))

pub overflow_mul-l-3 : goal.overflow_mul-l-3
overflow_mul-l-3 c = let a = c.args in let most = mul-le-mul {n₁ = a.o.buffers} {m₁ = a.o.capacity} {n₂ = 4096} {m₂ = 65536} (omega arith) (omega arith) in omega (arith, most)

pub returns : goal.returns
unfolding keeps lengths_for
returns c = c.admits.ensures
