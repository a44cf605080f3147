-- `gate::set_mark` meets its contract: by the tests.
use mathlib.Core.Path.{refl}
use native.Mathlib.Omega.{arith}
use Rattle.model.specs.Memory.{settings_in}
use Rattle.marks.proofs.gate.set_mark.Goals as goal

pub returns-then-store-lt-HEAD : goal.returns-then-store-lt-HEAD
returns-then-store-lt-HEAD c =
    record { unknown = λ l h. absurd (omega (arith, l)); known = λ l h. absurd (omega (arith, l)); short = λ l. refl }

pub returns-then-store-handle : goal.returns-then-store-handle
unfolding settings_in
returns-then-store-handle c =
    record { unknown = λ l h. (c.away-then-store-handle.ensures, refl); known = λ l h. absurd (omega (arith, h, c.if-store-handle.true)); short = λ l. refl }

pub returns : goal.returns
unfolding settings_in
returns c =
    record { unknown = λ l h. absurd (omega (arith, h, c.if-store-handle.false)); known = λ l h. (refl, c.put_mark.ensures); short = λ l. absurd (omega (arith, l)) }
